use Rattle.std.proofs.Common.{◌≡◌, ◌+◌, arith, sym}
use Rattle.unftp_control_defs.proofs.EncodingLemmas.{decimal_spells}
use Rattle.unftp_control_codecs.proofs.encoding.three_digits.Goals as goal

pub returns-in-100-to-999 : goal.returns-in-100-to-999
returns-in-100-to-999 c =
    let s = decimal_spells c.args.number (omega (arith, c.in-100-to-999)) in
    let first : c.digit.result ≡ 48 + s.0 =
    omega (arith, c.digit.ensures, s.3, s.4, s.5, s.7) in
    let second : c.digit-in-100-to-999.result ≡ 48 + s.1 =
    omega (arith, c.digit-in-100-to-999.ensures, s.3, s.4, s.5, s.7) in
    let third : c.digit-in-100-to-999-2.result ≡ 48 + s.2 =
    omega (arith, c.digit-in-100-to-999-2.ensures, s.3, s.4, s.5, s.7) in
    rw first (rw second (rw third (sym s.6)))
