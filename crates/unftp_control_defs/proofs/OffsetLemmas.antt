-- The offset of REST is read back.
use Rattle.std.proofs.Common.{◌≡◌, ◌≢◌, ◌<◌, ◌^◌, ℕ, true, length, get_or, Ok, ◌∙◌, arith}
use Rattle.std.specs.Fmt.{decimal}
use Rattle.std.specs.Str.{is_utf8, chars, all_ascii_digits}
use Rattle.std.specs.Str.Lossy.{utf8_lossy}
use Rattle.std.specs.Str.Parse.{digits_value}
use Rattle.std.proofs.lemmas.Bool.{lt-ltb}
use Rattle.std.proofs.lemmas.Fmt.{IsAscii-decimal, digits_decimal, digits_value-decimal, decimal_nonempty}
use Rattle.std.proofs.lemmas.Str.{utf8_lossy-IsUtf8, IsUtf8-from_ascii}
use Rattle.std.proofs.lemmas.Str.Parse.{IsNumeralModel, numerals_by_value, tells_all_ascii_digits, without_leading_plus_none, not_in_digits}
use Rattle.unftp_control_defs.specs.Bytes.{LF}
use Rattle.unftp_control_defs.specs.FtpCommand.{Rest}
use Rattle.unftp_control_defs.specs.Rules.{offset}
use Rattle.unftp_control_defs.specs.Outcome.{outcome}
use Rattle.unftp_control_defs.specs.Canonical.{canonical_line}
use Rattle.unftp_control_defs.proofs.LackLemmas.{Lacks-decimal}
use Rattle.unftp_control_defs.proofs.CommandRoundTripLemmas.{by_escaped}

-- a text of digits, as std reads one
own : IsNumeralModel (λ digits. all_ascii_digits digits ≡ true) (digits_value 10)
own = numerals_by_value (λ digits. all_ascii_digits digits ≡ true) tells_all_ascii_digits

module _ (n : ℕ) (fits : n < 2 ^ 64) where
  no_plus : get_or (decimal n) 0 0 ≢ 43
  no_plus = not_in_digits own (decimal n) 43 (digits_decimal own n fits) (λ r. omega arith) 0
      (decimal_nonempty n fits)

  offset-decimal : offset (utf8_lossy (decimal n)) ≡ Ok (Rest n)
  offset-decimal =
      let kept =
      utf8_lossy-IsUtf8 (decimal n) (IsUtf8-from_ascii (decimal n) (IsAscii-decimal n fits)) in
      let plain = without_leading_plus_none (decimal n) no_plus in
      let some = lt-ltb 0 (length (decimal n)) (decimal_nonempty n fits) in
      rw (
        kept,
        plain,
        some,
        digits_decimal own n fits,
        digits_value-decimal own n fits,
        lt-ltb n (2 ^ 64) fits,
      )

pub rest_back : (n : ℕ) → n < 2 ^ 64 → outcome (canonical_line (Rest n)) ≡ Ok (Rest n)
unfolding is_utf8 chars lib.Utf8.encode
rest_back n fits = by_escaped (λ v. offset (utf8_lossy v)) (decimal n)
    (Lacks-decimal LF n (omega arith)) ∙ offset-decimal n fits
