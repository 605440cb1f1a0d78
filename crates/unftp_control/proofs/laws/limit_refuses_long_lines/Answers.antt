use Rattle.std.proofs.Common.{◌≡◌, true, ltb, length, refl}
use Rattle.std.proofs.lemmas.Bool.{lt-ltb}
use Rattle.unftp_control_defs.proofs.LineLemmas.{events-within}
use Rattle.unftp_control.proofs.laws.limit_refuses_long_lines.Goals as goal

pub returns : goal.returns
returns c = record {
  within = events-within;
  longer = λ limit line long. let over : ltb limit (length line) ≡ true =
      lt-ltb limit (length line) long in rw over refl;
}
