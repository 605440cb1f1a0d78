use Rattle.std.proofs.Common.{◌≡◌, ◌<◌, ℕ, false}
use Rattle.std.specs.Prelude.{slice_index}
use Rattle.unftp_control_defs.specs.Verbs.{is_separator}
use Rattle.unftp_control_codecs.proofs.line_parser.parser.any_verb_len.Given as goal

abbrev pub invariant-loop-at : goal.invariant-loop-at
invariant-loop-at l = (k : ℕ) → k < l.at → is_separator (slice_index l.line k) ≡ false
