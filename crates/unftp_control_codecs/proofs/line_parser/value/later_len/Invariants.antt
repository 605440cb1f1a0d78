use Rattle.std.proofs.Common.{◌≡◌, ◌+◌, ℕ, length, Option, option_map}
use Rattle.unftp_control_codecs.specs.Values.{IsLaterLen}
use Rattle.unftp_control_codecs.proofs.line_parser.value.later_len.Given as goal

abbrev pub invariant-parts : goal.invariant-parts
invariant-parts l = record {
  sizes : l.len + length l.rest ≡ length l.bytes;
  later : (later : Option ℕ) → IsLaterLen l.rest later
      → IsLaterLen l.bytes (option_map (λ m. l.len + m) later);
}

abbrev pub decreases-parts : goal.decreases-parts
decreases-parts l = length l.rest
