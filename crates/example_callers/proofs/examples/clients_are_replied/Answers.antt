use Rattle.std.proofs.Common.{◌≡◌, ℕ, true, false, ◌∷◌, Ok, Err, codes, refl, sym, ap, ◌∙◌, arith}
use Rattle.std.specs.Prelude.{IsOk}
use Rattle.unftp_control_defs.specs.Bytes.{Bytes}
use Rattle.unftp_control_defs.specs.FtpCommand.{Outcome, InvalidCommand, Noop, Refusal}
use Rattle.unftp_control_defs.specs.Outcome.{outcome}
use Rattle.unftp_control_defs.proofs.LineLemmas.{Lines-lines_of}
use Rattle.unftp_control_defs.proofs.Computing.{at_bytes}
use Rattle.example_callers.specs.Forwarding.{IsReplyInPlace, not_a_line, refused, out_of_memory}
use Rattle.example_callers.proofs.examples.clients_are_replied.Goals as goal

-- the third byte of a reply, in which these differ
third : Bytes → ℕ
third (a ∷ b ∷ c ∷ bytes) = c
third _ = 0

noop : outcome (codes "NOOP\r\n") ≡ Ok Noop
unfolding at_bytes
noop = refl

no_command : IsOk (outcome (255 ∷ codes "\r\n")) → ⊥
unfolding at_bytes
no_command is = let not : false ≡ true = is in cc

no_refusal : (why : Refusal) → ◌≡◌ {A = Outcome} (Ok Noop) (Err why) → ⊥
no_refusal why e = cc

replied : IsReplyInPlace (codes "NOOP\r\n") (codes "500 Not understood\r\n") → ⊥
unfolding third
replied (not_a_line not reply) = not (Lines-lines_of (codes "NOOP\r\n")).each.0
replied (refused why means reply) = no_refusal why (sym noop ∙ means)
replied (out_of_memory has_command reply) = omega (arith, ap third reply)

no_memory : IsReplyInPlace (255 ∷ codes "\r\n") (codes "421 Out of memory\r\n") → ⊥
unfolding third
no_memory (not_a_line not reply) = omega (arith, ap third reply)
no_memory (refused why means reply) = omega (arith, ap third reply)
no_memory (out_of_memory has_command reply) = no_command has_command

other : IsReplyInPlace (codes "RETR\r\n") (codes "502 Not here\r\n") → ⊥
unfolding third
other (not_a_line not reply) = omega (arith, ap third reply)
other (refused why means reply) = omega (arith, ap third reply)
other (out_of_memory has_command reply) = omega (arith, ap third reply)

pub returns : goal.returns
unfolding at_bytes
returns c = record {
  refused = refused InvalidCommand refl refl;
  command = replied;
  memory = out_of_memory refl refl;
  no_memory = no_memory;
}
