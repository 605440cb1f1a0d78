-- What callers make of the answers of the library.
use Rattle.std.proofs.Common.{◌≡◌, ℕ, Bool, true, false, ◌++◌, ◌==◌, ◌&&◌, Option, Some, ◌∙◌, Ok, refl, sym, ap, subst, eqb-true}
use Rattle.std.specs.List.{concat}
use Rattle.unftp_control_client.specs.Dialogue.{agrees, is_place, next_to}
use Rattle.unftp_control_client.specs.Exchange.{IsNext, MayBeginTls}
use Rattle.unftp_control_defs.specs.Input.{InputState}
use Rattle.unftp_control_read.specs.Reading.{contents}
use Rattle.unftp_control_read.specs.Receiving.{Receives}
use Rattle.unftp_control_defs.specs.TakingSteps.{TakesReply}
use Rattle.unftp_control_client.specs.declared.Client.{Client}
use Rattle.unftp_control_client.specs.declared.dialogue.ClientReply.{ClientReply}
use Rattle.unftp_control_client.specs.declared.dialogue.To.{To}
use Rattle.unftp_control_client.specs.declared.dialogue.To.TheVariants.{Command}
use Rattle.unftp_control_read.specs.declared.errors.ReceiveError.{ReceiveError}
use Rattle.example_callers.specs.NextCode.{ReadsAgreement}

-- two facts, so that a tactic rewrites both
pub both : {A B : Type 0} → A → B → A × B
both a b = (a, b)

-- where the client agrees to TLS, the reply that it took is a 234, and nothing was read after it
agrees-code : (to : To) (asked : Option ℕ) (code : ℕ) → agrees to asked code ≡ true → code ≡ 234
agrees-code (Command place) asked code e =
    eqb-true code 234 (first (code == 234) (is_place place asked) e)
  where
    first : (a b : Bool) → (a && b) ≡ true → a ≡ true
    first true b e = refl
    first false b e = absurd (cc)
agrees-code _ asked code e = absurd (cc)

pub agreement-read : (before after : Client) (input input' : InputState) (taken : ClientReply)
    → Receives before.replies input (Ok (Some taken.reply)) after.replies input'
    → IsNext {E = ReceiveError} before.dialogue (Ok (Some taken)) after.dialogue
    → MayBeginTls after → ReadsAgreement before.replies.bytes input input'
agreement-read before after input input' taken received next may = (
  concat received.pieces,
  contents taken.reply.lines,
  received.were_read.given,
  subst (λ left. TakesReply (before.replies.bytes ++ concat received.pieces)
      (234, contents taken.reply.lines) left) may.2
      (subst (λ code. TakesReply (before.replies.bytes ++ concat received.pieces)
      (code, contents taken.reply.lines) after.replies.bytes)
      (agrees-code (next_to before.dialogue) before.dialogue.asked taken.reply.code
      (sym (ap (λ d. d.agreed) next.1) ∙ may.0)) received.takes_next.takes),
)
