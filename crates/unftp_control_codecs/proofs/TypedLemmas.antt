-- What a command with a type of its own makes of a value that is sent with NULs.
use Rattle.std.proofs.Common.{◌≡◌, refl}
use Rattle.std.specs.Str.Lossy.{utf8_lossy}
use Rattle.unftp_control_defs.specs.Bytes.{Bytes}
use Rattle.unftp_control_defs.specs.Rules.{typed_outcome, offset, structures, modes, protections, options, buffer_sizes}
use Rattle.unftp_control_defs.specs.declared.verb.Verb.{Verb}
use Rattle.unftp_control_defs.specs.declared.verb.Verb.TheVariants as verbs
use Rattle.unftp_control_message.specs.SentValues.{unescaped}
use Rattle.unftp_control_codecs.proofs.OffsetLemmas.{offset_return}
use Rattle.unftp_control_codecs.proofs.ReturnLemmas.{same_answer_unescaped, same_choice}

pub same_answer : (verb : Verb) (sent : Bytes) → (verb ≡ verbs.Auth → ⊥)
    → typed_outcome verb (unescaped sent) ≡ typed_outcome verb sent
same_answer verbs.Auth sent other = absurd (other refl)
same_answer verbs.Mode sent other = same_choice modes sent refl
same_answer verbs.Opts sent other = same_choice options sent refl
same_answer verbs.Pbsz sent other = same_choice buffer_sizes sent refl
same_answer verbs.Prot sent other = same_choice protections sent refl
same_answer verbs.Rest sent other =
    same_answer_unescaped (λ v. offset (utf8_lossy v)) offset_return sent
same_answer verbs.Stru sent other = same_choice structures sent refl
same_answer verb sent other = refl
