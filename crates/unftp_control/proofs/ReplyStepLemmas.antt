-- The replies that a client takes, step by step.
use Rattle.std.proofs.Common.{◌≡◌, ◌↔◌, ℕ, List, [], ◌∷◌, ◌++◌, drop, refl, sym, ap, subst, ◌∙◌, append_assoc}
use Rattle.std.proofs.lemmas.List.{append-nil}
use Rattle.unftp_control_defs.specs.Bytes.{Bytes}
use Rattle.unftp_control_defs.specs.ReplyReader.{HasFront, AllReplies}
use Rattle.unftp_control_defs.specs.TakingSteps.{TakesReply, AreReplies, TakingStep, Pushed, Taken, AreTakingSteps, all_pushed, all_taken}
use Rattle.unftp_control_defs.proofs.ReplyLemmas.{FrontReply-unique, TakesReply-append}

-- the replies that are taken are those of all bytes
pub steps-replies : (before : Bytes) (steps : List (TakingStep (ℕ × List Bytes))) (after : Bytes)
    → AreTakingSteps TakesReply before steps after
    → AreReplies (before ++ all_pushed steps) (all_taken steps) after
steps-replies before [] after are = are ∙ sym (append-nil before)
steps-replies before (Pushed piece ∷ steps) after are =
    let whole = append_assoc before piece (all_pushed steps) in
    subst (λ bytes. AreReplies bytes (all_taken steps) after) whole
    (steps-replies (before ++ piece) steps after are)
steps-replies before (Taken reply ∷ steps) after (following, taken, are) = (
  following ++ all_pushed steps,
  TakesReply-append (all_pushed steps) taken,
  steps-replies following steps after are,
)

-- bytes that a reply is taken from begin with it
TakesReply-front : (before : Bytes) (reply : ℕ × List Bytes) (after : Bytes)
    → TakesReply before reply after → HasFront before
TakesReply-front before reply after taken = (reply.0, reply.1, taken.used, taken.front)

-- replies that leave none at the start of what is pending go on where others end
pub AreReplies-rest : (input : Bytes) (taken all : List (ℕ × List Bytes)) {pending end : Bytes}
    → AreReplies input taken pending → AreReplies input all end → ¬ HasFront end
    → (rest : List (ℕ × List Bytes)) × (taken ++ rest ≡ all) × AreReplies pending rest end
AreReplies-rest input [] all {pending} {end} h k ended =
    (all, refl, subst (λ bytes. AreReplies bytes all end) (sym h) k)
AreReplies-rest input (p ∷ taken) [] h k ended =
    absurd (ended (subst HasFront (sym k) (TakesReply-front input p h.0 h.1)))
AreReplies-rest input (p ∷ taken) (q ∷ all) {pending} {end} h k ended =
    let same = FrontReply-unique h.1.front k.1.front in
    let dropped = ap (λ used. drop used input) (sym same.2) in
    let following : k.0 ≡ h.0 = k.1.after_is ∙ dropped ∙ sym h.1.after_is in
    let more = AreReplies-rest h.0 taken all h.2
    (subst (λ bytes. AreReplies bytes all end) following k.2) ended in
    (more.0, λ i. (same.0 i, same.1 i) ∷ more.1 i, more.2)

pub AreReplies-unique : (input : Bytes) (replies others : List (ℕ × List Bytes)) {after end : Bytes}
    → AreReplies input replies after → ¬ HasFront after
    → AreReplies input others end → ¬ HasFront end
    → (replies ≡ others) × (after ≡ end)
AreReplies-unique input replies others {after} {end} h none k ended =
    by_rest (AreReplies-rest input replies others h k ended)
  where
    by_rest : (rest : List (ℕ × List Bytes)) × (replies ++ rest ≡ others)
        × AreReplies after rest end → (replies ≡ others) × (after ≡ end)
    by_rest ([], same, are) = (sym (append-nil replies) ∙ same, sym are)
    by_rest (q ∷ rest, same, are) = absurd (none (TakesReply-front after q are.0 are.1))

-- where no bytes are after them they are all replies
pub AreReplies-all : (input : Bytes) (replies : List (ℕ × List Bytes))
    → AreReplies input replies [] ↔ AllReplies input replies
AreReplies-all input [] = (sym, sym)
AreReplies-all input (reply ∷ replies) = (
  (λ (h : AreReplies input (reply ∷ replies) []).
      let more = (AreReplies-all h.0 replies).0 h.2 in
      (h.1.used, h.1.front, subst (λ bytes. AllReplies bytes replies) h.1.after_is more)),
  (λ (h : AllReplies input (reply ∷ replies)).
      let more = (AreReplies-all (drop h.0 input) replies).1 h.2 in
      (drop h.0 input, record { used = h.0; front = h.1; after_is = refl }, more)),
)
