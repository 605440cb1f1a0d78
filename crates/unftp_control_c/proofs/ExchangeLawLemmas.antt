-- Bytes are read as one list of replies, or in one way as none.
use Rattle.std.proofs.Common.{◌≡◌, ◌≢◌, List, [], ◌∷◌, drop, length, Ok, Err, refl, sym, ap, subst, ◌∙◌, arith, length-append}
use Rattle.unftp_control_defs.specs.Bytes.{Bytes, crlf}
use Rattle.unftp_control_defs.specs.ReplyReader.{HasFront, IsMalformed, with_crlf}
use Rattle.unftp_control_defs.specs.TakingSteps.{AreReplies}
use Rattle.unftp_control_defs.proofs.ReplyLemmas.{FrontReply-unique, none_of_nothing}
use Rattle.unftp_control_log.specs.Exchanges.{Read}
use Rattle.unftp_control_c.specs.declared.status.Status.TheVariants.{InvalidArgument, Malformed, More, OutOfMemory}
use Rattle.unftp_control_c.specs.Areas.{Made}
use Rattle.unftp_control_c.specs.ExchangeLines.{ArePrintable, EndsIn, IsCutOff, IsExchangeLine, shown_exchange}

pub malformed_front : (bytes : Bytes) → IsMalformed bytes → ¬ HasFront bytes
malformed_front bytes malformed front =
    malformed.opens_none (malformed.rest, subst HasFront malformed.cut front)

not_nothing : (rest : Bytes) → IsMalformed rest → rest ≢ []
not_nothing rest malformed is = omega (
  arith,
  ap length (sym is ∙ malformed.cut),
  length-append (with_crlf malformed.first) malformed.rest,
  length-append malformed.first crlf,
)

-- replies after which none begins are all of them, and what is after them is the same
unique : (bytes : Bytes) (replies others : List Read) {rest end : Bytes}
    → AreReplies bytes replies rest → ¬ HasFront rest
    → AreReplies bytes others end → ¬ HasFront end → (replies ≡ others) × (rest ≡ end)
unique bytes [] [] are none others_are ended = (refl, are ∙ sym others_are)
unique bytes [] (q ∷ others) are none (next, takes, more) ended =
    absurd (none (subst HasFront (sym are) (q.0, q.1, takes.used, takes.front)))
unique bytes (p ∷ replies) [] (next, takes, more) none are ended =
    absurd (ended (subst HasFront (sym are) (p.0, p.1, takes.used, takes.front)))
unique bytes (p ∷ replies) (q ∷ others) {rest} {end} (next, takes, more) none
    (other_next, other_takes, other_more) ended =
    let same = FrontReply-unique takes.front other_takes.front in
    let following : other_next ≡ next = other_takes.after_is
    ∙ ap (λ used. drop used bytes) (sym same.2) ∙ sym takes.after_is in
    let later = unique next replies others more none
    (subst (λ bytes. AreReplies bytes others end) following other_more) ended in
    (λ i. (same.0 i, same.1 i) ∷ later.0 i, later.1)

-- what is said of a line and its replies
data Reading (shown bytes : Bytes) : Made → Type 0 where
  unprintable : ¬ ArePrintable shown → Reading shown bytes (Err InvalidArgument)
  whole : ArePrintable shown → (replies : List Read) → AreReplies bytes replies []
      → Reading shown bytes (Ok (shown_exchange shown replies))
  cut_off : ArePrintable shown → EndsIn IsCutOff bytes → Reading shown bytes (Err More)
  malformed : ArePrintable shown → EndsIn IsMalformed bytes
      → Reading shown bytes (Err Malformed)

module _ (shown bytes : Bytes) where
  reading : (text : Made) → IsExchangeLine shown bytes text → text ≢ Err OutOfMemory
      → Reading shown bytes text
  reading (Ok text) (printable, replies, are, is) memory =
      subst (λ text. Reading shown bytes (Ok text)) (sym is) (whole printable replies are)
  reading (Err InvalidArgument) none memory = unprintable none
  reading (Err More) (printable, ends) memory = cut_off printable ends
  reading (Err Malformed) (printable, ends) memory = malformed printable ends
  reading (Err OutOfMemory) why memory = absurd (memory refl)
  reading (Err _) why memory = absurd why.1

  same_reading : (text other : Made) → Reading shown bytes text → Reading shown bytes other
      → text ≡ other
  same_reading _ _ (unprintable none) (unprintable other) = refl
  same_reading _ _ (unprintable none) (whole printable _ _) = absurd (none printable)
  same_reading _ _ (unprintable none) (cut_off printable _) = absurd (none printable)
  same_reading _ _ (unprintable none) (malformed printable _) = absurd (none printable)
  same_reading _ _ (whole printable _ _) (unprintable none) = absurd (none printable)
  same_reading _ _ (cut_off printable _) (unprintable none) = absurd (none printable)
  same_reading _ _ (malformed printable _) (unprintable none) = absurd (none printable)
  same_reading _ _ (whole _ replies are) (whole _ others others_are) =
      ap (λ replies. Ok (shown_exchange shown replies))
      (unique bytes replies others are none_of_nothing others_are none_of_nothing).0
  same_reading _ _ (whole _ replies are) (cut_off _ (others, rest, ends, (some, partial))) =
      absurd (some (sym (unique bytes replies others are none_of_nothing ends partial.0).1))
  same_reading _ _ (cut_off _ (others, rest, ends, (some, partial))) (whole _ replies are) =
      absurd (some (sym (unique bytes replies others are none_of_nothing ends partial.0).1))
  same_reading _ _ (whole _ replies are) (malformed _ (others, rest, ends, is)) =
      absurd (not_nothing rest is (sym (unique bytes replies others are none_of_nothing ends
      (malformed_front rest is)).1))
  same_reading _ _ (malformed _ (others, rest, ends, is)) (whole _ replies are) =
      absurd (not_nothing rest is (sym (unique bytes replies others are none_of_nothing ends
      (malformed_front rest is)).1))
  same_reading _ _ (cut_off _ first) (cut_off _ second) = refl
  same_reading _ _ (malformed _ first) (malformed _ second) = refl
  same_reading _ _ (cut_off _ (replies, rest, are, (some, partial)))
      (malformed _ (others, end, ends, is)) =
      let same = unique bytes replies others are partial.0 ends (malformed_front end is) in
      absurd (partial.1 (subst IsMalformed (sym same.1) is))
  same_reading _ _ (malformed _ (others, end, ends, is))
      (cut_off _ (replies, rest, are, (some, partial))) =
      let same = unique bytes replies others are partial.0 ends (malformed_front end is) in
      absurd (partial.1 (subst IsMalformed (sym same.1) is))

  pub one_line : (text other : Made) → IsExchangeLine shown bytes text
      → IsExchangeLine shown bytes other → text ≢ Err OutOfMemory → other ≢ Err OutOfMemory
      → text ≡ other
  one_line text other is other_is memory other_memory =
      same_reading text other (reading text is memory) (reading other other_is other_memory)

-- where memory ran out, there is a line
pub line_is_there : (shown bytes : Bytes) → IsExchangeLine shown bytes (Err OutOfMemory)
    → (text : Bytes) × IsExchangeLine shown bytes (Ok text)
line_is_there shown bytes (printable, (replies, are)) =
    (shown_exchange shown replies, (printable, replies, are, refl))
