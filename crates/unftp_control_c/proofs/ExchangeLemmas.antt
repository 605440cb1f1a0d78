-- The replies of an exchange's line, and why there are none.
use Rattle.std.proofs.Common.{◌≡◌, Bool, Err, Global, List, [], ◌∷◌, ◌++◌, Ok, Result, Vec, ap, false, map, refl, sym, subst, ◌∙◌}
use Rattle.std.specs.Prelude.{if◌then◌else◌, is_err, is_ok}
use Rattle.std.proofs.lemmas.List.{map-append}
use Rattle.unftp_control_defs.specs.Bytes.{Bytes}
use Rattle.unftp_control_defs.specs.TakingSteps.{AreReplies, TakesReply}
use Rattle.unftp_control_read.specs.ReplyDecoding.{content}
use Rattle.unftp_control_read.specs.declared.reply.ReceivedReply.{ReceivedReply}
use Rattle.unftp_control_log.specs.Exchanges.{Read}
use Rattle.unftp_control_c.specs.declared.status.Status.{Status}
use Rattle.unftp_control_c.specs.declared.status.Status.TheVariants.{Malformed, More, OutOfMemory}
use Rattle.unftp_control_c.specs.ExchangeLines.{IsLeftUnread, IsNotRead}

-- some replies, and then others
pub AreReplies-append : (first later : List Read) (before middle after : Bytes)
    → AreReplies before first middle → AreReplies middle later after
    → AreReplies before (first ++ later) after
AreReplies-append [] later before middle after are more =
    subst (λ bytes. AreReplies bytes later after) are more
AreReplies-append (reply ∷ first) later before middle after (next, takes, are) more =
    (next, takes, AreReplies-append first later next middle after are more)

-- and then one more
pub one_more : (before : Bytes) {middle after : Bytes} (replies : List Read) {all : List Read}
    {reply : Read} → AreReplies before replies middle → TakesReply middle reply after
    → all ≡ replies ++ reply ∷ [] → AreReplies before all after
one_more before {middle} {after} replies {all} {reply} are takes is =
    subst (λ all. AreReplies before all after) (sym is)
    (AreReplies-append replies (reply ∷ []) before middle after are (after, takes, refl))

-- the replies, with one more
pub pushed_reply : {E : Type 0} (old new : Vec ReceivedReply Global) (reply : ReceivedReply)
    (result : Result (Unit {0}) E)
    → new.items ≡ (if is_ok result then old.items ++ reply ∷ [] else old.items)
    → {test : Bool} → test ≡ false → test ≡ is_err result
    → map content new.items ≡ map content old.items ++ content reply ∷ []
pushed_reply old new reply (Ok done) is kept value =
    ap (map content) is ∙ map-append content old.items (reply ∷ [])
pushed_reply old new reply (Err error) is kept value = absurd (cc)

-- after some replies the bytes are not read either
pub not_read_after : (bytes rest : Bytes) (replies : List Read) (status : Status)
    → AreReplies bytes replies rest → IsNotRead rest status → IsNotRead bytes status
not_read_after bytes rest replies More are (later, end, more, holds) =
    (replies ++ later, end, AreReplies-append replies later bytes rest end are more, holds)
not_read_after bytes rest replies Malformed are (later, end, more, holds) =
    (replies ++ later, end, AreReplies-append replies later bytes rest end are more, holds)
not_read_after bytes rest replies OutOfMemory are (later, more) =
    (replies ++ later, AreReplies-append replies later bytes rest [] are more)
not_read_after bytes rest replies _ are why = absurd why

pub left_unread_after : (bytes rest : Bytes) (replies : List Read) (status : Status)
    → AreReplies bytes replies rest → IsLeftUnread rest status → IsLeftUnread bytes status
left_unread_after bytes rest replies OutOfMemory are why = tt
left_unread_after bytes rest replies More are why = not_read_after bytes rest replies More are why
left_unread_after bytes rest replies Malformed are why =
    not_read_after bytes rest replies Malformed are why
left_unread_after bytes rest replies _ are why = absurd why
