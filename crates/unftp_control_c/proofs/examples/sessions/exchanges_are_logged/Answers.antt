use Rattle.std.proofs.Common.{◌≡◌, ◌≢◌, List, [], ◌∷◌, codes, refl, sym, arith}
use Rattle.unftp_control_defs.specs.Bytes.{Bytes}
use Rattle.unftp_control_defs.specs.TakingSteps.{AreReplies}
use Rattle.unftp_control_defs.proofs.Computing.{at_bytes}
use Rattle.unftp_control_defs.proofs.ReplyLemmas.{FrontReply-front_of, IsMalformed-front_of, IsPartial-front_of, none_of_nothing}
use Rattle.unftp_control_log.specs.Exchanges.{Read}
use Rattle.unftp_control_c.specs.ExchangeLines.{shown_exchange}
use Rattle.unftp_control_c.proofs.ExchangeLawLemmas.{malformed_front}
use Rattle.unftp_control_c.proofs.examples.sessions.exchanges_are_logged.Goals as goal

pub returns-clause-greeting : goal.returns-clause-greeting
unfolding at_bytes
returns-clause-greeting c = (
  tt,
  (220, codes "a" ∷ []) ∷ [],
  (
    [],
    record { used = 7; front = FrontReply-front_of {rest = []} refl; after_is = refl },
    refl,
  ),
  refl,
)

pub returns-clause-several : goal.returns-clause-several
unfolding at_bytes
returns-clause-several c = (
  search arith,
  (150, codes "b" ∷ []) ∷ (226, codes "c" ∷ []) ∷ [],
  (
    codes "226 c\r\n",
    record { used = 7; front = FrontReply-front_of {rest = codes "226 c\r\n"} refl; after_is = refl },
    (
      [],
      record { used = 7; front = FrontReply-front_of {rest = []} refl; after_is = refl },
      refl,
    ),
  ),
  refl,
)

pub returns-clause-code_only : goal.returns-clause-code_only
unfolding at_bytes
returns-clause-code_only c = (
  search arith,
  (530, [] ∷ []) ∷ [],
  (
    [],
    record { used = 5; front = FrontReply-front_of {rest = []} refl; after_is = refl },
    refl,
  ),
  refl,
)

pub returns-clause-no_reply : goal.returns-clause-no_reply
unfolding at_bytes
returns-clause-no_reply c = (search arith, [], refl, refl)

pub returns-clause-control : goal.returns-clause-control
returns-clause-control c printable = omega (arith, printable.0.0)

pub returns-clause-delete : goal.returns-clause-delete
returns-clause-delete c printable = omega (arith, printable.0.1)

pub returns-clause-space : goal.returns-clause-space
returns-clause-space c none = none (search arith)

pub returns-clause-incomplete : goal.returns-clause-incomplete
returns-clause-incomplete c = (
  search arith,
  (
    (150, codes "b" ∷ []) ∷ [],
    codes "226 c",
    (
      codes "226 c",
      record { used = 7; front = FrontReply-front_of {rest = codes "226 c"} refl; after_is = refl },
      refl,
    ),
    (λ none. cc, IsPartial-front_of (codes "226 c") refl),
  ),
)

nothing_left : (replies : List Read) (rest : Bytes) → AreReplies [] replies rest
    → rest ≢ [] → ⊥
nothing_left [] rest are some = some are
nothing_left (reply ∷ replies) rest (next, takes, are) some =
    none_of_nothing (reply.0, reply.1, takes.used, takes.front)

pub returns-clause-complete : goal.returns-clause-complete
returns-clause-complete c (printable, (replies, rest, are, (some, partial))) =
    nothing_left replies rest are some

pub returns-clause-malformed : goal.returns-clause-malformed
returns-clause-malformed c = (
  tt,
  (
    (220, codes "a" ∷ []) ∷ [],
    codes "b\r\n",
    (
      codes "b\r\n",
      record { used = 7; front = FrontReply-front_of {rest = codes "b\r\n"} refl; after_is = refl },
      refl,
    ),
    IsMalformed-front_of (codes "b\r\n") refl,
  ),
)

pub returns-clause-memory : goal.returns-clause-memory
returns-clause-memory c = (tt, ([], refl))

malformed_first : (replies : List Read) → AreReplies (codes "b\r\n") replies [] → ⊥
unfolding at_bytes
malformed_first [] is = cc
malformed_first (reply ∷ replies) (next, takes, are) =
    malformed_front (codes "b\r\n") (IsMalformed-front_of (codes "b\r\n") refl)
    (reply.0, reply.1, takes.used, takes.front)

pub returns-clause-left_unread : goal.returns-clause-left_unread
returns-clause-left_unread c = tt

pub returns-clause-nothing_to_read : goal.returns-clause-nothing_to_read
returns-clause-nothing_to_read c (replies, rest, are, (some, partial)) =
    nothing_left replies rest are some

pub returns-clause-fault_first : goal.returns-clause-fault_first
returns-clause-fault_first c (printable, (replies, are)) = malformed_first replies are

pub returns-clause-no_memory : goal.returns-clause-no_memory
returns-clause-no_memory c why = omega (arith, why.0.0.1)

left_out : (bytes : Bytes) (replies : List Read) → AreReplies bytes replies []
    → codes "->" ≡ shown_exchange [] replies → bytes ≡ []
left_out bytes [] are is = sym are
left_out bytes (reply ∷ replies) are is = absurd (cc)

pub returns-clause-reply_left_out : goal.returns-clause-reply_left_out
returns-clause-reply_left_out c (printable, replies, are, is) =
    let nothing = left_out (codes "220 a\r\n") replies are is in cc
