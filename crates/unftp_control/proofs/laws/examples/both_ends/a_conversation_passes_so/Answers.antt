use Rattle.std.proofs.Common.{[], Some, arith, codes, refl}
use Rattle.unftp_control_defs.proofs.LineLemmas.{Lines-lines_of}
use Rattle.unftp_control_defs.proofs.ReplyLemmas.{FrontReply-front_of, none_of_nothing}
use Rattle.unftp_control.specs.ClientRuns.{dialogue, noop}
use Rattle.unftp_control.proofs.laws.examples.both_ends.a_conversation_passes_so.Goals as goal

pub returns-clause-traffic : goal.returns-clause-traffic
returns-clause-traffic c = λ limits. record {
  client = refl;
  lines = (((Lines-lines_of noop).each.0, (Lines-lines_of noop).each.0), tt);
  server = refl;
  replies = (
    (FrontReply-front_of refl, FrontReply-front_of refl, refl),
    ((FrontReply-front_of refl, FrontReply-front_of refl, refl), tt),
  );
  to_server = refl;
  to_client = refl;
  fates = refl;
  steps = (
    dialogue 0 (Some 0),
    ((refl, refl), refl),
    (dialogue 1 (Some 0), refl, (dialogue 1 (Some 1), ((refl, refl), refl), refl)),
  );
  bounded = omega arith;
  limits = refl;
  line_limit = refl;
}

pub returns-clause-taken : goal.returns-clause-taken
returns-clause-taken c = (
  codes "2",
  record { used = 5; front = FrontReply-front_of refl; after_is = refl },
  ([], record { used = 5; front = FrontReply-front_of refl; after_is = refl }, refl),
)

pub returns-clause-nothing_left : goal.returns-clause-nothing_left
returns-clause-nothing_left c = none_of_nothing
