use Rattle.std.proofs.Common.{ap}
use Rattle.unftp_control_c.specs.NumberedReplies.{encoded_or_invalid}
use Rattle.unftp_control_c.proofs.NumberedReplyLemmas.{event_given, event_readable, no_event, no_number, usual_short}
use Rattle.unftp_control_c.proofs.laws.usual.usual_replies_are_of_events.Goals as goal

pub returns : goal.returns
returns c = record {
  events = λ event. ap encoded_or_invalid (event_given event);
  numbers = no_number;
  no_event = no_event;
  readable = event_readable;
  room = usual_short;
}
