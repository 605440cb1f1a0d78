use Rattle.std.proofs.Common.{subst, sym}
use Rattle.std.proofs.lemmas.List.Elements.{filter_map-append}
use Rattle.std.specs.List.{AllByRecursion}
use Rattle.unftp_control_proxy.specs.Traffic.{passed_by_step}
use Rattle.unftp_control_proxy.proofs.TrafficLemmas.{all-append, same_bytes, same_events}
use Rattle.unftp_control_proxy.proofs.laws.forwarding_all_changes_nothing.Goals as goal

pub returns : goal.returns
returns c = record {
  given = λ limits traffic later is same. same_bytes is same;
  same_events = λ before later traffic is same. same_events is same;
  in_turn = λ first second one two. record {
    lines = all-append _ first.lines second.lines one.lines two.lines;
    replies = subst (AllByRecursion _)
        (sym (filter_map-append passed_by_step first.steps second.steps))
        (all-append _ _ _ one.replies two.replies);
  };
}
