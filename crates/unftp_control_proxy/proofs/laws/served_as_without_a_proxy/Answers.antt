use Rattle.std.proofs.Common.{◌++◌, ap, ◌∙◌}
use Rattle.unftp_control_defs.specs.Run.{as_session, run_of, text_of}
use Rattle.unftp_control_proxy.proofs.TrafficLemmas.{same_bytes, same_events}
use Rattle.unftp_control_proxy.proofs.laws.served_as_without_a_proxy.Goals as goal

pub returns : goal.returns
returns g c limits traffic later s greeting is same served =
    same_bytes is same ∙ served
    ∙ ap (λ events. greeting ++ text_of (as_session g.H.Handler.law) s
    (run_of (as_session g.H.Handler.law) s events)) (same_events is same)
