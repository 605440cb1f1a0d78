use Rattle.std.proofs.Common.{◌∙◌}
use Rattle.unftp_control_defs.specs.Run.{replies, run_for, replies_by_event}
use Rattle.unftp_control_defs.proofs.ExchangeLemmas.{length-replies_by_event}
use Rattle.unftp_control.proofs.ConversationLemmas.{read_all, read_so_far, shown_turns, shows_turns}
use Rattle.unftp_control.proofs.laws.both_ends.conversation.Goals as goal

pub returns : goal.returns
returns g c = record {
  so_far = λ said limit s input steps pending later readable are whole.
      read_so_far (replies (g.H.Session.law said) s (run_for limit (g.H.Session.law said) s input))
      readable steps pending are later whole;
  all = λ said limit s input steps pending readable are whole none.
      read_all (replies (g.H.Session.law said) s (run_for limit (g.H.Session.law said) s input))
      readable steps pending are whole none;
  turns = λ said limit s input read each show.
      let law = g.H.Session.law said in
      let run = run_for limit law s input in
      let turns = replies_by_event law s run in (
        shows_turns read turns each show,
        shown_turns read turns each show ∙ length-replies_by_event law s run,
      );
}
