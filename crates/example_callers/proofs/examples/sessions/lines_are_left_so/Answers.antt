use Rattle.std.proofs.Common.{◌≡◌, inl, inr, [], None, codes, refl, sym, ap, ◌∙◌}
use Rattle.unftp_control_defs.specs.Bytes.{Bytes}
use Rattle.unftp_control_defs.specs.Events.{FtpEvent, Command}
use Rattle.unftp_control_defs.specs.FtpCommand.{Noop}
use Rattle.unftp_control_defs.specs.Lines.{incomplete_line, lines_of}
use Rattle.unftp_control_defs.specs.TakingSteps.{TakesEvent}
use Rattle.unftp_control_defs.proofs.LineLemmas.{Lines-lines_of}
use Rattle.unftp_control_defs.proofs.Computing.{at_bytes}
use Rattle.example_callers.proofs.ExampleLemmas.{first_taken}
use Rattle.example_callers.proofs.examples.sessions.lines_are_left_so.Goals as goal

not_all : {event : FtpEvent} {following : Bytes}
    → TakesEvent None (codes "NOOP\r\nNO") event following → following ≡ [] → ⊥
not_all taken none =
    let is : incomplete_line (codes "NOOP\r\nNO") ≡ codes "NO" = refl in
    let kept = sym is ∙ (first_taken taken).1 ∙ ap incomplete_line none in cc

pub returns : goal.returns
unfolding at_bytes
returns c =
    let noop : TakesEvent None (codes "NOOP\r\nNO") (Command Noop) (codes "NO") = record {
      line = codes "NOOP\r\n";
      is_line = (Lines-lines_of (codes "NOOP\r\n")).each.0;
      whole = refl;
      meaning = refl;
    } in
    let none : lines_of (codes "NOOP") ≡ [] = refl in
    record {
      stays = record {
        event = Command Noop;
        following = codes "NO";
        is_first = noop;
        line = inl record { same = refl; kept = refl };
        same = refl;
      };
      taken = record {
        event = Command Noop;
        following = codes "NO";
        is_first = noop;
        line = inr refl;
        same = refl;
      };
      all_taken = λ after sent' left empty. elim left.line [
        | inl stays ↦ (let same = stays.same in cc)
        | inr following ↦ not_all left.is_first (sym following ∙ empty)
      ];
      no_line = λ after sent' left. let lines = sym none ∙ (first_taken left.is_first).0 in cc;
      sent = λ before after sent' left. left.same;
    }
