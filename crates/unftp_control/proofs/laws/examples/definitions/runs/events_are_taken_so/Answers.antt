use Rattle.std.proofs.Common.{◌≡◌, ◌∷◌, [], None, codes, refl, rules, sym, ◌∙◌}
use Rattle.std.specs.Str.{is_utf8, chars}
use Rattle.std.specs.Str.Lossy.{utf8_lossy, utf8_valid_len, utf8_error_len}
use Rattle.unftp_control_defs.specs.Events.{Command, events}
use Rattle.unftp_control_defs.specs.FtpCommand.{Noop}
use Rattle.unftp_control_defs.proofs.TakenEventLemmas.{TakesEvent-events, TakesEvent-incomplete}
use Rattle.unftp_control.proofs.laws.examples.definitions.runs.events_are_taken_so.Goals as goal

pub returns : goal.returns
unfolding is_utf8 chars utf8_lossy utf8_valid_len utf8_error_len lib.Utf8.encode
returns c =
    let one : events None (codes "NOOP\nNO") ≡ Command Noop ∷ [] = refl in
    let none : events None (codes "NOOP") ≡ [] = refl in
    record {
      first = record {
        line = codes "NOOP\n";
        is_line = record { body = codes "NOOP"; whole = refl; one_end = search rules };
        whole = refl;
        meaning = refl;
      };
      other_event = λ taken. let event = sym one ∙ TakesEvent-events taken [] in cc;
      byte_left_out = λ taken. let incomplete = TakesEvent-incomplete taken [] in cc;
      no_line = λ taken. let event = sym none ∙ TakesEvent-events taken [] in cc;
    }
