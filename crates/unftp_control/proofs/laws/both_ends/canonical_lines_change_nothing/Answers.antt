use Rattle.std.proofs.Common.{ap}
use Rattle.unftp_control_defs.specs.Run.{run_of, text_of}
use Rattle.unftp_control.proofs.ConversationLemmas.{canonical-keeps, events-rewritten, events-rewritten_within, forwarded-keeps, incomplete-rewritten}
use Rattle.unftp_control.proofs.laws.both_ends.canonical_lines_change_nothing.Goals as goal

pub returns : goal.returns
returns g c = record {
  canonical = canonical-keeps;
  forwarded = forwarded-keeps;
  same_events = λ rewrite input keeps. events-rewritten rewrite keeps input;
  within = λ rewrite limit input keeps each. events-rewritten_within rewrite keeps input limit each;
  written = λ said rewrite s input keeps.
      ap (λ events. text_of (g.H.Session.law said) s (run_of (g.H.Session.law said) s events))
      (events-rewritten rewrite keeps input);
  written_within = λ said rewrite limit s input keeps each.
      ap (λ events. text_of (g.H.Session.law said) s (run_of (g.H.Session.law said) s events))
      (events-rewritten_within rewrite keeps input limit each);
  incomplete = λ rewrite input keeps. incomplete-rewritten rewrite keeps input;
}
