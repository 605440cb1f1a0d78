use Rattle.std.proofs.Common.{◌≤◌, [], ◌∷◌, length, take, zero, suc, codes, None, refl, ap, subst, ◌∙◌, ℕ, List, arith, length-append}
use Rattle.std.proofs.Math.Seq.{take-append_seam}
use Rattle.std.specs.Fmt.{digits}
use Rattle.std.specs.Str.{is_utf8, chars}
use Rattle.unftp_control_defs.proofs.LineLemmas.{Lines-lines_of}
use Rattle.unftp_control_client.specs.Steps.{SentLine}
use Rattle.unftp_control.specs.Acts.{Act, AtClient, AtServer, InOrder}
use Rattle.unftp_control.specs.ClientRuns.{client_with, dialogue, farewell_server, noop}
use Rattle.unftp_control.proofs.laws.examples.both_ends.acts_are_in_order.Goals as goal

pub returns-clause-all : goal.returns-clause-all
unfolding is_utf8 chars lib.Utf8.encode digits
returns-clause-all c = record { to_server = ([], refl); to_client = ([], refl) }

first_acts : List Act
first_acts = AtClient (SentLine noop) ∷ AtServer (codes "NO") ∷ []

by_length : (n : ℕ) → n ≤ 2 → InOrder farewell_server (take n first_acts)
unfolding first_acts digits
by_length zero few = record { to_server = ([], refl); to_client = (codes "220\r\n", refl) }
by_length (suc zero) few = record { to_server = (noop, refl); to_client = (codes "220\r\n", refl) }
by_length (suc (suc zero)) few =
    record { to_server = (codes "OP\r\n", refl); to_client = (codes "220\r\n", refl) }
by_length (suc (suc (suc n))) few = absurd (omega (arith, few))

pub returns-clause-conversation : goal.returns-clause-conversation
unfolding first_acts
returns-clause-conversation c = record {
  steps = (client_with (dialogue 1 None) [], (refl, refl), (refl, refl));
  lines = ((Lines-lines_of noop).each.0, tt);
  in_order = λ before later split. subst (InOrder farewell_server)
      (ap (take (length before)) split ∙ take-append_seam before later)
      (by_length (length before)
      (omega (arith, ap length split, length-append before later)));
}

pub returns-clause-came_first : goal.returns-clause-came_first
returns-clause-came_first c = λ client talked.
    let first = talked.in_order (AtServer (codes "NO") ∷ []) (AtClient (SentLine noop) ∷ []) refl in
    omega (arith, ap length first.to_server.1)
