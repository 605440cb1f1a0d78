use Rattle.std.proofs.Common.{◌≡◌, ◌≤◌, [], ◌∷◌, length, take, zero, suc, codes, None, Some, refl, ap, subst, ◌∙◌, ℕ, List, arith, length-append}
use Rattle.std.proofs.Math.Seq.{take-append_seam}
use Rattle.std.specs.Fmt.{digits}
use Rattle.std.specs.Str.{is_utf8, chars}
use Rattle.unftp_control_defs.proofs.LineLemmas.{Lines-lines_of}
use Rattle.unftp_control_defs.proofs.ReplyLemmas.{FrontReply-front_of, none_of_nothing}
use Rattle.unftp_control.specs.Acts.{InOrder}
use Rattle.unftp_control.specs.ClientRuns.{client_with, dialogue, farewell_server, noop, talk}
use Rattle.unftp_control.proofs.laws.examples.both_ends.a_conversation_goes_so.Goals as goal

by_length : (n : ℕ) → n ≤ 6 → InOrder farewell_server (take n talk)
unfolding is_utf8 chars lib.Utf8.encode digits
by_length zero few = record { to_server = ([], refl); to_client = (codes "220\r\n", refl) }
by_length (suc zero) few = record { to_server = (noop, refl); to_client = (codes "220\r\n", refl) }
by_length (suc (suc zero)) few =
    record { to_server = ([], refl); to_client = (codes "220\r\n200\r\n", refl) }
by_length (suc (suc (suc zero))) few =
    record { to_server = ([], refl); to_client = (codes "00\r\n", refl) }
by_length (suc (suc (suc (suc zero)))) few =
    record { to_server = ([], refl); to_client = (codes "00\r\n", refl) }
by_length (suc (suc (suc (suc (suc zero))))) few =
    record { to_server = ([], refl); to_client = ([], refl) }
by_length (suc (suc (suc (suc (suc (suc zero)))))) few =
    record { to_server = ([], refl); to_client = ([], refl) }
by_length (suc (suc (suc (suc (suc (suc (suc n))))))) few = absurd (omega (arith, few))

pub returns-clause-whole : goal.returns-clause-whole
returns-clause-whole c = record {
  steps = (
    client_with (dialogue 1 None) [],
    (refl, refl),
    (
      client_with (dialogue 1 None) (codes "220\r\n2"),
      (refl, refl),
      (
        client_with (dialogue 1 (Some 0)) (codes "2"),
        ((refl, refl), record { used = 5; front = FrontReply-front_of refl; after_is = refl }),
        (
          client_with (dialogue 1 (Some 0)) (codes "200\r\n"),
          (refl, refl),
          (
            client_with (dialogue 1 (Some 1)) [],
            ((refl, refl), record { used = 5; front = FrontReply-front_of refl; after_is = refl }),
            (refl, refl),
          ),
        ),
      ),
    ),
  );
  lines = ((Lines-lines_of noop).each.0, tt);
  in_order = λ before later split. subst (InOrder farewell_server)
      (ap (take (length before)) split ∙ take-append_seam before later)
      (by_length (length before)
      (omega (arith, ap length split, length-append before later)));
}

pub returns-clause-nothing_left : goal.returns-clause-nothing_left
returns-clause-nothing_left c = none_of_nothing
