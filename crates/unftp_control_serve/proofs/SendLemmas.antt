-- Sendings that are put together.
use Rattle.std.proofs.Common.{◌≡◌, ℕ, ◌+◌, ◌≤◌, [], ◌∷◌, ◌++◌, length, take, drop, sym, ◌∙◌, ap, arith, append_assoc, length-append, length-take}
use Rattle.std.proofs.lemmas.List.{append-nil, take-append-drop}
use Rattle.std.proofs.KnownBytes.{Appends-nil, Appends-trans}
use Rattle.unftp_control_defs.specs.Bytes.{Bytes}
use Rattle.unftp_control_serve.specs.Writing.{OutputState, IsFlushed, HasWritten, Wrote}

pub HasWritten-nothing : (output : OutputState) → HasWritten output output []
HasWritten-nothing output = record {
  taken = sym (append-nil output.taken);
  known = Appends-nil output.written;
}

pub HasWritten-then : {a b c : OutputState} {text more : Bytes} → HasWritten a b text → HasWritten b c more
    → HasWritten a c (text ++ more)
HasWritten-then {a} {b} {c} {text} {more} p q = record {
  taken = q.taken ∙ ap (λ bytes. bytes ++ more) p.taken ∙ append_assoc a.taken text more;
  known = Appends-trans a.written b.written c.written text more p.known q.known;
}

pub IsFlushed-then : (text more part : Bytes) (t u v : ℕ) → IsFlushed text [] t u
    → IsFlushed more part u v → IsFlushed (text ++ more) part t v
IsFlushed-then [] [] part t u v p q = omega arith
IsFlushed-then [] (b ∷ more) part t u v p q = q
IsFlushed-then (a ∷ text) [] part t u v p q = omega arith
IsFlushed-then (a ∷ text) (b ∷ more) part t u v p q = q

-- in the loop of a sending: this much is written, and the rest is left
pub record Sending (bytes rest : Bytes) (before now : OutputState) : Type 0 where
  pub part : Bytes
  pub split : bytes ≡ part ++ rest
  pub wrote : Wrote part before now

pub Sending-more : {bytes rest : Bytes} {before now after : OutputState} (n : ℕ)
    → Sending bytes rest before now → n ≤ length rest →
    HasWritten now after (take n rest) → after.failures ≡ now.failures
    → after.unflushed ≡ now.unflushed + n →
    Sending bytes (drop n rest) before after
Sending-more {rest} {before} {now} {after} n sending within written kept unflushed =
    let joined : take n rest ++ drop n rest ≡ rest = take-append-drop n rest in
    let taken : length (take n rest) ≡ n = simp length-take (omega arith) in
    record {
      part = sending.part ++ take n rest;
      split = rw (append_assoc, joined) sending.split;
      wrote = record {
        written = HasWritten-then sending.wrote.written written;
        no_failure = kept ∙ sending.wrote.no_failure;
        unflushed =
            omega (arith, sending.wrote.unflushed, taken, length-append sending.part (take n rest));
      };
    }
