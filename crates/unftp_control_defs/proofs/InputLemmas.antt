-- Reads that are put together.
use Rattle.std.proofs.Common.{◌≡◌, ℕ, List, [], ◌∷◌, ◌++◌, length, map, sym, ◌∙◌, ap, append_assoc}
use Rattle.std.specs.List.{AllByRecursion, concat}
use Rattle.std.proofs.lemmas.List.{append-nil, map-append}
use Rattle.std.proofs.lemmas.List.Folds.{concat-append}
use Rattle.std.specs.Io.KnownBytes.{IsAtEnd}
use Rattle.std.proofs.KnownBytes.{Consumes-nil, Consumes-trans}
use Rattle.unftp_control_defs.specs.Bytes.{Bytes}
use Rattle.unftp_control_defs.specs.Input.{InputState, HasEnded, HasPieceSize, HasRead, ReadsPiece, WereRead}

HasRead-then : {a b c : InputState} {read more : Bytes} → HasRead a b read → HasRead b c more
    → HasRead a c (read ++ more)
HasRead-then {a} {b} {c} {read} {more} first second = record {
  given = second.given ∙ ap (λ bytes. bytes ++ more) first.given
      ∙ append_assoc a.given read more;
  known = Consumes-trans a.remaining b.remaining c.remaining read more first.known second.known;
}

pub concat-more : (pieces : List Bytes) (piece : Bytes)
    → concat (pieces ++ piece ∷ []) ≡ concat pieces ++ piece
concat-more pieces piece = concat-append pieces (piece ∷ [])
    ∙ ap (λ end. concat pieces ++ end) (append-nil piece)

pub WereRead-start : (input : InputState) → WereRead input input [] []
WereRead-start input = record {
  given = record { given = sym (append-nil input.given); known = Consumes-nil input.remaining };
  reads = sym (append-nil input.reads);
  sizes = tt;
}

-- how many bytes the reads gave, with those of one read more
reads-more : (before now : InputState) (pieces : List Bytes) (reads more : List ℕ)
    → now.reads ≡ before.reads ++ (map (length {A = ℕ}) pieces ++ [])
    → reads ≡ now.reads ++ more → reads ≡ before.reads ++ (map (length {A = ℕ}) pieces ++ more)
reads-more before now pieces reads more so_far next = next ∙ ap (λ reads. reads ++ more)
    (so_far ∙ ap (λ sizes. before.reads ++ sizes) (append-nil (map length pieces)))
    ∙ append_assoc before.reads (map length pieces) more

module _ {a b c : InputState} {pieces : List Bytes} (so_far : WereRead a b pieces []) where
  -- a piece more
  pub WereRead-more : (piece : Bytes) → ReadsPiece b c piece → WereRead a c (pieces ++ piece ∷ []) []
  WereRead-more piece read = record {
    given = rw (concat-more pieces piece) (HasRead-then so_far.given read.given);
    reads = rw (append-nil, map-append)
        (reads-more a b pieces c.reads (length piece ∷ []) so_far.reads read.reads);
    sizes = sized pieces so_far.sizes;
  }
    where
      sized : (pieces : List Bytes) → AllByRecursion HasPieceSize pieces
          → AllByRecursion HasPieceSize (pieces ++ piece ∷ [])
      sized [] each = (read.size, tt)
      sized (first ∷ pieces) each = (each.0, sized pieces each.1)

  -- a read that gave nothing, or that failed
  pub WereRead-no_more : (more : List ℕ) → HasRead b c [] → c.reads ≡ b.reads ++ more
      → WereRead a c pieces more
  WereRead-no_more more none reads = record {
    given = rw (append-nil (concat pieces)) at (HasRead-then so_far.given none);
    reads = reads-more a b pieces c.reads more so_far.reads reads;
    sizes = so_far.sizes;
  }

pub WereRead-ended : {a b : InputState} {pieces : List Bytes} → IsAtEnd b.remaining
    → WereRead a b pieces (0 ∷ []) → HasEnded b
WereRead-ended {a} {pieces = pieces} none_left were_read = record {
  none_left = none_left;
  reads = a.reads ++ map length pieces;
  none_given = were_read.reads ∙ sym (append_assoc a.reads (map length pieces) (0 ∷ []));
}
