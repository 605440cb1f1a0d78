-- The pieces of an input, one after the other.
use Rattle.std.proofs.Common.{◌≡◌, ℕ, List, [], ◌∷◌, ◌++◌, Option, sym, ap, ◌∙◌, append_assoc}
use Rattle.std.specs.List.{concat}
use Rattle.std.proofs.lemmas.List.{append-nil}
use Rattle.unftp_control_defs.specs.Bytes.{Bytes, LF, Lacks}
use Rattle.unftp_control_defs.specs.Lines.{incomplete_line}
use Rattle.unftp_control_defs.specs.Events.{events}
use Rattle.unftp_control_defs.specs.Pieces.{events_in_turn}
use Rattle.unftp_control_defs.proofs.LineLemmas.{Lines-lines_of, events-append, events-incomplete}

-- after bytes that no LF ends
pub events_in_turn-after : (limit : Option ℕ) (incomplete : Bytes) (pieces : List Bytes)
    → Lacks LF incomplete →
    events_in_turn limit incomplete pieces ≡ events limit (incomplete ++ concat pieces)
events_in_turn-after limit incomplete [] h =
    sym (ap (events limit) (append-nil incomplete) ∙ events-incomplete limit incomplete h)
events_in_turn-after limit incomplete (piece ∷ pieces) h =
    ap (λ more. events limit (incomplete ++ piece) ++ more)
    (events_in_turn-after limit (incomplete_line (incomplete ++ piece)) pieces
    (Lines-lines_of (incomplete ++ piece)).unended)
    ∙ sym (events-append limit (incomplete ++ piece) (concat pieces))
    ∙ ap (events limit) (append_assoc incomplete piece (concat pieces))
