use Rattle.std.proofs.Common.{◌<◌, ◌≤◌, List, [], ◌∷◌, ◌++◌, ◌+◌, None, length, ap, subst, arith}
use Rattle.std.specs.List.{AllByRecursion, concat}
use Rattle.unftp_control_defs.specs.Bytes.{Bytes}
use Rattle.unftp_control_codecs.specs.FirstLine.{kept_length}
use Rattle.unftp_control_defs.specs.Lines.{incomplete_line}
use Rattle.unftp_control_serve.specs.Service.{most_held}
use Rattle.unftp_control.proofs.laws.examples.serving.errors_of_serve.Goals as goal

last_size : (pieces : List Bytes) (last : Bytes)
    → AllByRecursion (λ piece. (0 < length piece) × (length piece ≤ 4096)) (pieces ++ last ∷ [])
    → 0 < length last
last_size [] last sizes = sizes.0.0
last_size (piece ∷ pieces) last sizes = last_size pieces last sizes.1

pub returns-clause-no_room : goal.returns-clause-no_room
returns-clause-no_room c = λ before after input input_after v. (
  v.answered.answered,
  λ none. omega (arith, last_size v.pieces v.last v.were_read.sizes, ap length none),
)

pub returns-clause-had_room : goal.returns-clause-had_room
returns-clause-had_room c = λ before after input input_after v pieces last.
    let lacked : 6 < 0 + length v.last =
    subst (λ pieces. most_held None [] pieces
    < kept_length None (incomplete_line (concat pieces)) + length v.last) pieces v.lacked in
    absurd (omega (arith, lacked, ap length last))
