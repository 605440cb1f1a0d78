-- Where TLS begins.
use Rattle.std.proofs.Common.{◌≡◌, ◌==◌, ◌&&◌, Bool, true, false, List, [], ◌∷◌, ◌++◌, Some, length, refl, sym, ◌∙◌, codes}
use Rattle.std.specs.List.{concat}
use Rattle.std.proofs.lemmas.Bool.{false≢true}
use Rattle.unftp_control_defs.specs.Bytes.{Bytes}
use Rattle.unftp_control_serve.specs.Decoder.{saturating_u64}
use Rattle.unftp_control_defs.specs.Run.{after_end, ends_for, text_for, unread, as_session}
use Rattle.unftp_control_defs.specs.Input.{InputState}
use Rattle.unftp_control_serve.specs.Writing.{OutputState}
use Rattle.unftp_control_defs.proofs.Computing.{at_bytes}
use Rattle.example_callers.specs.UntilTls.{BeginsTls, until_tls}

-- an input that AUTH TLS ends, one that it doesn't end, and one without it
abbrev pub Ends : Bytes → Bool → Bytes → Type 0
Ends input ended after = (ends_for (Some 512) (as_session until_tls) false input ≡ ended)
    × (unread (Some 512) (as_session until_tls) false input ≡ after)
    × (after_end (Some 512) (as_session until_tls) false input ≡ after)

pub asked : Ends (codes "AUTH TLS\r\n") true []
unfolding at_bytes
asked = (refl, refl, refl)

pub asked-replied : text_for (Some 512) (as_session until_tls) false (codes "AUTH TLS\r\n")
    ≡ codes "234 Upgrading to TLS\r\n"
unfolding at_bytes
asked-replied = refl

pub asked-before : Ends (codes "AUTH TLS\r\nX") true (codes "X")
unfolding at_bytes
asked-before = (refl, refl, refl)

pub not_asked : Ends (codes "NOOP\r\n") false []
unfolding at_bytes
not_asked = (refl, refl, refl)

module _ {before after : OutputState} {input input' : InputState} {begins : Bool}
    (v : BeginsTls before after input input' begins) where
  pub begins-by : {piece after : Bytes} {ended : Bool} → v.answered.pieces ≡ piece ∷ []
      → piece ++ [] ≡ piece → Ends piece ended after
      → begins ≡ (ended && (saturating_u64 (length after) == 0))
  begins-by is joined ends =
      let done = rw (is, joined, ends.0) at v.answered.ended in
      let left = rw (is, joined, ends.1) at v.answered.left in
      rw (done, left) at v.begins_so

-- the first of two
first_of_two : (first : List Bytes) (last one other : Bytes)
    → one ∷ other ∷ [] ≡ first ++ last ∷ [] → first ≡ one ∷ []
first_of_two (piece ∷ []) last one other is = cc
first_of_two (piece ∷ next ∷ []) last one other is = absurd (cc)
first_of_two _ last one other is = absurd (cc)

asked-two : ends_for (Some 512) (as_session until_tls) false
    (concat (codes "AUTH TLS\r\n" ∷ codes "X" ∷ []))
    ≡ true
unfolding at_bytes
asked-two = refl

asked-one : ends_for (Some 512) (as_session until_tls) false (concat (codes "AUTH TLS\r\n" ∷ []))
    ≡ true
unfolding at_bytes
asked-one = refl

pub read_on : (before after : OutputState) (input input' : InputState) (begins : Bool)
    (v : BeginsTls before after input input' begins)
    → v.answered.pieces ≡ codes "AUTH TLS\r\n" ∷ codes "X" ∷ [] → ⊥
read_on before after input input' begins v is =
    let last = v.answered.in_last (rw (is, asked-two) at v.answered.ended) in
    let first = first_of_two last.first last.last _ _ (sym is ∙ last.whole) in
    false≢true (sym (rw (first, asked-one) at last.goes_on))
