-- A value that is written to an area, byte by byte, from the bytes that are sent for it.
use Rattle.std.proofs.Common.{◌≡◌, ℕ, ◌+◌, ◌≤◌, ◌<◌, [], ◌∷◌, ◌++◌, length, take, drop, set, get_or, sym, ap, ◌∙◌, arith, append_assoc, append-nil, length-append}
use Rattle.std.proofs.lemmas.List.{take_more_set, length-set, length-take-le, take-append-drop, drop-drop, drop-set-lt}
use Rattle.unftp_control_defs.specs.Bytes.{Bytes}
use Rattle.unftp_control_message.specs.SentValues.{first_unit_len, unescaped}
use Rattle.unftp_control_message.proofs.SentLemmas.{unescaped_step}

-- So many bytes of the value are in the area, and the others are sent by the rest.
pub record IsBegun (sent old area rest : Bytes) (at : ℕ) : Type 0 where
  pub value : unescaped sent ≡ take at area ++ unescaped rest
  pub later : drop at area ≡ drop at old
  pub room : length area ≡ length old
  pub within : at ≤ length area

module _ {sent old area rest : Bytes} {at : ℕ} (begun : IsBegun sent old area rest at) where
  -- there is room for the next byte
  pub next_room : 0 < length rest → length (unescaped sent) ≤ length old → at < length area
  next_room some fits = omega (
    arith,
    fits,
    begun.room,
    ap length begun.value,
    length-append (take at area) (unescaped rest),
    length-take-le at area begun.within,
    ap length (unescaped_step rest some),
  )

  pub next_written : (further : Bytes) → further ≡ drop (first_unit_len rest) rest
      → 0 < length rest → at < length area
      → IsBegun sent old (set area at (get_or rest 0 0)) further (at + 1)
  next_written further is some room =
      let b : ℕ = get_or rest 0 0 in
      let front : Bytes = take at area in
      record {
        value = begun.value
            ∙ ap (λ t. front ++ t) (unescaped_step rest some)
            ∙ sym (append_assoc front (b ∷ []) _)
            ∙ (λ i. sym (take_more_set area at b room) i ++ unescaped (sym is i));
        later = drop-set-lt (at + 1) area at b (omega arith)
            ∙ sym (drop-drop 1 at area) ∙ ap (drop 1) begun.later ∙ drop-drop 1 at old;
        room = length-set area at b ∙ begun.room;
        within = omega (arith, room, length-set area at b);
      }

  pub all_written : rest ≡ [] → area ≡ unescaped sent ++ drop (length (unescaped sent)) old
  all_written none =
      let value : unescaped sent ≡ take at area =
      begun.value ∙ ap (λ t. take at area ++ unescaped t) none ∙ append-nil (take at area) in
      let n : length (unescaped sent) ≡ at =
      ap length value ∙ length-take-le at area begun.within in
      sym (take-append-drop at area)
      ∙ (λ i. sym value i ++ begun.later i)
      ∙ ap (λ n. unescaped sent ++ drop n old) (sym n)
