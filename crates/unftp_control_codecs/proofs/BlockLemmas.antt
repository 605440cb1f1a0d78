-- What a block shows of the bytes that it is of.
use Rattle.std.proofs.Common.{◌≡◌, ℕ, zero, suc, ◌+◌, ◌-◌, ◌*◌, ◌/◌, ◌^◌, ◌<◌, ◌≤◌, ◌≢◌, Bool, true, false, cond, List, [], ◌∷◌, length, map, take, drop, None, Some, refl, sym, ap, subst, ◌∙◌, arith}
use Rattle.std.specs.Simd.Lanes.{mask_l}
use lib.Count.{count_trailing_zeros}
use Rattle.std.proofs.lemmas.List.{drop_all, drop-drop, drop-map, drop-take}
use Rattle.std.proofs.lemmas.Nat.{shr-shr, shr_le}
use Rattle.unftp_control_defs.specs.Bytes.{Bytes}
use Rattle.unftp_control_codecs.specs.declared.scan.Block.{Block}
use Rattle.unftp_control_codecs.specs.LineFeed.{IsBlock, is_line_feed, line_feed_from, line_feeds}
use Rattle.unftp_control_codecs.proofs.LineFeedLemmas.{first_among}

half : (m : Bool) (n : ℕ) → (cond m 1 0 + 2 * n) / 2 ^ 1 ≡ n
half true n = omega arith
half false n = omega arith

-- bits that are shifted out
mask_l-drop : (k : ℕ) (ms : List Bool) → mask_l ms / 2 ^ k ≡ mask_l (drop k ms)
mask_l-drop zero ms = omega arith
mask_l-drop (suc k) [] = omega (arith, shr_le 0 (suc k))
mask_l-drop (suc k) (m ∷ ms) =
    ap (λ j. mask_l (m ∷ ms) / 2 ^ j) (omega arith)
    ∙ sym (shr-shr (mask_l (m ∷ ms)) 1 k) ∙ ap (λ n. n / 2 ^ k) (half m (mask_l ms))
    ∙ mask_l-drop k ms

module _ {block : Block} {bytes : Bytes} (is : IsBlock block bytes) where
  -- of the bytes after the first n of its own
  pub shows_after : (n : ℕ) → n ≤ block.length → block.line_feeds / 2 ^ n
      ≡ line_feeds (take (block.length - n) (drop (block.start + n) bytes))
  shows_after n within =
      let all : block.length ≡ n + (block.length - n) = omega (arith, within) in
      let rest : drop n (take block.length (drop block.start bytes))
      ≡ take (block.length - n) (drop (block.start + n) bytes) =
      ap (λ m. drop n (take m (drop block.start bytes))) all
      ∙ drop-take n (block.length - n) (drop block.start bytes)
      ∙ ap (take (block.length - n)) (drop-drop n block.start bytes) in
      ap (λ line_feeds. line_feeds / 2 ^ n) is.shows
      ∙ mask_l-drop n (map is_line_feed (take block.length (drop block.start bytes)))
      ∙ ap mask_l (drop-map is_line_feed n (take block.length (drop block.start bytes))
      ∙ ap (map is_line_feed) rest)

  -- the first line feed, if it has one
  pub first_of : block.line_feeds ≢ 0
      → (count_trailing_zeros 64 block.line_feeds < block.length)
      × (line_feed_from bytes block.start
      ≡ Some (block.start + count_trailing_zeros 64 block.line_feeds))
  first_of some = subst (λ feeds. (count_trailing_zeros 64 feeds < block.length)
      × (line_feed_from bytes block.start ≡ Some (block.start + count_trailing_zeros 64 feeds)))
      (sym is.shows)
      (first_among bytes block.start block.length is.within (omega (arith, is.few))
      (λ none. some (is.shows ∙ none)))

pub none_at_end : (bytes : Bytes) (place : ℕ) → place ≡ length bytes
    → line_feed_from bytes place ≡ None
none_at_end bytes place end = rw (drop_all place bytes (omega (arith, end))) refl
