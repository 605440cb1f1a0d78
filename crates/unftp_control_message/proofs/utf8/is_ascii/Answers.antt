use Rattle.std.proofs.Common.{leb, arith, eqb-true, ◌^◌, ◌%◌, cond, map, w8, sym, ap, ◌∙◌, get_or}
use Rattle.std.proofs.lemmas.Bool.{leb-false}
use Rattle.std.proofs.lemmas.Simd.{bitmask_splat, length-chunk, none_from_empty_mask, zip2_splat, zip2_splat_left}
use Rattle.std.specs.Simd.Lanes.{chunk, mask_l, top}
use Rattle.unftp_control_message.proofs.utf8.is_ascii.Goals as goal

pub returns : goal.returns
returns c = λ none k low.
    let bytes = c.args.bytes.now in
    let long = length-chunk 0 32 bytes c.requires in
    let turned = zip2_splat_left (λ a b. cond (leb a b) 255 0) 128 32 (chunk 0 32 bytes) long
    ∙ sym (zip2_splat (λ b a. cond (leb a b) 255 0) (chunk 0 32 bytes) 32 128 long) in
    let none_from = none_from_empty_mask (λ b. leb 128 b) bytes 0 32 0 c.requires
    (sym (bitmask_splat w8 (λ b a. leb a b) (chunk 0 32 bytes) 32 128 long (omega arith))
    ∙ ap (λ lanes. mask_l (map (top 7) lanes) % 2 ^ 64) (sym turned) ∙ eqb-true _ 0 none) in
    leb-false 128 (get_or bytes k 0) (none_from k (omega arith) (omega (arith, low)))
