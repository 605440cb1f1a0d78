-- A buffer that a reader fills after its bytes.
use Rattle.std.proofs.Common.{◌≡◌, ℕ, ◌+◌, ◌-◌, Result, Ok, Err, OnOk, ◌++◌, length, take, replicate, sym, ap, ◌∙◌, length-append, take_at, arith}
use Rattle.std.specs.Prelude.{if◌then◌else◌, is_ok}
use Rattle.std.proofs.Math.Seq.{take-append-add}
use Rattle.std.proofs.lemmas.List.{take_all}
use Rattle.unftp_control_defs.specs.Bytes.{Bytes}

pub grown_by : {T E : Type 0} (result : Result T E) (old : Bytes) {new : Bytes} {len end : ℕ}
    (count : ℕ)
    → len ≡ length old → end ≡ len + count
    → new ≡ (if is_ok result then take end old ++ replicate (end - len) 0 else old)
    → OnOk result (new ≡ old ++ replicate count 0)
grown_by (Ok _) old {len} {end} count is e h =
    let n : end - len ≡ count = omega arith in
    h ∙ (λ i. take_all end old (omega arith) i ++ replicate (n i) 0)
grown_by (Err _) old count is e h = tt

-- where a reader wrote the first n bytes of the zeros that a buffer has grown by
pub read_part : (old zeros room tail : Bytes) {grown front : Bytes} {len all : ℕ} (n : ℕ)
    → grown ≡ old ++ zeros → len ≡ length old → all ≡ length grown → front ≡ take len grown
    → length room ≡ length zeros
    → take (len + n) (take all ((front ++ room) ++ tail)) ≡ old ++ take n room
read_part old zeros room tail {grown} {front} {len} {all} n grown_is len_is all_is front_is long =
    let same : front ≡ old = front_is ∙ ap (take len) grown_is ∙ take_at old zeros len (sym len_is)
    in
    ap (take (len + n))
    (take_at (front ++ room) tail all
    (omega (
      arith,
      all_is,
      ap length grown_is,
      length-append old zeros,
      ap length same,
      length-append front room,
      long,
    )))
    ∙ (λ i. take (len_is i + n) (same i ++ room))
    ∙ take-append-add old room n

-- the bytes before the zeros
pub before_room : (old zeros : Bytes) {grown : Bytes} {len : ℕ}
    → grown ≡ old ++ zeros → len ≡ length old → take len grown ≡ old
before_room old zeros {grown} {len} is long = ap (take len) is ∙ take_at old zeros len (sym long)
