-- What std's iterator over escapes yields.
use Rattle.std.proofs.Common.{◌≡◌, ℕ, [], ◌∷◌, ◌++◌, length, take, None, Some, sym, refl, ap, append_assoc, append-nil, ◌∙◌, inl, inr}
use Rattle.std.specs.Char.Iter.{escape_byte_left, escape_byte_rest}
use Rattle.std.specs.declared.slice.EscapeAscii.{EscapeAscii}
use Rattle.std.specs.List.{AllByRecursion}
use Rattle.std.specs.Slice.Iter.{escape_ascii_current, escape_ascii_rest, escape_ascii_steps}
use Rattle.unftp_control_defs.specs.Bytes.{Bytes}
use Rattle.unftp_control_log.specs.LogLine.{IsShownPlain, shown}

-- what is still to come
abbrev pub left : EscapeAscii → Bytes
left s = escape_byte_rest (escape_ascii_current s) ++ shown (escape_ascii_rest s)

empty : (n : ℕ) (bytes : Bytes) → n ≡ 0 → take n bytes ≡ []
empty n bytes is = ap (λ n. take n bytes) is

none : (bytes : Bytes) → length bytes ≡ 0 → bytes ≡ []
none [] is = refl
none (b ∷ bytes) is = absurd (cc)

nothing_left : (s : EscapeAscii) → escape_byte_left (escape_ascii_current s) ≡ 0
    → left s ≡ shown (escape_ascii_rest s)
nothing_left s is = ap (λ bytes. bytes ++ shown (escape_ascii_rest s)) (empty _ _ is)

left-step : (s t : EscapeAscii) (x : ℕ) → escape_ascii_steps s (Some x) t → left s ≡ x ∷ left t
left-step s t x (inl step) = ap (λ bytes. bytes ++ shown (escape_ascii_rest s)) step.0
    ∙ ap (λ bytes. x ∷ (escape_byte_rest (escape_ascii_current t) ++ shown bytes)) (sym step.1)
left-step s t x (inr step) =
    nothing_left s step.0 ∙ ap shown step.1.1 ∙ ap (λ bytes. bytes ++ shown (escape_ascii_rest t))
    step.1.2

left-end : (s t : EscapeAscii) → escape_ascii_steps s None t → left s ≡ []
left-end s t step = nothing_left s step.0 ∙ ap shown (none _ step.1)

-- a text of bytes that are shown as they are is
pub shown_plain : (text : Bytes) → AllByRecursion IsShownPlain text → shown text ≡ text
shown_plain [] all = refl
shown_plain (b ∷ text) all = ap (λ front. front ++ shown text) all.0
    ∙ ap (λ later. b ∷ later) (shown_plain text all.1)

-- at first all of it is
pub left-start : (s : EscapeAscii) (text : Bytes) → escape_ascii_rest s ≡ text
    → escape_byte_rest (escape_ascii_current s) ≡ [] → left s ≡ shown text
left-start s text rest current =
    ap (λ bytes. bytes ++ shown (escape_ascii_rest s)) current ∙ ap shown rest

-- after some of it one byte more comes, or it is all
pub one_more : {text : Bytes} (yielded : Bytes) (s t : EscapeAscii) (x : ℕ)
    → text ≡ yielded ++ left s → escape_ascii_steps s (Some x) t
    → text ≡ (yielded ++ x ∷ []) ++ left t
one_more yielded s t x so_far step =
    so_far ∙ ap (λ bytes. yielded ++ bytes) (left-step s t x step)
    ∙ sym (append_assoc yielded (x ∷ []) (left t))

pub all : {text : Bytes} (yielded : Bytes) (s t : EscapeAscii) → text ≡ yielded ++ left s
    → escape_ascii_steps s None t → text ≡ yielded
all yielded s t so_far step =
    so_far ∙ ap (λ bytes. yielded ++ bytes) (left-end s t step) ∙ append-nil yielded
