-- The first line of what a client sent.
use Rattle.std.proofs.Common.{◌≡◌, ℕ, Bool, true, false, List, [], ◌∷◌, ◌++◌, length, drop, Option, Some, None, refl, sym, ap, ◌∙◌, arith, append_assoc, length-append}
use Rattle.std.specs.Prelude.{if◌then◌else◌, ◌≢◌}
use Rattle.std.specs.List.{AllByRecursion, concat}
use Rattle.std.proofs.Math.Seq.{drop-append_seam}
use Rattle.unftp_control_defs.specs.Bytes.{Bytes, LF, Lacks}
use Rattle.unftp_control_defs.specs.Events.{FtpEvent, event_for, exceeds}
use Rattle.unftp_control_defs.specs.Lines.{IsLine, Lines, incomplete_line, lines_of}
use Rattle.unftp_control_defs.specs.TakingSteps.{TakesEvent}
use Rattle.unftp_control_defs.proofs.LineLemmas.{Lines-lines_of, line_first}
use Rattle.unftp_control_serve.specs.declared.decoder.ClientLine.{ClientLine}
use Rattle.unftp_control_serve.specs.declared.decoder.ClientLine.TheVariants.{Complete, TooLong}
use Rattle.unftp_control_codecs.specs.Memory.{MayTakeMemory}
use Rattle.unftp_control_serve.specs.Decoder.{FirstMayRunOut, MayRunOut}
use Rattle.unftp_control_serve.specs.ClientLines.{after_front_line, first_client_line, front_line, head_or_none}

-- These bytes begin with this line.
pub record BeginsWithLine (bytes line rest : Bytes) : Type 0 where
  pub is_line : IsLine line
  pub whole : bytes ≡ line ++ rest

module _ {bytes line rest : Bytes} (begins : BeginsWithLine bytes line rest) where
  lines_are : lines_of bytes ≡ line ∷ lines_of rest
  lines_are = ap lines_of begins.whole ∙ (line_first line rest begins.is_line).0

  pub front_line-is : front_line bytes ≡ line
  front_line-is = ap head_or_none lines_are

  pub after_front_line-is : after_front_line bytes ≡ rest
  after_front_line-is = (λ i. drop (length (front_line-is i)) (begins.whole i))
      ∙ drop-append_seam line rest

  pub first_client_line-is : (limit : Option ℕ) → first_client_line limit (lines_of bytes)
      ≡ Some (if exceeds limit (length line) then TooLong else Complete)
  first_client_line-is limit = ap (first_client_line limit) lines_are

pub some_line : (line : Bytes) → IsLine line → line ≢ []
some_line line is_line none =
    omega (arith, ap length is_line.whole, ap length none, length-append is_line.body (LF ∷ []))

abbrev pub is_long : ClientLine → Bool
is_long TooLong = true
is_long Complete = false

-- What is so of bytes whose first line is this.
pub record HasFirst (limit : Option ℕ) (bytes : Bytes) (kind : ClientLine) : Type 0 where
  pub is_line : IsLine (front_line bytes)
  pub whole : bytes ≡ front_line bytes ++ after_front_line bytes
  pub long : exceeds limit (length (front_line bytes)) ≡ is_long kind

pub cut_front : (bytes : Bytes) → IsLine (front_line bytes)
    → bytes ≡ front_line bytes ++ after_front_line bytes
cut_front bytes is_line = by_lines (lines_of bytes) refl is_line
  where
    by_lines : (lines : List Bytes) → lines_of bytes ≡ lines → IsLine (head_or_none lines)
        → bytes ≡ front_line bytes ++ after_front_line bytes
    by_lines [] e is_line = absurd (some_line [] is_line refl)
    by_lines (line ∷ lines) e is_line =
        let cut : bytes ≡ line ++ (concat lines ++ incomplete_line bytes) =
        (Lines-lines_of bytes).whole
        ∙ ap (λ lines. concat lines ++ incomplete_line bytes) e
        ∙ append_assoc line (concat lines) (incomplete_line bytes) in
        let begins : BeginsWithLine bytes line (concat lines ++ incomplete_line bytes) =
        record { is_line = is_line; whole = cut } in
        cut ∙ (λ i. sym (front_line-is begins) i ++ sym (after_front_line-is begins) i)

module _ (limit : Option ℕ) (bytes : Bytes) where
  pub first_line : (kind : ClientLine) → first_client_line limit (lines_of bytes) ≡ Some kind
      → HasFirst limit bytes kind
  first_line kind is =
      let first = by_lines (lines_of bytes) (Lines-lines_of bytes).each is in
      record { is_line = first.0; whole = cut_front bytes first.0; long = first.1 }
    where
      by_test : (long : Bool) → (if long then TooLong else Complete) ≡ kind → long ≡ is_long kind
      by_test true e = ap is_long e
      by_test false e = ap is_long e

      by_lines : (lines : List Bytes) → AllByRecursion IsLine lines
          → first_client_line limit lines ≡ Some kind → IsLine (head_or_none lines)
          × (exceeds limit (length (head_or_none lines)) ≡ is_long kind)
      by_lines [] each is = absurd (cc)
      by_lines (line ∷ lines) each is =
          (each.0, by_test (exceeds limit (length line)) (cc))

  pub no_line : first_client_line limit (lines_of bytes) ≡ None → Lacks LF bytes
  no_line is = by_lines (lines_of bytes) refl is
    where
      by_lines : (lines : List Bytes) → lines_of bytes ≡ lines
          → first_client_line limit lines ≡ None → Lacks LF bytes
      by_lines [] e is = let all = Lines-lines_of bytes in
          rw (← (all.whole ∙ ap (λ lines. concat lines ++ incomplete_line bytes) e)) at all.unended
      by_lines (line ∷ lines) e is = absurd (cc)

-- the line that memory may run out for, as an event that can be taken
pub MayRunOut-taken : {limit : Option ℕ} (bytes : Bytes) → MayRunOut limit bytes
    → (event : FtpEvent) × (after : Bytes) × TakesEvent limit bytes event after
MayRunOut-taken {limit} bytes = at_lines (lines_of bytes) (Lines-lines_of bytes)
  where
    at_lines : (lines : List Bytes) → Lines bytes lines (incomplete_line bytes)
        → FirstMayRunOut limit lines
        → (event : FtpEvent) × (after : Bytes) × TakesEvent limit bytes event after
    at_lines [] is may = absurd may
    at_lines (line ∷ lines) is may = (
      event_for limit line,
      concat lines ++ incomplete_line bytes,
      record {
        line = line;
        is_line = is.each.0;
        whole = is.whole ∙ append_assoc line (concat lines) (incomplete_line bytes);
        meaning = refl;
      },
    )

-- memory may run out for the first line where it may for its command
pub may_run_out : (limit : Option ℕ) (bytes : Bytes)
    → first_client_line limit (lines_of bytes) ≡ Some Complete
    → MayTakeMemory (front_line bytes) → MayRunOut limit bytes
may_run_out limit bytes is may = by_lines (lines_of bytes) is may
  where
    by_test : (long : Bool) → (if long then TooLong else Complete) ≡ Complete → long ≡ false
    by_test true e = absurd (cc)
    by_test false e = refl

    by_lines : (lines : List Bytes) → first_client_line limit lines ≡ Some Complete
        → MayTakeMemory (head_or_none lines) → FirstMayRunOut limit lines
    by_lines [] is may = absurd (cc)
    by_lines (line ∷ lines) is may = (by_test (exceeds limit (length line)) (cc), may)
