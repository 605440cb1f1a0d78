-- Inputs that are longer than their run.
use Rattle.std.proofs.Common.{◌≡◌, true, ◌++◌, take, drop, Option, ℕ, ap, sym, ◌∙◌, append_assoc}
use Rattle.std.specs.List.{concat}
use Rattle.std.proofs.lemmas.List.{take-append-drop}
use Rattle.std.proofs.lemmas.List.Folds.{concat-append}
use Rattle.unftp_control_defs.specs.Bytes.{Bytes}
use Rattle.unftp_control_defs.specs.Lines.{lines_of, incomplete_line}
use Rattle.unftp_control_defs.specs.Run.{SessionLaw, run_for, ends_for, after_lines}
use Rattle.unftp_control_defs.proofs.LineLemmas.{Lines-lines_of}
use Rattle.unftp_control_defs.proofs.RunLemmas.{run-ended}

module _ {S : Type 0} (law : SessionLaw S) (limit : Option ℕ) (s : S) where
  pub same_run : (input more other : Bytes) → ends_for limit law s input ≡ true →
      run_for limit law s (input ++ more) ≡ run_for limit law s (input ++ other)
  same_run input more other ended = (run-ended law limit s input more ended).0
      ∙ sym (run-ended law limit s input other ended).0

-- some lines of an input, and the bytes after them
pub lines-then-after : (n : ℕ) (input : Bytes)
    → concat (take n (lines_of input)) ++ after_lines n input ≡ input
lines-then-after n input =
    sym (append_assoc (concat (take n (lines_of input))) (concat (drop n (lines_of input)))
    (incomplete_line input))
    ∙ ap (λ bytes. bytes ++ incomplete_line input)
    (sym (concat-append (take n (lines_of input)) (drop n (lines_of input)))
    ∙ ap concat (take-append-drop n (lines_of input)))
    ∙ sym (Lines-lines_of input).whole
