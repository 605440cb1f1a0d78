-- Two texts written to a formatter, one after the other, under any flags; and the text of a kind.
use Rattle.std.proofs.Common.{◌≡◌, ◌≢◌, ℕ, List, [], ◌∷◌, ◌++◌, Global, String, refl, sym, ◌∙◌, subst}
use Rattle.std.specs.Fmt.{HasWrittenStyled}
use Rattle.std.specs.List.{FoldsTo}
use Rattle.std.specs.declared.fmt.Formatter.{Formatter}
use Rattle.std.proofs.lemmas.List.Folds.{concat-append}
use Rattle.unftp_control_defs.specs.Texts.{kind_reason, kind_text}
use Rattle.unftp_control_message.specs.ErrorMeaning.{kind_meant}
use Rattle.unftp_control_message.specs.declared.reply.error.ControlChanErrorKind.{ControlChanErrorKind}
use Rattle.unftp_control_message.specs.declared.reply.error.ControlChanErrorKind.TheVariants as rust

module _ {W : Type 0} (took : W → List ℕ → W → Type 0) where
  folds-append : (w : W) (xs : List (List ℕ)) (v : W) (ys : List (List ℕ)) (u : W) →
      FoldsTo took w xs v → FoldsTo took v ys u → FoldsTo took w (xs ++ ys) u
  folds-append w [] v ys u p q = subst (λ (x : W). FoldsTo took x ys u) (sym p) q
  folds-append w (x ∷ xs) v ys u p q = (p.0, p.1, folds-append p.0 xs v ys u p.2 q)

  pub styled_texts-append : (f : Formatter W) (s : List ℕ) (g : Formatter W) (t : List ℕ)
      (h : Formatter W) →
      HasWrittenStyled took f s g → HasWrittenStyled took g t h → HasWrittenStyled took f (s ++ t) h
  styled_texts-append f s g t h p q = record {
    wrote = record {
      parts = p.wrote.parts ++ q.wrote.parts;
      calls = folds-append f.writer p.wrote.parts g.writer q.wrote.parts h.writer p.wrote.calls
          q.wrote.calls;
      whole = concat-append p.wrote.parts q.wrote.parts ∙ (λ i. p.wrote.whole i ++ q.wrote.whole i);
    };
    spec = q.spec ∙ p.spec;
    flush = q.flush;
  }

-- what holds no command is its reason
pub reason_is : (kind : ControlChanErrorKind)
    → ((command : String Global) → kind ≢ rust.UnknownCommand command)
    → kind_reason (kind_meant kind) ≡ kind_text (kind_meant kind)
reason_is (rust.UnknownCommand command) other = absurd (other command refl)
reason_is kind other = refl
