-- A value with a CR is none that a command with a type of its own takes: so the outcome is the same
-- with and without the NULs.
use Rattle.std.proofs.Common.{◌≡◌, ◌⊎◌, inl, inr, ℕ, false, List as Sequence, [], ◌∷◌, ◌++◌, true, Err, bytes_eq, refl, sym, ap, subst, ◌∙◌, ⊎_elim}
use Rattle.std.specs.List.{list_all}
use Rattle.std.proofs.lemmas.Bool.{and_parts, cases_eq, false_from_ne_true}
use lib.Pointwise.{bytes_decides}
use Rattle.unftp_control_defs.specs.Bytes.{Bytes, CR, Lacks}
use Rattle.unftp_control_defs.specs.FtpCommand.{FtpCommand, Outcome, InvalidCommand}
use Rattle.unftp_control_defs.specs.Rules.{chosen}
use Rattle.unftp_control_defs.proofs.LackLemmas.{lacks, Lacks-test}
use Rattle.unftp_control_message.specs.SentValues.{unescaped, after_nul}
use Rattle.unftp_control_message.proofs.SentLemmas.{returned, unescaped_front, unescaped_lacking}

-- there is no CR, or a first one
first_return : (bytes : Bytes) → Lacks CR bytes
    ⊎ ((front : Bytes) × (more : Bytes) × Lacks CR front × (bytes ≡ front ++ CR ∷ more))
first_return [] = inl tt
first_return (b ∷ bytes) = ⊎_elim
    (λ is. inr ([], bytes, tt, ap (λ b. b ∷ bytes) is))
    (λ other. ⊎_elim (λ none. inl (other, none))
    (λ p. inr (b ∷ p.0, p.1, (other, p.2), ap (λ t. b ∷ t) p.3)) (first_return bytes))
    (cases_eq b CR)

pub same_answer_unescaped : (answer : Bytes → Outcome)
    → ((front more : Bytes) → answer (front ++ CR ∷ more) ≡ Err InvalidCommand)
    → (sent : Bytes) → answer (unescaped sent) ≡ answer sent
same_answer_unescaped answer refused sent = ⊎_elim
    (λ none. ap answer (unescaped_lacking sent none))
    (λ p. ap answer (ap unescaped p.3 ∙ unescaped_front p.0 (CR ∷ p.1) p.2
    ∙ ap (λ t. p.0 ++ t) (returned p.1))
    ∙ refused p.0 (unescaped (after_nul p.1)) ∙ sym (ap answer p.3 ∙ refused p.0 p.1))
    (first_return sent)

not_lacking : (b : ℕ) (front more : Bytes) → ¬ (Lacks b (front ++ b ∷ more))
not_lacking b [] more h = h.0 refl
not_lacking b (a ∷ front) more h = not_lacking b front more h.1

no_choice : (rows : Sequence (Bytes × FtpCommand))
    → list_all (λ row. lacks CR row.0) rows ≡ true → (front more : Bytes)
    → chosen rows (front ++ CR ∷ more) ≡ Err InvalidCommand
no_choice [] each front more = refl
no_choice (row ∷ rows) each front more =
    let parts = and_parts (lacks CR row.0) (list_all (λ row. lacks CR row.0) rows) each in
    let other : bytes_eq row.0 (front ++ CR ∷ more) ≡ false = false_from_ne_true _ (λ t.
    not_lacking CR front more (subst (Lacks CR) ((bytes_decides row.0 (front ++ CR ∷ more)).0 t)
    (Lacks-test CR row.0 parts.0))) in
    rw other (no_choice rows parts.1 front more)

pub same_choice : (rows : Sequence (Bytes × FtpCommand)) (sent : Bytes)
    → list_all (λ row. lacks CR row.0) rows ≡ true
    → chosen rows (unescaped sent) ≡ chosen rows sent
same_choice rows sent each = same_answer_unescaped (chosen rows) (no_choice rows each) sent
