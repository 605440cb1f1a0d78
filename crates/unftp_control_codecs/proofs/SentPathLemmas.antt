-- The path of LIST is at the same place in bytes that are sent, in the value and in its text.
use Rattle.std.proofs.Common.{◌≡◌, Bool, true, false, cond, ◌==◌, ◌&&◌, List, [], ◌∷◌, ◌++◌, map, flat_map, inl, inr, refl, sym, ap, ◌∙◌, arith, append_assoc}
use Rattle.std.specs.List.{AllByRecursion}
use Rattle.std.proofs.lemmas.Bool.{and_right, cond_both}
use Rattle.unftp_control_defs.specs.Bytes.{Bytes, NUL, CR, SP, DASH, Lacks}
use Rattle.unftp_control_defs.specs.Paths.{IsOptionWord, with_space, EndsInPath, path_of}
use Rattle.unftp_control_defs.proofs.PathLemmas.{path_of-ListPath, ListPath-path_of}
use Rattle.unftp_control_message.specs.SentValues.{unescaped}
use Rattle.unftp_control_message.proofs.SentLemmas.{unescaped_byte, unescaped_step}

-- A map of bytes that keeps dashes and spaces where they are, and makes none.
pub record KeepsWords (f : Bytes → Bytes) : Type 0 where
  pub nothing : f [] ≡ []
  pub dash : (t : Bytes) → f (DASH ∷ t) ≡ DASH ∷ f t
  pub space : (front more : Bytes) → f (front ++ SP ∷ more) ≡ f front ++ SP ∷ f more
  pub no_space : (word : Bytes) → Lacks SP word → Lacks SP (f word)
  pub first : (t letters : Bytes) → f t ≡ DASH ∷ letters → (more : Bytes) × (t ≡ DASH ∷ more)
  pub ended : (t : Bytes) → f t ≡ [] → t ≡ []

word_apart : (word more rest : Bytes)
    → (with_space word ++ more) ++ rest ≡ word ++ SP ∷ (more ++ rest)
word_apart word more rest = append_assoc (with_space word) more rest
    ∙ append_assoc word (SP ∷ []) (more ++ rest)

-- It keeps the words of LIST, and so their path.
module _ (f : Bytes → Bytes) (keeps : KeepsWords f) where
  one_dash : (t : Bytes) → f t ≡ DASH ∷ [] → t ≡ DASH ∷ []
  one_dash t e =
      let first = keeps.first t [] e in
      let more : DASH ∷ f first.0 ≡ DASH ∷ [] = sym (ap f first.1 ∙ keeps.dash first.0) ∙ e in
      let none : f first.0 ≡ [] = cc in
      first.1 ∙ ap (λ t. DASH ∷ t) (keeps.ended first.0 none)

  option : (word : Bytes) → IsOptionWord word → IsOptionWord (f word)
  option word w =
      let dash = ap f w.dash ∙ keeps.dash w.letters in
      record {
        letters = f w.letters;
        dash = dash;
        one_word = keeps.no_space word w.one_word;
        not_end = λ e. let one : f w.letters ≡ DASH ∷ [] = cc in
            w.not_end (w.dash ∙ ap (λ t. DASH ∷ t) (one_dash w.letters one));
      }

  all_options : (words : List Bytes) → AllByRecursion IsOptionWord words
      → AllByRecursion IsOptionWord (map f words)
  all_options [] each = tt
  all_options (word ∷ words) each = (option word each.0, all_options words each.1)

  parts : (words : List Bytes) (tail : Bytes)
      → f (flat_map with_space words ++ tail) ≡ flat_map with_space (map f words) ++ f tail
  parts [] tail = refl
  parts (word ∷ words) tail =
      ap f (word_apart word (flat_map with_space words) tail)
      ∙ keeps.space word (flat_map with_space words ++ tail)
      ∙ ap (λ t. f word ++ SP ∷ t) (parts words tail)
      ∙ sym (word_apart (f word) (flat_map with_space (map f words)) (f tail))

  end : (tail path : Bytes) → EndsInPath tail path → EndsInPath (f tail) (f path)
  end tail path (inl p) = inl (
    ap f p.0,
    λ letters e.
        let first = keeps.first path letters e in p.1 first.0 first.1,
  )
  end tail path (inr (inl e)) = inr (inl (ap f e ∙ keeps.dash (DASH ∷ SP ∷ path)
      ∙ ap (λ t. DASH ∷ t) (keeps.dash (SP ∷ path) ∙ ap (λ t. DASH ∷ t)
      (keeps.space [] path ∙ ap (λ t. t ++ SP ∷ f path) keeps.nothing))))
  end tail path (inr (inr (none, inl word))) =
      inr (inr (ap f none ∙ keeps.nothing, inl (option tail word)))
  end tail path (inr (inr (none, inr e))) = inr (inr (
    ap f none ∙ keeps.nothing,
    inr (ap f e
        ∙ keeps.dash (DASH ∷ []) ∙ ap (λ t. DASH ∷ t) (keeps.dash []
        ∙ ap (λ t. DASH ∷ t) keeps.nothing)),
  ))

  pub path_of-kept : (text : Bytes) → path_of (f text) ≡ f (path_of text)
  path_of-kept text =
      let l = ListPath-path_of text in
      path_of-ListPath (f text) (f (path_of text)) (record {
        options = map f l.options;
        tail = f l.tail;
        each = all_options l.options l.each;
        whole = ap f l.whole ∙ parts l.options l.tail;
        end = end l.tail (path_of text) l.end;
      })

unescaped-space : (front more : Bytes)
    → unescaped (front ++ SP ∷ more) ≡ unescaped front ++ SP ∷ unescaped more
unescaped-space [] more = unescaped_byte SP more (λ e. omega arith)
unescaped-space (a ∷ []) more = rw (and_right (a == CR) (SP == NUL) refl)
    (ap (λ t. a ∷ t) (unescaped_byte SP more (λ e. omega arith)))
unescaped-space (a ∷ b ∷ front) more = by_test ((a == CR) && (b == NUL))
    (unescaped-space front more) (unescaped-space (b ∷ front) more)
  where
    by_test : (test : Bool)
        → unescaped (front ++ SP ∷ more) ≡ unescaped front ++ SP ∷ unescaped more
        → unescaped (b ∷ (front ++ SP ∷ more)) ≡ unescaped (b ∷ front) ++ SP ∷ unescaped more
        → cond test (CR ∷ unescaped (front ++ SP ∷ more))
        (a ∷ unescaped (b ∷ (front ++ SP ∷ more)))
        ≡ cond test (CR ∷ unescaped front) (a ∷ unescaped (b ∷ front)) ++ SP ∷ unescaped more
    by_test true two one = ap (λ t. CR ∷ t) two
    by_test false two one = ap (λ t. a ∷ t) one

unescaped-no_space : (word : Bytes) → Lacks SP word → Lacks SP (unescaped word)
unescaped-no_space [] h = tt
unescaped-no_space (a ∷ []) h = h
unescaped-no_space (a ∷ b ∷ word) h = cond_both ((a == CR) && (b == NUL)) (CR ∷ unescaped word)
    (a ∷ unescaped (b ∷ word)) (Lacks SP)
    (λ _. ((λ e. omega arith), unescaped-no_space word h.1.1))
    (λ _. (h.0, unescaped-no_space (b ∷ word) h.1))

unescaped-first : (t letters : Bytes) → unescaped t ≡ DASH ∷ letters
    → (more : Bytes) × (t ≡ DASH ∷ more)
unescaped-first [] letters e = cc
unescaped-first (a ∷ t) letters e =
    let step = unescaped_step (a ∷ t) (omega arith) in
    let is : a ≡ DASH = cc in
    (t, ap (λ a. a ∷ t) is)

unescaped-ended : (t : Bytes) → unescaped t ≡ [] → t ≡ []
unescaped-ended [] e = refl
unescaped-ended (a ∷ t) e = let step = unescaped_step (a ∷ t) (omega arith) in cc

pub path_of-unescaped : (sent : Bytes) → path_of (unescaped sent) ≡ unescaped (path_of sent)
path_of-unescaped = path_of-kept unescaped (record {
  nothing = refl;
  dash = λ t. unescaped_byte DASH t (λ e. omega arith);
  space = unescaped-space;
  no_space = unescaped-no_space;
  first = unescaped-first;
  ended = unescaped-ended;
})
