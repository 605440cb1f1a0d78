-- Replies and a limit on their length.
use Rattle.std.proofs.Common.{◌≡◌, ◌↔◌, ℕ, ◌+◌, ◌-◌, ◌<◌, ◌≤◌, Option, None, Some, List, [], ◌∷◌, ◌++◌, length, take, drop, refl, sym, ap, subst, ◌∙◌, ⊎_elim, append_assoc, append-nil, length-append, arith}
use Rattle.std.specs.Prelude.{IfSome}
use Rattle.std.proofs.Math.Seq.{take-append-add}
use Rattle.std.proofs.lemmas.Bool.{cases_lt}
use Rattle.std.proofs.lemmas.List.{take-append-drop, take-append-le, length-take}
use Rattle.unftp_control_defs.specs.Bytes.{Bytes}
use Rattle.unftp_control_defs.specs.ReplyReader.{LacksCrlf, with_crlf, FrontReply, Opens, IsMalformed, IsPartial}
use Rattle.unftp_control_defs.specs.ReplyLimit.{within_limit, IsTooLongReply}
use Rattle.unftp_control_defs.specs.ComputedReply.{Cuts, cuts_of}
use Rattle.unftp_control_defs.proofs.CrlfLemmas.{cuts_of-with_crlf}
use Rattle.unftp_control_defs.proofs.ReplyLemmas.{FrontReply-append, IsMalformed-append, front_within, front_is_formed, FrontReply-unique, IsReply-front}

-- ---- the bytes that a reply may have

take_past : (n : ℕ) (front rest : Bytes) → length front ≤ n
    → take n (front ++ rest) ≡ front ++ take (n - length front) rest
take_past n front rest within = let same : n ≡ length front + (n - length front) = omega arith in
    ap (λ n. take n (front ++ rest)) same ∙ take-append-add front rest (n - length front)

-- the bytes after them
abbrev past_limit : Option ℕ → Bytes → Bytes
past_limit None bytes = []
past_limit (Some limit) bytes = drop limit bytes

pub limit_apart : (limit : Option ℕ) (bytes : Bytes)
    → within_limit limit bytes ++ past_limit limit bytes ≡ bytes
limit_apart None bytes = append-nil bytes
limit_apart (Some limit) bytes = take-append-drop limit bytes

module _ (limit : Option ℕ) (bytes : Bytes) where
  pub length-within : length (within_limit limit bytes) ≤ length bytes
  length-within = omega (
    arith,
    ap length (limit_apart limit bytes),
    length-append (within_limit limit bytes) (past_limit limit bytes),
  )

  pub FrontReply-within : {code : ℕ} {lines : List Bytes} {used : ℕ}
      → FrontReply (within_limit limit bytes) code lines used
      ↔ (FrontReply bytes code lines used × IfSome limit (λ limit. used ≤ limit))
  FrontReply-within {code} {lines} {used} = (
    (λ f. (
      subst (λ b. FrontReply b code lines used) (limit_apart limit bytes)
          (FrontReply-append (within_limit limit bytes) (past_limit limit bytes) code lines used f),
      short limit f,
    )),
    (λ f. within limit f.0 f.1),
  )
    where
      short : (limit : Option ℕ) → FrontReply (within_limit limit bytes) code lines used
          → IfSome limit (λ limit. used ≤ limit)
      short None f = tt
      short (Some limit) f = omega (
        arith,
        (front_within (take limit bytes) code lines used f).1,
        length-take limit bytes,
      )

      within : (limit : Option ℕ) → FrontReply bytes code lines used
          → IfSome limit (λ limit. used ≤ limit)
          → FrontReply (within_limit limit bytes) code lines used
      within None f h = f
      within (Some limit) f h =
          record {
            front = f.front;
            rest = take (limit - length f.front) f.rest;
            cut = ap (take limit) f.cut
                ∙ take_past limit f.front f.rest (omega (arith, h, f.length_is));
            reply = f.reply;
            length_is = f.length_is;
          }

  pub IsMalformed-within : IsMalformed (within_limit limit bytes) → IsMalformed bytes
  IsMalformed-within m = subst IsMalformed (limit_apart limit bytes)
      (IsMalformed-append (within_limit limit bytes) (past_limit limit bytes) m)

  pub IsPartial-within : IsPartial bytes → IsPartial (within_limit limit bytes)
  IsPartial-within partial = (
    (λ (code, lines, used, f). partial.0 (code, lines, used, (FrontReply-within.0 f).0)),
    (λ m. partial.1 (IsMalformed-within m)),
  )

-- ---- bytes that are too long

pub IsTooLongReply-append : (limit : Option ℕ) (bytes more : Bytes)
    → IsTooLongReply limit bytes → IsTooLongReply limit (bytes ++ more)
IsTooLongReply-append None bytes more h = h
IsTooLongReply-append (Some limit) bytes more h = (
  omega (arith, h.0, length-append bytes more),
  subst IsPartial (sym (take-append-le limit bytes more h.0)) h.1,
)

-- bytes that begin with a reply, or with a line that opens none
too_long_front : (limit : ℕ) (front rest : Bytes) → ((more : Bytes) → ¬ IsPartial (front ++ more))
    → (limit < length front → IsPartial (take limit (front ++ rest)))
    → IsTooLongReply (Some limit) (front ++ rest) ↔ (limit < length front)
too_long_front limit front rest whole part = (
  (λ h. ⊎_elim
      (λ (less : limit < length front). less)
      (λ (within : length front ≤ limit).
      absurd (whole (take (limit - length front) rest)
      (subst IsPartial (take_past limit front rest within) h.1)))
      (cases_lt limit (length front))),
  (λ less. (omega (arith, less, length-append front rest), part less)),
)

pub IsTooLongReply-front : (limit : ℕ) {bytes : Bytes} {code : ℕ} {lines : List Bytes} {used : ℕ}
    → FrontReply bytes code lines used → IsTooLongReply (Some limit) bytes ↔ (limit < used)
IsTooLongReply-front limit {bytes} {code} {lines} {used} f =
    rw (f.cut, f.length_is) (too_long_front limit f.front f.rest whole part)
  where
    whole : (more : Bytes) → ¬ IsPartial (f.front ++ more)
    whole more partial = partial.0 (code, lines, length f.front, IsReply-front f.reply more)

    part : limit < length f.front → IsPartial (take limit (f.front ++ f.rest))
    part less = (
      (λ (m, ks, taken, g).
          let both = (FrontReply-within (Some limit) (f.front ++ f.rest)).0 g in
          omega (
            arith,
            less,
            (FrontReply-unique (IsReply-front f.reply f.rest) both.0).2,
            both.1,
          )),
      (λ m. front_is_formed (f.front ++ f.rest)
          (code, lines, length f.front, IsReply-front f.reply f.rest)
          (IsMalformed-within (Some limit) (f.front ++ f.rest) m)),
    )

-- bytes that are a part of a reply
pub IsTooLongReply-partial : (limit : ℕ) (bytes : Bytes)
    → IsPartial bytes → IsTooLongReply (Some limit) bytes ↔ (limit ≤ length bytes)
IsTooLongReply-partial limit bytes partial =
    ((λ h. h.0), (λ enough. (enough, IsPartial-within (Some limit) bytes partial)))

-- bytes whose first line opens no reply
pub IsTooLongReply-malformed : (limit : ℕ) (first rest : Bytes) → LacksCrlf first → ¬ Opens first
    → IsTooLongReply (Some limit) (with_crlf first ++ rest) ↔ (limit < length (with_crlf first))
IsTooLongReply-malformed limit first rest is_line opens_none =
    too_long_front limit (with_crlf first) rest (λ more partial. partial.1 (malformed more)) part
  where
    bytes : Bytes
    bytes = with_crlf first ++ rest

    malformed : (more : Bytes) → IsMalformed (with_crlf first ++ more)
    malformed more = record {
      first = first;
      rest = more;
      cut = refl;
      is_line = is_line;
      opens_none = opens_none;
    }

    part : limit < length (with_crlf first) → IsPartial (take limit bytes)
    part less = (
      (λ (m, ks, taken, g). front_is_formed bytes
          (m, ks, taken, ((FrontReply-within (Some limit) bytes).0 g).0) (malformed rest)),
      no_line,
    )
      where
        -- it would be the first line of all bytes, which is longer
        no_line : ¬ IsMalformed (take limit bytes)
        no_line m =
            let after = drop limit bytes in
            let cut : bytes ≡ with_crlf m.first ++ (m.rest ++ after) =
            sym (take-append-drop limit bytes) ∙ ap (λ b. b ++ after) m.cut
            ∙ append_assoc (with_crlf m.first) m.rest after in
            let same : ◌≡◌ {A = Cuts} ((first, rest) ∷ cuts_of rest)
            ((m.first, m.rest ++ after) ∷ cuts_of (m.rest ++ after)) =
            sym (cuts_of-with_crlf first rest is_line) ∙ ap cuts_of cut
            ∙ cuts_of-with_crlf m.first (m.rest ++ after) m.is_line in
            let cuts : (first, rest) ≡ (m.first, m.rest ++ after) = cc in
            let line : first ≡ m.first = ap (λ (cut : Bytes × Bytes). cut.0) cuts in
            omega (
              arith,
              less,
              ap (λ l. length (with_crlf l)) line,
              ap length m.cut,
              length-append (with_crlf m.first) m.rest,
              length-take limit bytes,
            )
