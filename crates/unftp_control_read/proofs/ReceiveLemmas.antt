-- Replies that are read from a reader.
use Rattle.std.proofs.Common.{◌≡◌, ℕ, ◌+◌, ◌<◌, ◌≤◌, max, List, Option, Some, None, Ok, Err, IfSome, [], ◌∷◌, ◌++◌, inl, inr, length, refl, sym, ap, subst, ◌∙◌, append_assoc, append-nil, length-append, arith}
use Rattle.std.specs.List.{concat}
use Rattle.std.specs.Io.KnownBytes.{Consumes}
use Rattle.std.proofs.Math.Nat.{le-max_right}
use Rattle.std.proofs.lemmas.List.{nil_from_length}
use Rattle.unftp_control_defs.specs.Bytes.{Bytes}
use Rattle.unftp_control_defs.specs.Input.{InputState, WereRead}
use Rattle.unftp_control_defs.specs.ReplyReader.{IsPartial}
use Rattle.unftp_control_defs.specs.TakingSteps.{TakesReply}
use Rattle.unftp_control_defs.proofs.InputLemmas.{WereRead-more, WereRead-no_more, concat-more}
use Rattle.unftp_control_defs.proofs.ReplyLemmas.{TakesReply-append}
use Rattle.unftp_control_read.specs.ReplyDecoding.{HasError, HasNoReply, IsShortPart, PendingReplies, TakesFirst, after_read, content}
use Rattle.unftp_control_read.specs.Receiving.{AppendsPending, FailsToRead, HasFailure, IsNeeded, Receives, after_failure, failed_reads, failure_of, held_by_reads, last_read}
use Rattle.unftp_control_read.specs.declared.errors.NextReplyError.{NextReplyError}
use Rattle.unftp_control_read.specs.declared.errors.NextReplyError.TheVariants as next
use Rattle.unftp_control_read.specs.declared.reply.ReceivedReply.{ReceivedReply}
use Rattle.unftp_control_read.specs.declared.errors.ReceiveError.{ReceiveError}
use Rattle.unftp_control_read.specs.declared.errors.ReceiveError.TheVariants.{Read, Malformed, TooLong, OutOfMemory, TooManyReads}

-- ---- the bytes that a loop has read

-- with a limit, no more bytes than there were, or than the limit and one read
abbrev pub IsBounded : Option ℕ → ℕ → ℕ → Type 0
IsBounded limit most count = IfSome limit (λ limit. count ≤ max most (limit + 4095))

more_bounded : (limit : Option ℕ) (most short count : ℕ) → IfSome limit (λ limit. short < limit)
    → count ≤ short + 4096 → IsBounded limit most count
more_bounded None most short count h less = tt
more_bounded (Some limit) most short count h less =
    omega (arith, h, less, le-max_right most (limit + 4095))

held_bounded : (limit : Option ℕ) (most held short : ℕ) → IfSome limit (λ limit. short < limit)
    → IsBounded limit most held → IsBounded limit most (max held (short + 4096))
held_bounded None most held short h less = tt
held_bounded (Some limit) most held short h less = omega (arith, h, less)

-- one more read
held_by_one_more : (held pending : ℕ) (pieces : List Bytes) (last : Bytes)
    → held_by_reads held pending (pieces ++ last ∷ [])
    ≡ max (held_by_reads held pending pieces) (pending + length (concat pieces) + 4096)
held_by_one_more held pending [] last = ap (λ n. max held (n + 4096)) (omega arith)
held_by_one_more held pending (piece ∷ pieces) last =
    held_by_one_more (max held (pending + 4096)) (pending + length piece) pieces last
    ∙ ap (λ n. max (held_by_reads held pending (piece ∷ pieces)) (n + 4096))
    (omega (arith, length-append piece (concat pieces)))

pub record Reading (before : PendingReplies) (input : InputState) (now : PendingReplies)
    (input' : InputState) (turn : ℕ) : Type 0 where
  pub pieces : List Bytes
  pub were_read : WereRead input input' pieces []
  pub quiet : input'.failures ≡ input.failures
  pub bytes_are : now.bytes ≡ before.bytes ++ concat pieces
  pub limit_is : now.limit ≡ before.limit
  pub many : turn ≤ length (concat pieces)
  pub pending : IsBounded before.limit (length before.bytes) (length now.bytes)
  pub buffered : IsBounded before.limit before.buffered now.buffered
  pub needed : IsNeeded before pieces
  pub held_is : now.held ≡ held_by_reads before.held (length before.bytes) pieces
  pub held : IsBounded before.limit before.held now.held

module _ {before : PendingReplies} {input : InputState} {now : PendingReplies}
    {input' : InputState} {turn : ℕ} (r : Reading before input now input' turn) where
  abbrev read : Bytes
  read = concat r.pieces

  held_so_far : now.held ≡ held_by_reads before.held (length before.bytes) (r.pieces ++ [])
  held_so_far = r.held_is
      ∙ ap (held_by_reads before.held (length before.bytes)) (sym (append-nil r.pieces))

  -- a reply is taken
  pub received : {reply : ReceivedReply} {after : PendingReplies}
      → TakesFirst now (content reply) after → after.held ≡ now.held
      → Receives before input (Ok (Some reply)) after input'
  received t kept = record {
    pieces = r.pieces;
    were_read = r.were_read;
    failures = omega (arith, r.quiet);
    takes_next = record {
      takes = record {
        used = t.takes.used;
        front = rw r.bytes_are at t.takes.front;
        after_is = rw r.bytes_are at t.takes.after_is;
      };
      within = subst (λ limit. IfSome limit (λ limit. t.takes.used ≤ limit)) r.limit_is t.within;
    };
    needed = r.needed;
    held = kept ∙ held_so_far;
  }

  -- or it is refused, or out of memory
  pub refused : (error : NextReplyError) {after : PendingReplies}
      → HasError now.limit now.bytes error → after.bytes ≡ now.bytes → after.held ≡ now.held
      → Receives before input (Err (failure_of error)) after input'
  refused error {after} h same kept =
      let so = by_error error (rw (r.limit_is, r.bytes_are) at h) in
      record {
        pieces = r.pieces;
        were_read = r.were_read;
        failures = so.0;
        takes_next = (so.1, same ∙ r.bytes_are);
        needed = r.needed;
        held = kept ∙ held_so_far ∙ ap (λ last. held_by_reads before.held (length before.bytes)
            (r.pieces ++ last)) so.2;
      }
    where
      by_error : (e : NextReplyError) → HasError before.limit (before.bytes ++ read) e
          → (input'.failures ≡ input.failures + failed_reads (Err (failure_of e)))
          × HasFailure before.limit (before.bytes ++ read) (failure_of e)
          × ([] ≡ last_read (Err (failure_of e)))
      by_error next.Malformed k = (omega (arith, r.quiet), k, refl)
      by_error next.TooLong k = (omega (arith, r.quiet), k, refl)
      by_error next.OutOfMemory k = (omega (arith, r.quiet), inl k, refl)

  -- there is none, and only what is pending stays in the buffer
  module _ {mid : PendingReplies} (none : HasNoReply now mid) (limit_is : mid.limit ≡ now.limit)
      (held : mid.buffered ≡ length mid.bytes) (kept : mid.held ≡ now.held) where
    bytes_are : mid.bytes ≡ before.bytes ++ read
    bytes_are = none.same ∙ r.bytes_are

    part : IsShortPart before.limit (before.bytes ++ read)
    part = (
      subst IsPartial r.bytes_are none.partial,
      subst (λ b. IfSome before.limit (λ limit. length b < limit)) bytes_are
          (subst (λ limit. IfSome limit (λ limit. length mid.bytes < limit)) r.limit_is none.short),
    )

    -- the buffer had room for one more read, which gave this
    held_then : (last : Bytes) → max mid.held (mid.buffered + 4096)
        ≡ held_by_reads before.held (length before.bytes) (r.pieces ++ last ∷ [])
    held_then last =
        let count : mid.buffered ≡ length before.bytes + length read =
        held ∙ ap length bytes_are ∙ length-append before.bytes read in
        (λ i. max ((kept ∙ r.held_is) i) (count i + 4096))
        ∙ sym (held_by_one_more before.held (length before.bytes) r.pieces last)

    bounded_then : IsBounded before.limit before.held (max mid.held (mid.buffered + 4096))
    bounded_then =
        subst (λ n. IsBounded before.limit before.held (max n (mid.buffered + 4096))) (sym kept)
        (held_bounded before.limit before.held now.held mid.buffered
        (subst (λ n. IfSome before.limit (λ limit. n < limit))
        (sym (held ∙ ap length bytes_are)) part.1) r.held)

    pub bounded_at_read : {after : PendingReplies} (piece : Bytes) → after ≡ after_read mid piece
        → IsBounded before.limit before.held after.held
    bounded_at_read piece is =
        subst (λ (p : PendingReplies). IsBounded before.limit before.held p.held) (sym is)
        bounded_then

    pub bounded_at_failure : (error : ReceiveError) {after : PendingReplies}
        → after ≡ after_failure mid error → IsBounded before.limit before.held after.held
    bounded_at_failure error {after} is =
        subst (λ (p : PendingReplies). IsBounded before.limit before.held p.held) (sym is)
        (by_error error)
      where
        by_error : (e : ReceiveError)
            → IsBounded before.limit before.held (after_failure mid e).held
        by_error OutOfMemory =
            subst (IsBounded before.limit before.held) (sym kept) r.held
        by_error (Read _) = bounded_then
        by_error Malformed = bounded_then
        by_error TooLong = bounded_then
        by_error TooManyReads = bounded_then

    -- one more piece
    pub more_read : {after : PendingReplies} {next : InputState} (n : ℕ)
        → AppendsPending 4096 mid after input' next (Ok n) → 0 < n
        → Reading before input after next (turn + 1)
    more_read {after} {next} n h some = record {
      pieces = r.pieces ++ h.0 ∷ [];
      were_read = WereRead-more r.were_read h.0 (record {
        given = h.4;
        size = (omega (arith, h.2, some), omega (arith, h.2, h.3));
        reads = rw (sym h.2) at h.5;
        failures = h.6;
      });
      quiet = h.6 ∙ r.quiet;
      bytes_are = ap (λ (p : PendingReplies). p.bytes) h.1
          ∙ ap (λ b. b ++ h.0) bytes_are ∙ append_assoc before.bytes read h.0
          ∙ ap (λ read. before.bytes ++ read) (sym (concat-more r.pieces h.0));
      limit_is = ap (λ (p : PendingReplies). p.limit) h.1 ∙ limit_is ∙ r.limit_is;
      many = omega (arith, r.many, more, h.2, some);
      pending = more_bounded before.limit (length before.bytes) (length (before.bytes ++ read))
          (length after.bytes) part.1 (omega (
            arith,
            ap (λ (p : PendingReplies). length p.bytes) h.1,
            length-append mid.bytes h.0,
            ap length bytes_are,
            h.2,
            h.3,
          ));
      buffered = more_bounded before.limit before.buffered (length (before.bytes ++ read))
          after.buffered part.1 (omega (
            arith,
            ap (λ (p : PendingReplies). p.buffered) h.1,
            held,
            ap length bytes_are,
            h.2,
            h.3,
          ));
      needed = inr record { first = r.pieces; last = h.0; whole = refl; part = part };
      held_is = ap (λ (p : PendingReplies). p.held) h.1 ∙ held_then h.0;
      held = bounded_at_read h.0 h.1;
    }
      where
        more : length (concat (r.pieces ++ h.0 ∷ [])) ≡ length read + length h.0
        more = ap length (concat-more r.pieces h.0) ∙ length-append read h.0

    -- what is pending is a part of a reply, at the end
    pub at_end : {after : PendingReplies} {last : InputState}
        → AppendsPending 4096 mid after input' last (Ok 0)
        → Receives before input (Ok None) after last
    at_end {after} {last} h =
        let nothing : h.0 ≡ [] = nil_from_length h.0 h.2 in
        let same : after.bytes ≡ before.bytes ++ read = ap (λ (p : PendingReplies). p.bytes) h.1
        ∙ ap (λ p. mid.bytes ++ p) nothing ∙ append-nil mid.bytes ∙ bytes_are in
        record {
          pieces = r.pieces;
          were_read = WereRead-no_more r.were_read (0 ∷ []) (rw nothing at h.4) h.5;
          failures = omega (arith, h.6, r.quiet);
          takes_next = (
            record {
              partial = part.0;
              same = same;
              short = subst (λ b. IfSome before.limit (λ limit. length b < limit))
                  (sym same) part.1;
            },
            h.7 refl,
          );
          needed = r.needed;
          held = ap (λ (p : PendingReplies). p.held) h.1 ∙ held_then [];
        }

    -- a failure of reading
    pub failed : (error : ReceiveError) {after : PendingReplies} {last : InputState}
        → AppendsPending 4096 mid after input' last (Err error)
        → Receives before input (Err error) after last
    failed error {after} {last} h =
        let so = by_error error h.1 in
        record {
          pieces = r.pieces;
          were_read = so.0;
          failures = so.1;
          takes_next = (so.2, ap (λ (p : PendingReplies). p.bytes) h.0 ∙ so.3 ∙ bytes_are);
          needed = r.needed;
          held = ap (λ (p : PendingReplies). p.held) h.0 ∙ so.4;
        }
      where
        by_error : (e : ReceiveError) → FailsToRead input' last e → WereRead input last r.pieces []
            × (last.failures ≡ input.failures + failed_reads (Err e))
            × HasFailure before.limit (before.bytes ++ read) e
            × ((after_failure mid e).bytes ≡ mid.bytes)
            × ((after_failure mid e).held ≡ held_by_reads before.held (length before.bytes)
            (r.pieces ++ last_read (Err e)))
        by_error (Read _) k = (
          WereRead-no_more r.were_read [] k.0 (k.1 ∙ sym (append-nil input'.reads)),
          omega (arith, k.2, r.quiet),
          part,
          refl,
          held_then [],
        )
        by_error OutOfMemory k =
            rw k (r.were_read, omega (arith, r.quiet), inr part, refl, kept ∙ held_so_far)
        by_error Malformed k = absurd k
        by_error TooLong k = absurd k
        by_error TooManyReads k = absurd k

-- ---- the same of the remaining input, where it is known

module _ {before : PendingReplies} {input : InputState} {after : PendingReplies}
    {input' : InputState} where
  pub reply_known : {reply : ReceivedReply} → Receives before input (Ok (Some reply)) after input'
      → IfSome input.remaining (λ bytes. IfSome input'.remaining (λ left.
      TakesReply (before.bytes ++ bytes) (content reply) (after.bytes ++ left)))
  reply_known {reply} h = of_known input.remaining input'.remaining h.were_read.given.known
    where
      of_known : (a b : Option Bytes) → Consumes a b (concat h.pieces)
          → IfSome a (λ bytes. IfSome b (λ left.
          TakesReply (before.bytes ++ bytes) (content reply) (after.bytes ++ left)))
      of_known None b consumed = tt
      of_known (Some bytes) None consumed = tt
      of_known (Some bytes) (Some left) consumed =
          subst (λ b. TakesReply b (content reply) (after.bytes ++ left))
          (append_assoc before.bytes (concat h.pieces) left
          ∙ ap (λ b. before.bytes ++ b) (sym consumed))
          (TakesReply-append left h.takes_next.takes)
