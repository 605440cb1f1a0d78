-- The pending bytes of a reply decoder, of which a search sees those that a reply may have.
use Rattle.std.proofs.Common.{◌≡◌, append-nil, ℕ, zero, suc, ◌+◌, ◌<◌, ◌≤◌, Option, Some, None, Ok, Err, Result, List, [], ◌∷◌, ◌++◌, length, take, drop, refl, sym, ap, subst, ◌∙◌, arith, length-append}
use Rattle.std.specs.Prelude.{◌≢◌, IfErr, IfSome, max}
use Rattle.std.proofs.lemmas.List.{take_all, drop-append-le, length-take}
use Rattle.unftp_control_defs.specs.Bytes.{Bytes}
use Rattle.unftp_control_defs.specs.Input.{InputState}
use Rattle.unftp_control_defs.specs.ReplyReader.{FrontReply, HasFront, IsMalformed, IsPartial}
use Rattle.unftp_control_defs.specs.ReplyLimit.{IsTooLongReply, within_limit}
use Rattle.unftp_control_defs.proofs.ReplyLemmas.{FrontReply-unique, front_is_formed}
use Rattle.unftp_control_defs.proofs.ReplyLimitLemmas.{FrontReply-within, IsMalformed-within, IsPartial-within}
use Rattle.unftp_control_read.specs.Reading.{ReturnsRefusal}
use Rattle.unftp_control_read.specs.Search.{IsSearched}
use Rattle.unftp_control_read.specs.declared.search.Search.{Search}
use Rattle.unftp_control_read.specs.ReplyDecoding.{HasError, IsReplyDecoder, IsReturned, NextReply, PendingReplies, TakesNextReply, error_of, pending_replies}
use Rattle.unftp_control_read.specs.Receiving.{AppendsPending, AppendsPiece, after_failure}
use Rattle.unftp_control_read.specs.declared.errors.ReceiveError.{ReceiveError}
use Rattle.unftp_control_read.specs.declared.errors.ReceiveError.TheVariants as receive
use Rattle.unftp_control_read.specs.declared.reply.ReceivedReply.{ReceivedReply}
use Rattle.unftp_control_read.specs.declared.errors.NextReplyError.{NextReplyError}
use Rattle.unftp_control_read.specs.declared.errors.NextReplyError.TheVariants as next
use Rattle.unftp_control_read.specs.declared.ReadReplyError.{ReadReplyError}
use Rattle.unftp_control_read.specs.declared.ReadReplyError.TheVariants as refusal
use Rattle.unftp_control_read.proofs.SearchLemmas.{still_searched}

-- a piece makes them longer, or not
take_more : (n : ℕ) (bytes piece : Bytes)
    → (more : Bytes) × (take n (bytes ++ piece) ≡ take n bytes ++ more)
take_more zero bytes piece = ([], refl)
take_more (suc n) [] piece = (take (suc n) piece, refl)
take_more (suc n) (b ∷ bytes) piece =
    let more = take_more n bytes piece in (more.0, ap (λ t. b ∷ t) more.1)

within_more : (limit : Option ℕ) (bytes piece : Bytes)
    → (more : Bytes) × (within_limit limit (bytes ++ piece) ≡ within_limit limit bytes ++ more)
within_more None bytes piece = (piece, refl)
within_more (Some limit) bytes piece = take_more limit bytes piece

pub searched_more : (limit : Option ℕ) (bytes piece : Bytes) (s : Search)
    → IsSearched (within_limit limit bytes) s → IsSearched (within_limit limit (bytes ++ piece)) s
searched_more limit bytes piece s h =
    let m = within_more limit bytes piece in
    subst (λ b. IsSearched b s) (sym m.1) (still_searched (within_limit limit bytes) m.0 s h)

-- ---- a piece after them

-- The buffer holds these bytes then, of which so many are taken.
module _ {limit : Option ℕ} {s : Search} {buf : Bytes} {start held capacity : ℕ}
    (well : IsReplyDecoder limit s buf start held capacity) (after piece : Bytes) (start' : ℕ)
    (start_within : start' ≤ length after)
    (e : drop start' after ≡ drop start buf ++ piece) where
  pub decoder_more : {held' capacity' : ℕ} → held' ≤ capacity'
      → IsReplyDecoder limit s after start' held' capacity'
  decoder_more room = record {
    start_within = start_within;
    searched = subst (λ b. IsSearched (within_limit limit b) s) (sym e)
        (searched_more limit (drop start buf) piece s well.searched);
    room = room;
  }

-- ---- what a search of them means for all

pub error_at : (limit : Option ℕ) (bytes : Bytes) (r : ReadReplyError)
    → ReturnsRefusal (within_limit limit bytes) r → HasError limit bytes (error_of r)
error_at limit bytes refusal.Malformed h = h
error_at limit bytes refusal.OutOfMemory h = h

pub all_within : (limit : Option ℕ) (bytes : Bytes)
    → IfSome limit (λ most. length (within_limit limit bytes) < most)
    → within_limit limit bytes ≡ bytes
all_within None bytes short = refl
all_within (Some limit) bytes short =
    take_all limit bytes (omega (arith, short, length-take limit bytes))

-- ---- what is taken says what else is not

pub long_is_part : (limit : Option ℕ) (bytes : Bytes) → IsTooLongReply limit bytes
    → IsPartial (within_limit limit bytes)
long_is_part (Some limit) bytes h = h.1
long_is_part None bytes h = absurd h

pub short_is_not_long : (limit : Option ℕ) (bytes : Bytes)
    → IfSome limit (λ limit. length bytes < limit) → ¬ IsTooLongReply limit bytes
short_is_not_long None bytes short long = long
short_is_not_long (Some limit) bytes short long = omega (arith, short, long.0)

module _ (before : PendingReplies) where
  abbrev within : Bytes
  within = within_limit before.limit before.bytes

  front_within_limit : {code : ℕ} {lines : List Bytes} {used : ℕ}
      → FrontReply before.bytes code lines used → IfSome before.limit (λ limit. used ≤ limit)
      → HasFront within
  front_within_limit {code} {lines} {used} f short =
      (code, lines, used, (FrontReply-within before.limit before.bytes).1 (f, short))

  pub whole_next : (result : NextReply NextReplyError) (after : PendingReplies)
      → TakesNextReply before result after → (code : ℕ) (lines : List Bytes) (used : ℕ)
      → FrontReply before.bytes code lines used → IfSome before.limit (λ limit. used ≤ limit)
      → IsReturned code lines result
  whole_next (Ok None) after h code lines used f short = h.partial.0 (code, lines, used, f)
  whole_next (Ok (Some reply)) after h code lines used f short =
      let same = FrontReply-unique h.takes.front f in λ i. (same.0 i, same.1 i)
  whole_next (Err next.Malformed) after h code lines used f short =
      absurd (front_is_formed within (front_within_limit f short) h.0)
  whole_next (Err next.TooLong) after h code lines used f short =
      absurd ((long_is_part before.limit before.bytes h.0).0 (front_within_limit f short))
  whole_next (Err next.OutOfMemory) after h code lines used f short = refl

  pub part_too_long : (error : NextReplyError) → HasError before.limit before.bytes error
      → IsPartial before.bytes → IsTooLongReply before.limit before.bytes
  part_too_long next.Malformed h partial =
      absurd (partial.1 (IsMalformed-within before.limit before.bytes h))
  part_too_long next.TooLong h partial = h
  part_too_long next.OutOfMemory h partial =
      absurd ((IsPartial-within before.limit before.bytes partial).0 h)

  pub malformed_is_error : (next : Option ReceivedReply) (after : PendingReplies)
      → TakesNextReply before (Ok next) after → ¬ IsMalformed within
  malformed_is_error None after h bad =
      h.partial.1 (IsMalformed-within before.limit before.bytes bad)
  malformed_is_error (Some reply) after h bad =
      front_is_formed within (front_within_limit h.takes.front h.within) bad

  pub long_is_error : (next : Option ReceivedReply) (after : PendingReplies)
      → TakesNextReply before (Ok next) after → ¬ IsTooLongReply before.limit before.bytes
  long_is_error None after h long = short_is_not_long before.limit before.bytes
      (subst (λ b. IfSome before.limit (λ limit. length b < limit)) h.same h.short) long
  long_is_error (Some reply) after h long = (long_is_part before.limit before.bytes long).0
      (front_within_limit h.takes.front h.within)

-- ---- one read, seen from where the pending bytes begin

module _ {limit : Option ℕ} {s : Search} {buf : Bytes} {start held capacity : ℕ}
    (well : IsReplyDecoder limit s buf start held capacity) (after : Bytes) where
  after_piece : (piece : Bytes) → after ≡ buf ++ piece
      → (start ≤ length after) × (drop start after ≡ drop start buf ++ piece)
  after_piece piece e = (
    omega (arith, well.start_within, ap length e, length-append buf piece),
    ap (drop start) e ∙ drop-append-le start buf piece well.start_within,
  )

  module _ (most : ℕ) (input input' : InputState) where
    pub decoder_read : (result : Result ℕ ReceiveError) {held' capacity' : ℕ} → held' ≤ capacity'
        → AppendsPiece most buf after input input' result
        → IsReplyDecoder limit s after start held' capacity'
    decoder_read (Ok n) room h =
        let more = after_piece h.0 h.1 in decoder_more well after h.0 start more.0 more.1 room
    decoder_read (Err error) room h =
        let more = after_piece [] (h.0 ∙ sym (append-nil buf)) in
        decoder_more well after [] start more.0 more.1 room

-- what is read into the buffer is appended to the pending bytes
pub pending_read : (limit : Option ℕ) (buf after : Bytes) (start held held' most : ℕ)
    → start ≤ length buf → held' ≡ max held (length buf + 4096)
    → (input input' : InputState) (result : Result ℕ ReceiveError)
    → IfErr result (λ error. error ≢ receive.OutOfMemory)
    → AppendsPiece most buf after input input' result
    → AppendsPending most (pending_replies limit (drop start buf) (length buf) held)
    (pending_replies limit (drop start after) (length after) held') input input' result
pending_read limit buf after start held held' most start_in held_is input input' (Ok n) some h = (
  h.0,
  (λ i. pending_replies limit ((ap (drop start) h.1 ∙ drop-append-le start buf h.0 start_in) i)
      ((ap length h.1 ∙ length-append buf h.0) i) (held_is i)),
  h.2,
  h.3,
  h.4,
  h.5,
  h.6,
  h.7,
)
pending_read limit buf after start held held' most start_in held_is input input' (Err error) some h =
    (by_error error some, h.1)
  where
    by_error : (error : ReceiveError) → error ≢ receive.OutOfMemory
        → pending_replies limit (drop start after) (length after) held'
        ≡ after_failure (pending_replies limit (drop start buf) (length buf) held) error
    by_error receive.OutOfMemory some = absurd (some refl)
    by_error _ some = λ i. pending_replies limit (drop start (h.0 i)) (length (h.0 i)) (held_is i)
