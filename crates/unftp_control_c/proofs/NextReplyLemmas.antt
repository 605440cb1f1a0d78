-- Searches for replies, call after call.
use Rattle.std.proofs.Common.{◌≡◌, ℕ, ◌+◌, ◌-◌, ◌==◌, ◌≤◌, ◌&&◌, ◌⊎◌, inl, inr, true, List, [], ◌∷◌, ◌++◌, map, length, drop, Ok, Err, Some, None, refl, sym, ap, subst, ◌∙◌, append-nil, append_assoc, length-append, length-drop, arith}
use Rattle.std.specs.Prelude.{if◌then◌else◌}
use Rattle.std.proofs.lemmas.Bool.{le-leb}
use Rattle.unftp_control_defs.specs.Bytes.{Bytes}
use Rattle.unftp_control_defs.specs.TakingSteps.{AreReplies}
use Rattle.unftp_control_defs.proofs.ReplyLemmas.{TakesReply-append, front_within}
use Rattle.unftp_control_defs.proofs.ReplyLimitLemmas.{length-within}
use Rattle.unftp_control_read.specs.ReplyDecoding.{BeginsWithReply, FindsFirst}
use Rattle.unftp_control_read.specs.declared.errors.NextReplyError.TheVariants as error
use Rattle.unftp_control_read.proofs.DecoderLemmas.{searched_more}
use Rattle.unftp_control_read.proofs.SearchLemmas.{nothing_searched}
use Rattle.unftp_control_c.specs.Next.{line_limit}
use Rattle.unftp_control_c.specs.NextReply.{FindsReply, Found, IsSearchIn, LeavesSearch, ReplyCall, ReplyLeft, found_reply, found_status, is_valid_search, no_reply, scans_reply, seen_length, stops_at}
use Rattle.unftp_control_c.specs.Numbers.{status_number}
use Rattle.unftp_control_c.specs.TakingReplies.{AreReplySteps, Called, Received, ReplyStep, code_by, codes_in, next_call, received_in, scanned_in, unsearched, with_received}
use Rattle.unftp_control_c.specs.declared.next_reply.ReplySearch.{ReplySearch}
use Rattle.unftp_control_c.specs.declared.reply.FoundReply.{FoundReply}
use Rattle.unftp_control_c.specs.declared.status.Status.TheVariants.{Malformed}

abbrev pub IsSearchOf : ReplyCall → Type 0
IsSearchOf call = IsSearchIn call.search call.bytes

-- the places are within the bytes
pub valid_search : (call : ReplyCall) → IsSearchOf call
    → is_valid_search call.search (seen_length call) ≡ true
valid_search call so =
    λ i. le-leb call.search.line call.search.offset so.within.0 i
    && le-leb call.search.offset (seen_length call) so.within.1 i

offset_in : (call : ReplyCall) → IsSearchOf call → call.search.offset ≤ length call.bytes
offset_in call so = omega (
  arith,
  so.within.1,
  length-within (line_limit call.search.limit) call.bytes,
)

with_piece : (call : ReplyCall) (piece : Bytes) → IsSearchOf call
    → IsSearchOf (with_received call piece)
with_piece call piece so =
    searched_more (line_limit call.search.limit) call.bytes piece _ so

-- how many bytes a call scans, but one that finds a malformed reply
abbrev counted : ReplyCall → ReplyLeft → ℕ
counted call left =
    if left.result == status_number Malformed then 0 else scans_reply call left

-- What one call does: it takes a reply, or the bytes stay.
record Does (call : ReplyCall) (left : ReplyLeft) : Type 0 where
  searched : IsSearchOf (next_call call left)
  count : counted call left + unsearched (next_call call left) ≡ unsearched call
  takes : (BeginsWithReply (line_limit call.search.limit) call.bytes left.reply.code left.reply.used
      × (code_by left ≡ left.reply.code ∷ []))
      ⊎ ((drop left.reply.used call.bytes ≡ call.bytes) × (code_by left ≡ []))

-- where all that a reply may have is searched
module _ (call : ReplyCall) (left : ReplyLeft) (so : IsSearchOf call)
    (after : (left.search.limit ≡ call.search.limit) × (left.search.offset ≡ seen_length call)
    × IsSearchIn left.search call.bytes) (none : left.reply ≡ no_reply) where
  stays : drop left.reply.used call.bytes ≡ call.bytes
  stays = ap (λ (reply : FoundReply). drop reply.used call.bytes) none

  searched_all : counted call left ≡ seen_length call - call.search.offset
      → code_by left ≡ [] → Does call left
  searched_all count no_code = record {
    searched = subst (IsSearchIn left.search) (sym stays) after.2;
    count = omega (
      arith,
      count,
      after.1,
      ap length stays,
      so.within.1,
      length-within (line_limit call.search.limit) call.bytes,
    );
    takes = inr (stays, no_code);
  }

does : (call : ReplyCall) (left : ReplyLeft) → IsSearchOf call → FindsReply call left
    → Does call left
does call left so f = by_found f.found f.first f.result_is f.reply_is f.search f.goes_on
  where
    by_found : (found : Found) → FindsFirst (line_limit call.search.limit) call.bytes found
        → left.result ≡ status_number (found_status found) → left.reply ≡ found_reply found
        → LeavesSearch call found left.search → call.search.offset ≤ stops_at call left
        → Does call left
    by_found (Ok (Some first)) begins is reply left_search goes_on =
        let front : BeginsWithReply (line_limit call.search.limit) call.bytes left.reply.code left.reply.used =
        subst (λ (r : FoundReply). BeginsWithReply (line_limit call.search.limit) call.bytes r.code r.used)
        (sym reply) begins in
        let count : counted call left ≡ left.reply.used - call.search.offset = rw is refl in
        let goes : call.search.offset ≤ left.reply.used = rw is at goes_on in
        record {
          searched = rw left_search (nothing_searched _);
          count = omega (
            arith,
            count,
            goes,
            ap (λ (s : ReplySearch). s.offset) left_search,
            length-drop left.reply.used call.bytes,
            (front_within call.bytes left.reply.code front.lines left.reply.used front.front).1,
          );
          takes = inl (front, rw is refl);
        }
    by_found (Ok None) part is reply left_search goes_on =
        searched_all call left so left_search reply (rw is refl) (rw is refl)
    by_found (Err error.TooLong) long is reply left_search goes_on =
        searched_all call left so left_search reply (rw is refl) (rw is refl)
    by_found (Err error.Malformed) bad is reply left_search goes_on =
        let same = ap (λ (r : FoundReply). drop r.used call.bytes) reply in
        let zero : counted call left ≡ 0 = rw is refl in
        record {
          searched = rw (left_search, same) so;
          count = omega (arith, zero, ap (λ (s : ReplySearch). s.offset) left_search, ap length same);
          takes = inr (same, rw is refl);
        }
    by_found (Err error.OutOfMemory) never is reply left_search goes_on = absurd never

-- ---- all calls

pub searched_after : (steps : List ReplyStep) (now after : ReplyCall) → IsSearchOf now
    → AreReplySteps now steps after → IsSearchOf after
searched_after [] now after so are = subst IsSearchOf (sym are) so
searched_after (Received piece ∷ steps) now after so are =
    searched_after steps (with_received now piece) after (with_piece now piece so) are
searched_after (Called left ∷ steps) now after so are =
    searched_after steps (next_call now left) after (does now left so (are.0.finds so)).searched are.1

pub scanned_after : (steps : List ReplyStep) (now after : ReplyCall) → IsSearchOf now
    → AreReplySteps now steps after
    → scanned_in now steps + unsearched after ≡ unsearched now + length (received_in steps)
scanned_after [] now after so are = rw are (omega arith)
scanned_after (Received piece ∷ steps) now after so are = omega (
  arith,
  scanned_after steps (with_received now piece) after (with_piece now piece so) are,
  offset_in now so,
  length-append now.bytes piece,
  length-append piece (received_in steps),
)
scanned_after (Called left ∷ steps) now after so are =
    let did = does now left so (are.0.finds so) in
    omega (arith, scanned_after steps (next_call now left) after did.searched are.1, did.count)

-- the replies that are taken from the pending bytes and those that come after them
abbrev pub Takes : ReplyCall → List ReplyStep → ReplyCall → Type 0
Takes now steps after = (replies : List (ℕ × List Bytes))
    × AreReplies (now.bytes ++ received_in steps) replies after.bytes
    × (map (λ reply. reply.0) replies ≡ codes_in steps)

pub replies_taken : (steps : List ReplyStep) (now after : ReplyCall) → IsSearchOf now
    → AreReplySteps now steps after → Takes now steps after
replies_taken [] now after so are =
    ([], ap (λ (call : ReplyCall). call.bytes) are ∙ sym (append-nil now.bytes), refl)
replies_taken (Received piece ∷ steps) now after so are =
    let later = replies_taken steps (with_received now piece) after (with_piece now piece so) are in (
      later.0,
      subst (λ bytes. AreReplies bytes later.0 after.bytes)
          (append_assoc now.bytes piece (received_in steps)) later.1,
      later.2,
    )
replies_taken (Called left ∷ steps) now after so are =
    let did = does now left so (are.0.finds so) in
    by_taken did.takes (replies_taken steps (next_call now left) after did.searched are.1)
  where
    by_taken : ((BeginsWithReply (line_limit now.search.limit) now.bytes left.reply.code left.reply.used
        × (code_by left ≡ left.reply.code ∷ []))
        ⊎ ((drop left.reply.used now.bytes ≡ now.bytes) × (code_by left ≡ [])))
        → Takes (next_call now left) steps after → Takes now (Called left ∷ steps) after
    by_taken (inl (begins, code)) later = (
      (left.reply.code, begins.lines) ∷ later.0,
      (
        drop left.reply.used now.bytes ++ received_in steps,
        TakesReply-append (received_in steps)
            (record { used = left.reply.used; front = begins.front; after_is = refl }),
        later.1,
      ),
      (λ i. left.reply.code ∷ later.2 i) ∙ ap (λ codes. codes ++ codes_in steps) (sym code),
    )
    by_taken (inr (same, no_code)) later = (
      later.0,
      subst (λ bytes. AreReplies (bytes ++ received_in steps) later.0 after.bytes) same later.1,
      later.2 ∙ ap (λ codes. codes ++ codes_in steps) (sym no_code),
    )
