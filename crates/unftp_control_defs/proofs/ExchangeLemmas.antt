-- Exchanges that are put together, and cut apart again.
use Rattle.std.proofs.Common.{◌≡◌, ℕ, Bool, true, false, List, [], ◌∷◌, ◌++◌, Option, Some, length, map, refl, sym, ap, ◌∙◌, arith}
use Rattle.std.specs.List.{AllByRecursion, onto_first}
use Rattle.unftp_control_defs.specs.Bytes.{Bytes}
use Rattle.unftp_control_defs.specs.Events.{FtpEvent}
use Rattle.unftp_control_defs.specs.FtpReply.{FtpReply, Nothing, CodeAndMsg, MultiLine, lines_as_read, reply_as_read}
use Rattle.unftp_control_defs.specs.Run.{SessionLaw, after, replies, turn_replies, turn, replies_by_event}
use Rattle.unftp_control_defs.specs.Turns.{GivesExchanges, IsExchangeBy, SaysOnly, cut_after_final, cut_by, cut_reads, is_preliminary_read, is_preliminary_reply}

module _ {A : Type 0} (preliminary : A → Bool) where
  -- an exchange is one part, whatever follows it
  pub cut-exchange : (exchange more : List A) → IsExchangeBy preliminary exchange
      → cut_by preliminary (exchange ++ more) ≡ exchange ∷ cut_by preliminary more
  cut-exchange [] more is = absurd is
  cut-exchange (reply ∷ []) more is = rw is refl
  cut-exchange (reply ∷ (next ∷ later)) more is =
      rw (is.0) (ap (onto_first reply) (cut-exchange (next ∷ later) more is.1))

pub all-append : {X : Type 0} (P : X → Type 0) (a b : List X) → AllByRecursion P a
    → AllByRecursion P b → AllByRecursion P (a ++ b)
all-append P [] b p q = q
all-append P (x ∷ a) b p q = (p.0, all-append P a b p.1 q)

module _ {S : Type 0} (law : SessionLaw S) where
  -- a client that cuts the replies after each final one has those to each event apart
  pub cut-replies : GivesExchanges law → (s : S) (events : List FtpEvent)
      → cut_after_final (replies law s events) ≡ replies_by_event law s events
  cut-replies each s [] = refl
  cut-replies each s (event ∷ events) =
      cut-exchange is_preliminary_reply (turn_replies (turn law s event))
      (replies law (after law s event) events) (each s event)
      ∙ ap (λ later. turn_replies (turn law s event) ∷ later)
      (cut-replies each (after law s event) events)

  pub length-replies_by_event : (s : S) (events : List FtpEvent)
      → length (replies_by_event law s events) ≡ length events
  length-replies_by_event s [] = refl
  length-replies_by_event s (event ∷ events) =
      let later = length-replies_by_event (after law s event) events in
      omega (arith, later)

  -- what holds of each reply to each event holds of all
  pub replies-all : (P : FtpReply → Type 0) → SaysOnly P law → (s : S) (events : List FtpEvent)
      → AllByRecursion P (replies law s events)
  replies-all P each s [] = tt
  replies-all P each s (event ∷ events) =
      all-append P (turn_replies (turn law s event)) (replies law (after law s event) events)
      (each s event) (replies-all P each (after law s event) events)

-- ---- as they are read

pub read-alike : (reply : FtpReply) (read : ℕ × List Bytes) → Some read ≡ reply_as_read reply
    → is_preliminary_read read ≡ is_preliminary_reply reply
read-alike Nothing read is = absurd (cc)
read-alike (CodeAndMsg code text) read is = let same : read ≡ (code, text ∷ []) = cc in
    ap is_preliminary_read same
read-alike (MultiLine code lines) read is = let same : read ≡ (code, lines_as_read lines) = cc in
    ap is_preliminary_read same

map-onto_first : {A B : Type 0} (f : A → B) (x : A) (parts : List (List A))
    → map (map f) (onto_first x parts) ≡ onto_first (f x) (map (map f) parts)
map-onto_first f x [] = refl
map-onto_first f x (part ∷ parts) = refl

abbrev as_parts : List (List FtpReply) → List (List (Option (ℕ × List Bytes)))
as_parts parts = map (map reply_as_read) parts

abbrev some_parts : List (List (ℕ × List Bytes)) → List (List (Option (ℕ × List Bytes)))
some_parts parts = map (map Some) parts

cut-first : (reply : FtpReply) (read : ℕ × List Bytes) (replies : List FtpReply)
    (reads : List (ℕ × List Bytes)) → Some read ≡ reply_as_read reply
    → some_parts (cut_reads reads) ≡ as_parts (cut_after_final replies) → (preliminary : Bool)
    → is_preliminary_reply reply ≡ preliminary
    → some_parts (cut_reads (read ∷ reads)) ≡ as_parts (cut_after_final (reply ∷ replies))
cut-first reply read replies reads is later true preliminary =
    rw (preliminary, read-alike reply read is ∙ preliminary)
    (map-onto_first Some read (cut_reads reads)
    ∙ (λ i. onto_first (is i) (later i))
    ∙ sym (map-onto_first reply_as_read reply (cut_after_final replies)))
cut-first reply read replies reads is later false preliminary =
    rw (preliminary, read-alike reply read is ∙ preliminary)
    (λ i. (is i ∷ []) ∷ later i)

-- what is read of replies is cut where they are
pub cut-read : (replies : List FtpReply) (reads : List (ℕ × List Bytes))
    → map Some reads ≡ map reply_as_read replies
    → map (map Some) (cut_reads reads) ≡ map (map reply_as_read) (cut_after_final replies)
cut-read [] [] is = refl
cut-read [] (read ∷ reads) is = absurd (cc)
cut-read (reply ∷ replies) [] is = absurd (cc)
cut-read (reply ∷ replies) (read ∷ reads) is =
    let first : Some read ≡ reply_as_read reply = cc in
    let later : map Some reads ≡ map reply_as_read replies = cc in
    cut-first reply read replies reads first (cut-read replies reads later)
    (is_preliminary_reply reply) refl
