-- What a client and a server understand of each other.
use Rattle.std.proofs.Common.{◌≡◌, ℕ, ◌≤◌, List, [], ◌∷◌, ◌++◌, flat_map, filter_map, map, length, Option, Some, None, Ok, Err, refl, sym, ap, subst, ◌∙◌, arith}
use Rattle.std.specs.Prelude.{Bool}
use Rattle.std.specs.List.{AllByRecursion, concat, onto_first}
use Rattle.std.proofs.lemmas.List.{append-nil, length-map}
use Rattle.unftp_control_defs.specs.Bytes.{Bytes}
use Rattle.unftp_control_defs.specs.Canonical.{canonical_line}
use Rattle.unftp_control_defs.specs.Events.{Command, event_for, event_of, events}
use Rattle.unftp_control_defs.specs.Forwarded.{forwarded_line}
use Rattle.unftp_control_defs.specs.FtpCommand.{Outcome, FtpCommand}
use Rattle.unftp_control_defs.specs.FtpReply.{FtpReply, IsReadable, encoded, reply_as_read}
use Rattle.unftp_control_defs.specs.Lines.{IsLine, lines_of, incomplete_line}
use Rattle.unftp_control_defs.specs.Outcome.{outcome}
use Rattle.unftp_control_defs.specs.ReplyReader.{HasFront}
use Rattle.unftp_control_defs.specs.TakingSteps.{AreReplies, AreTakingSteps, TakesReply, TakingStep, all_pushed, all_taken}
use Rattle.unftp_control_defs.proofs.CanonicalLineEndLemmas.{IsLine-canonical_line}
use Rattle.unftp_control_defs.proofs.CanonicalLineLemmas.{outcome-canonical_line}
use Rattle.unftp_control_defs.proofs.CommandLineLemmas.{HasLine-outcome, HasTypedFields-outcome}
use Rattle.unftp_control_defs.specs.Turns.{IsExchange, cut_after_final, cut_by, cut_reads, is_preliminary_reply}
use Rattle.unftp_control_defs.proofs.EncodingLemmas.{ReadsBack-encoded, are_plain, are_shown}
use Rattle.unftp_control_defs.proofs.ExchangeLemmas.{cut-exchange, cut-read}
use Rattle.unftp_control_defs.proofs.ForwardedLineLemmas.{IsLine-forwarded_line, outcome-forwarded_line}
use Rattle.unftp_control_defs.proofs.LineEventLemmas.{events-canonical_line}
use Rattle.unftp_control_defs.proofs.LineLemmas.{Lines-lines_of, events-within, lines_of-concat}
use Rattle.unftp_control_defs.proofs.ReplyLemmas.{TakesReply-append, none_of_nothing}
use Rattle.unftp_control_defs.specs.Run.{all_replies}
use Rattle.unftp_control.specs.Conversation.{CanBeSent, KeepsMeaning, Show, ShowTurns, canonical_of, forwarded_of, rewritten, sent, written_if_read}
use Rattle.unftp_control.proofs.ReplyStepLemmas.{AreReplies-all, AreReplies-rest, AreReplies-unique, steps-replies}

-- Lines, one after the other.
pub events-sent : (limit : Option ℕ) (commands : List FtpCommand)
    → AllByRecursion (CanBeSent limit) commands
    → events limit (sent commands) ≡ map Command commands
events-sent limit [] each = refl
events-sent limit (command ∷ commands) each =
    events-canonical_line limit command (sent commands) each.0.0 each.0.1 each.0.2
    ∙ ap (λ more. Command command ∷ more) (events-sent limit commands each.1)

pub events-lines : (limit : Option ℕ) (lines : List Bytes) → AllByRecursion IsLine lines
    → events limit (concat lines) ≡ map (event_for limit) lines
events-lines limit lines each = ap (map (event_for limit))
    (ap lines_of (sym (append-nil (concat lines))) ∙ (lines_of-concat lines [] each tt).0)

-- Replies that are taken from the first bytes are the first of those that are taken from all.
AreReplies-append : (input more : Bytes) (taken : List (ℕ × List Bytes)) (pending : Bytes)
    → AreReplies input taken pending → AreReplies (input ++ more) taken (pending ++ more)
AreReplies-append input more [] pending are = ap (λ bytes. bytes ++ more) are
AreReplies-append input more (reply ∷ taken) pending are = (
  are.0 ++ more,
  TakesReply-append more are.1,
  AreReplies-append are.0 more taken pending are.2,
)

module _ (replies : List FtpReply) (readable : AllByRecursion IsReadable replies)
    (steps : List (TakingStep (ℕ × List Bytes))) (pending : Bytes)
    (are : AreTakingSteps TakesReply [] steps pending) where
  abbrev text : Bytes
  text = flat_map encoded replies

  abbrev read : List (ℕ × List Bytes)
  read = filter_map reply_as_read replies

  all_of_text : AreReplies text read []
  all_of_text =
      (AreReplies-all text read).1 (ReadsBack-encoded replies (are_plain replies readable)).0

  taken_of_pushed : AreReplies (all_pushed steps) (all_taken steps) pending
  taken_of_pushed = steps-replies [] steps pending are

  pub read_so_far : (later : Bytes) → all_pushed steps ++ later ≡ text
      → (more : List (ℕ × List Bytes)) × Show (all_taken steps ++ more) replies
  read_so_far later whole =
      let from_text = subst (λ bytes. AreReplies bytes (all_taken steps) (pending ++ later)) whole
      (AreReplies-append (all_pushed steps) later (all_taken steps) pending taken_of_pushed) in
      let rest = AreReplies-rest text (all_taken steps) read from_text all_of_text none_of_nothing in
      (rest.0, ap (map Some) rest.1 ∙ are_shown replies readable)

  pub read_all : all_pushed steps ≡ text → ¬ HasFront pending
      → Show (all_taken steps) replies × (pending ≡ [])
  read_all whole none =
      let same = AreReplies-unique text (all_taken steps) read
      (subst (λ bytes. AreReplies bytes (all_taken steps) pending) whole taken_of_pushed) none
      all_of_text none_of_nothing in
      let show = ap (map Some) same.0 ∙ are_shown replies readable in
      (show, same.1)

-- What is read, cut after each final reply.
pub length-onto_first : {A : Type 0} (x : A) (parts : List (List A))
    → (1 ≤ length (onto_first x parts)) × (length parts ≤ length (onto_first x parts))
length-onto_first x [] = (omega arith, omega arith)
length-onto_first x (part ∷ parts) = (omega arith, omega arith)

onto_first-longer : {A : Type 0} (x : A) (parts more : List (List A))
    → length parts ≤ length more → length (onto_first x parts) ≤ length (onto_first x more)
onto_first-longer x [] more h = (length-onto_first x more).0
onto_first-longer x (part ∷ parts) more h = omega (arith, h, (length-onto_first x more).1)

-- more replies have no fewer parts
pub length-cut_by : {A : Type 0} (preliminary : A → Bool) (read more : List A)
    → length (cut_by preliminary read) ≤ length (cut_by preliminary (read ++ more))
length-cut_by preliminary [] more = omega arith
length-cut_by preliminary (x ∷ read) more = grind (
  arith,
  length-cut_by preliminary read more,
  onto_first-longer x (cut_by preliminary read) (cut_by preliminary (read ++ more))
      (length-cut_by preliminary read more),
)

cut_turns : (turns : List (List FtpReply)) → AllByRecursion IsExchange turns
    → cut_after_final (all_replies turns) ≡ turns
cut_turns [] each = refl
cut_turns (turn ∷ turns) each =
    cut-exchange is_preliminary_reply turn (all_replies turns) each.0
    ∙ ap (λ later. turn ∷ later) (cut_turns turns each.1)

-- those to each event are a part
pub shows_turns : (read : List (ℕ × List Bytes)) (turns : List (List FtpReply))
    → AllByRecursion IsExchange turns → Show read (all_replies turns) → ShowTurns read turns
shows_turns read turns each show = cut-read (all_replies turns) read show
    ∙ ap (map (map reply_as_read)) (cut_turns turns each)

pub shown_turns : (read : List (ℕ × List Bytes)) (turns : List (List FtpReply))
    → AllByRecursion IsExchange turns → Show read (all_replies turns)
    → length (cut_reads read) ≡ length turns
shown_turns read turns each show =
    sym (length-map (cut_reads read) (map Some)) ∙ ap length (shows_turns read turns each show)
    ∙ length-map turns (map reply_as_read)

-- Lines that are rewritten.
module _ (write : Bytes → FtpCommand → Bytes)
    (keeps : (line : Bytes) (command : FtpCommand) → IsLine line → outcome line ≡ Ok command
    → IsLine (write line command) × (outcome (write line command) ≡ Ok command)) where
  written-keeps : (line : Bytes) → IsLine line → (answer : Outcome) → outcome line ≡ answer
      → IsLine (written_if_read write line answer)
      × (outcome (written_if_read write line answer) ≡ outcome line)
  written-keeps line is_line (Ok command) means =
      let kept = keeps line command is_line means in (kept.0, kept.1 ∙ sym means)
  written-keeps line is_line (Err refusal) means = (is_line, refl)

pub canonical-keeps : KeepsMeaning canonical_of
canonical-keeps line is_line = written-keeps (λ _ command. canonical_line command)
    (λ line command is_line means.
    let has = HasLine-outcome line command is_line means in (
      IsLine-canonical_line command has,
      outcome-canonical_line command has (HasTypedFields-outcome line command is_line means),
    ))
    line is_line (outcome line) refl

pub forwarded-keeps : KeepsMeaning forwarded_of
forwarded-keeps line is_line = written-keeps forwarded_line
    (λ line command is_line means. (
      IsLine-forwarded_line line command is_line means,
      outcome-forwarded_line line command is_line means,
    ))
    line is_line (outcome line) refl

module _ (rewrite : Bytes → Bytes) (keeps : KeepsMeaning rewrite) where
  all_lines : (lines : List Bytes) → AllByRecursion IsLine lines
      → AllByRecursion IsLine (map rewrite lines)
  all_lines [] each = tt
  all_lines (line ∷ lines) each = ((keeps line each.0).0, all_lines lines each.1)

  same_outcomes : (lines : List Bytes) → AllByRecursion IsLine lines
      → map (event_for None) (map rewrite lines) ≡ map (event_for None) lines
  same_outcomes [] each = refl
  same_outcomes (line ∷ lines) each =
      λ i. event_of ((keeps line each.0).1 i) ∷ same_outcomes lines each.1 i

  all_within : (limit : ℕ) (lines : List Bytes)
      → AllByRecursion (λ line. (length line ≤ limit) × (length (rewrite line) ≤ limit)) lines
      → AllByRecursion (λ line. length line ≤ limit) lines
      × AllByRecursion (λ line. length line ≤ limit) (map rewrite lines)
  all_within limit [] each = (tt, tt)
  all_within limit (line ∷ lines) each = let more = all_within limit lines each.1 in
      ((each.0.0, more.0), (each.0.1, more.1))

  module _ (input : Bytes) where
    lines_so : (lines_of (rewritten rewrite input) ≡ map rewrite (lines_of input))
        × (incomplete_line (rewritten rewrite input) ≡ incomplete_line input)
    lines_so = let of_input = Lines-lines_of input in
        lines_of-concat (map rewrite (lines_of input)) (incomplete_line input)
        (all_lines (lines_of input) of_input.each) of_input.unended

    pub events-rewritten : events None (rewritten rewrite input) ≡ events None input
    events-rewritten = ap (map (event_for None)) lines_so.0
        ∙ same_outcomes (lines_of input) (Lines-lines_of input).each

    pub incomplete-rewritten : incomplete_line (rewritten rewrite input) ≡ incomplete_line input
    incomplete-rewritten = lines_so.1

    pub events-rewritten_within : (limit : ℕ)
        → AllByRecursion (λ line. (length line ≤ limit) × (length (rewrite line) ≤ limit))
        (lines_of input)
        → events (Some limit) (rewritten rewrite input) ≡ events (Some limit) input
    events-rewritten_within limit each =
        let both = all_within limit (lines_of input) each in
        events-within limit (rewritten rewrite input)
        (subst (AllByRecursion (λ line. length line ≤ limit)) (sym lines_so.0) both.1)
        ∙ events-rewritten ∙ sym (events-within limit input both.0)
