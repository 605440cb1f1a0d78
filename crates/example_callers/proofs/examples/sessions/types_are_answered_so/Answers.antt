use Rattle.std.proofs.Common.{◌≡◌, inl, inr, ◌-◌, [], ◌∷◌, ◌++◌, None, bytes_eq, codes, drop, length, lit≤, take, refl, subst, sym, ap, ◌∙◌, arith}
use Rattle.std.specs.Prelude.{if◌then◌else◌}
use Rattle.std.specs.Str.{IsTrimAsciiEnd}
use Rattle.std.proofs.lemmas.Bool.{false≢true}
use Rattle.std.proofs.lemmas.Str.Ascii.{trim_ascii_end_is}
use Rattle.unftp_control_defs.specs.Bytes.{Bytes}
use Rattle.unftp_control_serve.specs.EventMeaning.{refuses_length}
use Rattle.unftp_control_defs.specs.Events.{FtpEvent, Command, event_for}
use Rattle.unftp_control_defs.specs.FtpCommand.{TypeCode}
use Rattle.unftp_control_defs.specs.FtpReply.{encoded}
use Rattle.unftp_control_defs.specs.Lines.{lines_of}
use Rattle.unftp_control_defs.specs.TakingSteps.{TakesEvent}
use Rattle.unftp_control_message.specs.declared.Command.TheVariants as command
use Rattle.unftp_control_serve.specs.declared.event.Event.TheVariants as event
use Rattle.unftp_control_defs.proofs.LineLemmas.{Lines-lines_of}
use Rattle.example_callers.specs.FactList.{facts_asked}
use Rattle.example_callers.specs.WholeLine.{AsksFor, modes_after, line_reply}
use Rattle.example_callers.specs.declared.whole_line.Asked.{Asked}
use Rattle.example_callers.specs.declared.whole_line.Asked.TheVariants.{Ascii, Image, EpsvOnly, FactsOnly, Nothing}
use Rattle.unftp_control_defs.proofs.Computing.{at_bytes}
use Rattle.example_callers.proofs.ExampleLemmas.{first_taken}
use Rattle.example_callers.proofs.examples.sessions.types_are_answered_so.Goals as goal

-- the event of the line, and what follows it
taken_so : {event : FtpEvent} {following : Bytes}
    → TakesEvent None (codes "TYPE I\nNO") event following
    → (event ≡ Command TypeCode) × (following ≡ codes "NO")
unfolding at_bytes
taken_so {following = following} taken =
    let is : lines_of (codes "TYPE I\nNO") ≡ codes "TYPE I\n" ∷ [] = refl in
    let lines = sym is ∙ (first_taken taken).0 in
    let line : taken.line ≡ codes "TYPE I\n" = cc in (
      taken.meaning ∙ ap (event_for None) line,
      ap (drop 7) (sym (taken.whole ∙ ap (λ line. line ++ following) line)),
    )

asked_so : (asked : Asked) → AsksFor (codes "TYPE I") asked → asked ≡ Image
asked_so Ascii (inl says) = absurd (false≢true (ap (bytes_eq (codes "type a")) says))
asked_so Ascii (inr says) = absurd (false≢true (ap (bytes_eq (codes "type a n")) says))
asked_so Image asks = refl
asked_so EpsvOnly says = absurd (false≢true (ap (bytes_eq (codes "epsv all")) says))
asked_so (FactsOnly facts) asks =
    let none : facts_asked (codes "TYPE I") ≡ None = refl in
    let some = sym none ∙ asks in absurd (cc)
asked_so Nothing asks = absurd (asks.1 (inl refl))

pub returns-clause-answered : goal.returns-clause-answered
unfolding at_bytes
returns-clause-answered c = record {
  event = event.Command command.TypeCode;
  takes = record {
    takes = record {
      line = codes "TYPE I\n";
      is_line = (Lines-lines_of (codes "TYPE I\n")).each.0;
      whole = refl;
      meaning = refl;
    };
    all_kept = refl;
    few_scanned = (omega arith, omega arith);
  };
  text = codes "TYPE I";
  is_text = (
    6,
    refl,
    refl,
    lit≤ tt,
    λ i from within. let last : i ≡ 6 = omega (arith, from, within) in rw last refl,
    λ some. refl,
  );
  asked = Image;
  asks = inl refl;
  modes_are = refl;
  appended = refl;
}

pub returns-clause-line : goal.returns-clause-line
unfolding at_bytes
returns-clause-line c = λ modes modes' after sent' answers.
    let taken = taken_so answers.takes.takes in
    let is_text : IsTrimAsciiEnd (codes "TYPE I\n") answers.text = subst
    (λ line. IsTrimAsciiEnd line answers.text)
    (λ i. take (if refuses_length (taken.0 i) then 0 else (9 - length (taken.1 i)))
    (codes "TYPE I\nNO")) answers.is_text in
    let asked = asked_so answers.asked (subst (λ text. AsksFor text answers.asked)
    (trim_ascii_end_is (codes "TYPE I\n") answers.text is_text) answers.asks) in (
      taken.1,
      answers.modes_are ∙ (λ i. modes_after modes (taken.0 i) (asked i)),
      answers.appended
          ∙ (λ i. codes "x" ++ encoded (line_reply modes.epsv_only (taken.0 i) (asked i))),
    )

pub returns-clause-no_line : goal.returns-clause-no_line
returns-clause-no_line c = λ modes modes' after sent' answers.
    let none : lines_of (codes "TYPE I") ≡ [] = refl in
    let lines = sym none ∙ (first_taken answers.takes.takes).0 in cc
