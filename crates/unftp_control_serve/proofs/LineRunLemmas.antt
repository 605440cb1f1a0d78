-- The run over the pending bytes, line by line.
use Rattle.std.proofs.Common.{◌≡◌, ℕ, Bool, true, false, List, Option, [], ◌∷◌, ◌++◌, map, refl, sym, ap, subst, arith, ◌∙◌, append_assoc}
use Rattle.std.proofs.lemmas.List.{append-nil}
use Rattle.unftp_control_defs.specs.Bytes.{Bytes}
use Rattle.unftp_control_defs.specs.Events.{FtpEvent, event_for, events}
use Rattle.unftp_control_defs.specs.Lines.{incomplete_line, lines_of}
use Rattle.unftp_control_defs.specs.Run.{after, run_for, ends_for, SessionLaw, run_of, ends}
use Rattle.unftp_control_defs.proofs.LineLemmas.{events-incomplete, incomplete_line-append, line_first}
use Rattle.unftp_control_defs.proofs.RunLemmas.{line-done, unread-incomplete}
use Rattle.unftp_control_serve.specs.Endings.{Snapshot, LineMemory, RunFinished, EventFailed, RunAnswered, RunFailed}
use Rattle.unftp_control_serve.specs.Decoder.{Pending, FindsNoLine, MayRunOut, TakesLine}
use Rattle.unftp_control_serve.specs.declared.error.ServeError.{ServeError}
use Rattle.unftp_control_serve.specs.declared.error.ServeError.TheVariants.{OutOfMemory}
use Rattle.unftp_control_serve.proofs.ClientLineLemmas.{MayRunOut-taken}
use Rattle.unftp_control_serve.proofs.EndingLemmas.{RunFinished-nothing, EventFailed-more, GoneOn, GoneOn-answered, GoneOn-failed, GoneOn-then, HasAnswered-silent}

-- in the loop over the lines of some bytes: the first lines were answered, and these are pending
pub record Halfway {S : Type 0} (law : SessionLaw S) (limit : Option ℕ) (m n : Snapshot S)
    (bytes pending : Bytes) : Type 0 where
  pub lines : Bytes
  pub whole : bytes ≡ lines ++ pending
  pub whole_lines : incomplete_line lines ≡ []
  pub gone_on : GoneOn limit law m n lines

pub Halfway-start : {S : Type 0} {law : SessionLaw S} {limit : Option ℕ} {m : Snapshot S}
    {bytes : Bytes} → Halfway law limit m m bytes bytes
Halfway-start {law = law} {m = m} = record {
  lines = [];
  whole = refl;
  whole_lines = refl;
  gone_on = record { goes_on = refl; answered = RunFinished-nothing law m };
}

module _ {S : Type 0} {law : SessionLaw S} {limit : Option ℕ} {m n : Snapshot S}
    {bytes pending : Bytes} (so_far : Halfway law limit m n bytes pending) where
  -- what is so of the run over what is pending is so of the run over all
  all-answered : {k : Snapshot S} {ended : Bool} {left : Bytes}
      → RunAnswered limit law n pending k ended left → RunAnswered limit law m bytes k ended left
  all-answered run = rw so_far.whole (GoneOn-answered so_far.gone_on pending
      (rw so_far.whole_lines run))

  run-failed : {k : Snapshot S} {error : ServeError} → RunFailed limit law n pending k error []
      → (done : List FtpEvent) × RunFailed limit law m bytes k error done
  run-failed failed = (
    events limit so_far.lines ++ [],
    rw so_far.whole (GoneOn-failed so_far.gone_on pending (rw so_far.whole_lines failed)),
  )

module _ {S : Type 0} {law : SessionLaw S} {limit : Option ℕ} {m n : Snapshot S} {bytes : Bytes}
    {p q : Pending} (so_far : Halfway law limit m n bytes p.bytes) where
  module _ (none : FindsNoLine p q) where
    no_event : events limit p.bytes ≡ []
    no_event = events-incomplete limit p.bytes none.unended

    pub no_line-answered : RunAnswered limit law m bytes n false q.bytes
    no_line-answered = all-answered so_far (record {
      answered = subst (λ events. RunFinished law n (run_of law n.state events) n) (sym no_event)
          (RunFinished-nothing law n);
      ended_is = sym (ap (ends law n.state) no_event);
      left_is = none.same ∙ sym (unread-incomplete law limit n.state p.bytes none.unended);
    })

  module _ (same : p.limit ≡ limit) {event : FtpEvent} (first : TakesLine p event q) where
    meant : event_for limit first.takes.line ≡ event
    meant = sym (first.takes.meaning ∙ ap (λ limit. event_for limit first.takes.line) same)

    first_event : (more : Bytes) → events limit (first.takes.line ++ more)
        ≡ event ∷ events limit more
    first_event more =
        ap (map (event_for limit)) (line_first first.takes.line more first.takes.is_line).0
        ∙ ap (λ event. event ∷ events limit more) meant

    pub line-failed : {k : Snapshot S} {error : ServeError} → EventFailed law n event k error
        → (done : List FtpEvent) × RunFailed limit law m bytes k error done
    line-failed failed = run-failed so_far (record {
      later = _;
      split = ap (run_for limit law n.state) first.takes.whole
          ∙ ap (run_of law n.state) (first_event q.bytes);
      sent = failed.sent;
      cause = failed.cause;
      means = failed.means;
      ended = EventFailed-more law _ failed;
      next_line = λ at_line. absurd (failed.has_line at_line);
    })

    module _ {k : Snapshot S} (all : RunFinished law n (event ∷ []) k) where
      pub Halfway-next : law.done k.state ≡ false → Halfway law limit m k bytes q.bytes
      Halfway-next on =
          let line = first.takes.line in
          let alone = line_first line [] first.takes.is_line in
          let one : events limit line ≡ event ∷ [] =
          ap (events limit) (sym (append-nil line)) ∙ first_event [] in
          let goes_on : ends_for limit law n.state line ≡ false = ap (ends law n.state) one
          ∙ rw (← all.ends_at, on) refl in
          record {
            lines = so_far.lines ++ line;
            whole = so_far.whole ∙ ap (λ bytes. so_far.lines ++ bytes) first.takes.whole
                ∙ sym (append_assoc so_far.lines line q.bytes);
            whole_lines = incomplete_line-append so_far.lines line
                ∙ ap (λ incomplete. incomplete_line (incomplete ++ line)) so_far.whole_lines
                ∙ ap incomplete_line (sym (append-nil line)) ∙ alone.1;
            gone_on = GoneOn-then so_far.gone_on line (rw so_far.whole_lines (record {
              goes_on = goes_on;
              answered = rw one all;
            }));
          }

      pub last_line-answered : law.done k.state ≡ true → RunAnswered limit law m bytes k true q.bytes
      last_line-answered done =
          let is = line-done law limit n.state first.takes.line q.bytes first.takes.is_line
          (ap (λ event. law.done (after law n.state event)) meant
          ∙ ap law.done (sym all.ends_at) ∙ done) in
          all-answered so_far (rw first.takes.whole (record {
            answered = rw (is.0, meant) all;
            ended_is = sym is.1;
            left_is = sym is.2;
          }))

-- memory runs out for the next line
pub halfway-no_memory : {S : Type 0} {law : SessionLaw S} {limit : Option ℕ} {m n : Snapshot S}
    {bytes pending : Bytes} → Halfway law limit m n bytes pending → MayRunOut limit pending
    → (done : List FtpEvent) × RunFailed limit law m bytes n OutOfMemory done
halfway-no_memory {law = law} {limit} {n = n} {pending = pending} so_far may =
    let taken = (MayRunOut-taken pending may).2 in
    let lines = ap lines_of taken.whole ∙ (line_first taken.line _ taken.is_line).0 in
    run-failed so_far (record {
      later = _;
      split = ap (λ lines. run_of law n.state (map (event_for limit) lines)) lines;
      sent = [];
      cause = LineMemory;
      means = tt;
      ended = record {
        ends_at = refl;
        given = HasAnswered-silent LineMemory refl refl (omega arith);
      };
      next_line = λ _. may;
    })
