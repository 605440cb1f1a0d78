-- A run ends with the first event that leaves the handler done.
use Rattle.std.proofs.Common.{◌≡◌, suc, length, Bool, true, false, List, [], ◌∷◌, ◌++◌, refl, ap}
use Rattle.unftp_control_defs.specs.Events.{FtpEvent}
use Rattle.unftp_control_defs.specs.Run.{Law, SessionLaw, after, as_session, ends, last_state, replies, run_of}
use Rattle.unftp_control_defs.proofs.RunLemmas.{on-first, run_of-done}
use Rattle.unftp_control.specs.RunEnd.{EndsNowhere, EndsAfter}

module _ {S : Type 0} (law : SessionLaw S) where
  pub EndsNowhere-none : (s : S) → EndsNowhere law s []
  EndsNowhere-none s [] later last same = absurd (cc)
  EndsNowhere-none s (f ∷ first) later last same = absurd (cc)

  -- none of some events, by the first of them and the others
  pub EndsNowhere-more : (s : S) (event : FtpEvent) (events : List FtpEvent)
      → law.done (after law s event) ≡ false → EndsNowhere law (after law s event) events
      → EndsNowhere law s (event ∷ events)
  EndsNowhere-more s event events on rest [] later last same =
      let head : event ≡ last = cc in
      rw (← head) on
  EndsNowhere-more s event events on rest (f ∷ first) later last same =
      let head : event ≡ f = cc in
      let tail : events ≡ first ++ last ∷ later = cc in
      rw (← head) (rest first later last tail)

  EndsNowhere-first : (s : S) (event : FtpEvent) (events : List FtpEvent)
      → EndsNowhere law s (event ∷ events)
      → (law.done (after law s event) ≡ false) × EndsNowhere law (after law s event) events
  EndsNowhere-first s event events on = (
    on [] events event refl,
    λ first later last same. on (event ∷ first) later last (ap (λ more. event ∷ more) same),
  )

  pub ends_nowhere-ends : (s : S) (events : List FtpEvent) → EndsNowhere law s events
      → ends law s events ≡ false
  ends_nowhere-ends s [] on = refl
  ends_nowhere-ends s (event ∷ events) on =
      let first = EndsNowhere-first s event events on in
      rw first.0 (ends_nowhere-ends (after law s event) events first.1)

  pub ends_nowhere-not_ended : (s : S) (events : List FtpEvent) → ends law s events ≡ false
      → EndsNowhere law s events
  ends_nowhere-not_ended s [] h = EndsNowhere-none s
  ends_nowhere-not_ended s (event ∷ events) h =
      let on = on-first law (law.done (after law s event)) (ends law (after law s event) events) h in
      EndsNowhere-more s event events on.0 (ends_nowhere-not_ended (after law s event) events on.1)

  -- the run and its end, where the events before go on and the next leaves the handler done
  at_end : (s : S) (first later : List FtpEvent) (event : FtpEvent) → EndsNowhere law s first
      → law.done (last_state law s (first ++ event ∷ [])) ≡ true
      → (run_of law s (first ++ event ∷ later) ≡ first ++ event ∷ [])
      × (ends law s (first ++ event ∷ later) ≡ true)
  at_end s [] later event on done = run_of-done law s event later done
  at_end s (f ∷ first) later event on done =
      let start = EndsNowhere-first s f first on in
      let more = at_end (after law s f) first later event start.1 done in
      rw start.0 (ap (λ run. f ∷ run) more.0, more.1)

  pub ends_after-run : {s : S} {events first : List FtpEvent} {event : FtpEvent}
      → EndsAfter law s events first event
      → (run_of law s events ≡ first ++ event ∷ []) × (ends law s events ≡ true)
  ends_after-run {s} {first} {event} h =
      rw (h.split) (at_end s first h.later event h.none_before h.done)

  pub ends-found : (s : S) (events : List FtpEvent) → ends law s events ≡ true
      → (first : List FtpEvent) × (last : FtpEvent) × EndsAfter law s events first last
  ends-found s [] h = absurd (cc)
  ends-found s (event ∷ events) h =
      by_done (law.done (after law s event)) refl
      (λ on. ends-found (after law s event) events (rw on at h))
    where
      by_done : (done : Bool) → law.done (after law s event) ≡ done
          → (law.done (after law s event) ≡ false → (first : List FtpEvent) × (last : FtpEvent)
          × EndsAfter law (after law s event) events first last)
          → (first : List FtpEvent) × (last : FtpEvent) × EndsAfter law s (event ∷ events) first last
      by_done true done later = (
        [],
        event,
        record { later = events; split = refl; none_before = EndsNowhere-none s; done = done },
      )
      by_done false on later = let found = later on in (
        event ∷ found.0,
        found.1,
        record {
          later = found.2.later;
          split = ap (λ more. event ∷ more) found.2.split;
          none_before = EndsNowhere-more s event found.0 on found.2.none_before;
          done = found.2.done;
        },
      )

-- one reply to each event
pub length-one_reply : {S : Type 0} (law : Law S) (s : S) (events : List FtpEvent)
    → length (replies (as_session law) s events) ≡ length events
length-one_reply law s [] = refl
length-one_reply law s (event ∷ events) = ap suc (length-one_reply law (law.next s event) events)
