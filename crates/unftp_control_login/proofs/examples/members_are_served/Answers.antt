use Rattle.std.proofs.Common.{◌≡◌, ◌<◌, ℕ, List, [], ◌∷◌, length, filter_map, take, None, refl, sym, ap, subst, ◌∙◌, arith, codes}
use Rattle.std.specs.Fmt.{digits}
use Rattle.std.proofs.lemmas.Bool.{false≢true}
use Rattle.unftp_control_defs.specs.Bytes.{Bytes, LF}
use Rattle.unftp_control_defs.specs.FtpCommand.{Pwd}
use Rattle.unftp_control_defs.specs.FtpReply.{FtpReply, CodeAndMsg, reply_as_read}
use Rattle.unftp_control_defs.specs.Events.{Command, events}
use Rattle.unftp_control_defs.specs.ReplyReader.{ReadsBack}
use Rattle.unftp_control_defs.specs.Turns.{cut_reads}
use Rattle.unftp_control_defs.proofs.EncodingLemmas.{ReadsBack-encoded}
use Rattle.unftp_control_defs.proofs.LackLemmas.{Lacks-test}
use Rattle.unftp_control_defs.proofs.LineEventLemmas.{events-canonical_line}
use Rattle.unftp_control_login.specs.Promises.{AfterLogin, AtEachPlace, MembersAlone}
use Rattle.unftp_control_login.specs.Examples.{here, only_anna}
use Rattle.unftp_control_login.proofs.ExampleLemmas.{not-logged-in}
use Rattle.unftp_control_login.proofs.FinalLemmas.{final}
use Rattle.unftp_control_login.proofs.examples.members_are_served.Goals as goal

-- without a login, the event is answered with no failure
pub returns-clause-anyone_served : goal.returns-clause-anyone_served
returns-clause-anyone_served c = λ served.
    let low : 257 < 400 = omega arith in
    not-logged-in only_anna [] refl ((served [] (Command Pwd) refl).0 low)

-- the line's event
pwd : events None (codes "PWD\r\n") ≡ Command Pwd ∷ []
pwd = events-canonical_line None Pwd [] tt tt refl

-- nothing that a client reads as replies to it may report no failure
none-served : (output : Bytes) (replies : List FtpReply) (read : ℕ × List Bytes)
    (part : List (ℕ × List Bytes)) → ReadsBack output replies
    → cut_reads (filter_map reply_as_read replies) ≡ (read ∷ part) ∷ [] → read.0 < 400
    → ¬ MembersAlone None only_anna (codes "PWD\r\n") output
none-served output replies read part reads cut low h =
    let same = ap cut_reads (sym (h.no_other (filter_map reply_as_read replies) reads.0)) ∙ cut in
    let at_each : AtEachPlace (AfterLogin only_anna) [] (Command Pwd ∷ [])
    ((read ∷ part) ∷ []) =
    subst (λ events. AtEachPlace (AfterLogin only_anna) [] (take 1 events)
    ((read ∷ part) ∷ [])) pwd
    (subst (λ parts. AtEachPlace (AfterLogin only_anna) []
    (take (length parts) (events None (codes "PWD\r\n"))) parts) same h.alone) in
    not-logged-in only_anna [] refl ((at_each.0 refl).0 low)

served_reply : ReadsBack (codes "257 here\r\n") (here ∷ [])
unfolding digits
served_reply = ReadsBack-encoded (here ∷ [])
    (((omega arith, omega arith), Lacks-test LF (codes "here") refl), tt)

pub returns-clause-anyone_served_in_bytes : goal.returns-clause-anyone_served_in_bytes
returns-clause-anyone_served_in_bytes c =
    none-served (codes "257 here\r\n") (here ∷ []) (257, codes "here" ∷ []) [] served_reply refl
    (omega arith)

pub returns-clause-nothing_sent : goal.returns-clause-nothing_sent
returns-clause-nothing_sent c = λ sends. (sends [] (Command Pwd) refl).1.0

pub returns-clause-answered_once : goal.returns-clause-answered_once
returns-clause-answered_once c [] event on = (refl, ((final here refl).0, tt))
returns-clause-answered_once c (past ∷ before) event on = absurd (false≢true (sym on))

pub returns-clause-over : goal.returns-clause-over
returns-clause-over c = λ sends. (sends [] (Command Pwd) refl).1.0

refused_reply : ReadsBack (codes "530 no\r\n") (CodeAndMsg 530 (codes "no") ∷ [])
unfolding digits
refused_reply = ReadsBack-encoded (CodeAndMsg 530 (codes "no") ∷ [])
    (((omega arith, omega arith), Lacks-test LF (codes "no") refl), tt)

pub returns-clause-stranger : goal.returns-clause-stranger
returns-clause-stranger c = record {
  read = (530, codes "no" ∷ []) ∷ [];
  replies = refused_reply.0;
  no_other = refused_reply.1;
  alone = subst
      (λ events. AtEachPlace (AfterLogin only_anna) [] (take 1 events)
      (((530, codes "no" ∷ []) ∷ []) ∷ [])) (sym pwd)
      ((λ needs. ((λ low. absurd (omega (arith, low))), tt)), tt);
}

-- more replies than events
pub returns-clause-no_event : goal.returns-clause-no_event
returns-clause-no_event c = λ members.
    let read = members.no_other ((530, codes "no" ∷ []) ∷ []) refused_reply.0 in
    subst (λ read. AtEachPlace (AfterLogin only_anna) []
    (take (length (cut_reads read)) []) (cut_reads read)) (sym read) members.alone
