-- What passes a connection in one call after the other passes in all.
use Rattle.std.proofs.Common.{◌≡◌, ℕ, [], ◌++◌, Option, None, Some, Result, Ok, Err, IfOk, OnErr, OnOk, ap, append-nil, append_assoc, drop, length, refl, subst, sym, true, vec_len, ◌∙◌}
use Rattle.std.specs.Global.{Vec}
use Rattle.std.proofs.Math.Seq.{drop-append_seam}
use Rattle.unftp_control_defs.specs.Bytes.{Bytes}
use Rattle.unftp_control_defs.specs.FtpReply.{FtpReply}
use Rattle.unftp_control_client.specs.Dialogue.{next_to}
use Rattle.unftp_control_read.specs.declared.errors.NextReplyError.{NextReplyError}
use Rattle.unftp_control_serve.specs.ClientLines.{front_line}
use Rattle.unftp_control_write.specs.Forwarding.{IsForwarded}
use Rattle.unftp_control_proxy.specs.ProxyAnswers.{is_answer}
use Rattle.unftp_control_proxy.specs.ProxyCalls.{AnsweredBy, GivesNext, IsDecidable, IsScannedFor, MayBeSent, SentAs, after_fate}
use Rattle.unftp_control_proxy.specs.Traffic.{IsTraffic, Traffic, joined_traffic, no_traffic, one_answer, one_line, one_reply}
use Rattle.unftp_control_proxy.specs.declared.proxy.NextReply.{NextReply}
use Rattle.unftp_control_proxy.specs.declared.proxy.NextReply.TheVariants as given
use Rattle.unftp_control_proxy.proofs.CallLemmas.{decides, found_only, gives_answer, passes_reply, settled_only}
use Rattle.unftp_control_proxy.proofs.TrafficLemmas.{in_turn, nothing}
use Rattle.example_callers.specs.Relays.{Passes, of_before}
use Rattle.example_callers.specs.declared.relay.Connection.{Connection}

kept : {old new : Bytes} → new ≡ old → new ≡ old ++ []
kept {old} same = same ∙ sym (append-nil old)

pub passes_in_turn : {x y z : Connection} → Passes x y → Passes y z → Passes x z
passes_in_turn {x} one two = record {
  traffic = joined_traffic one.traffic two.traffic;
  is_traffic = in_turn one.is_traffic two.is_traffic;
  to_client = two.to_client ∙ ap (λ bytes. bytes ++ two.traffic.to_client) one.to_client
      ∙ append_assoc x.to_client.items one.traffic.to_client two.traffic.to_client;
  to_server = two.to_server ∙ ap (λ bytes. bytes ++ two.traffic.to_server) one.to_server
      ∙ append_assoc x.to_server.items one.traffic.to_server two.traffic.to_server;
}

-- What each call ensures says what passes in it.
module _ (x y : Connection) where
  by : (traffic : Traffic) → IsTraffic x.proxy (of_before traffic) y.proxy
      → y.to_client.items ≡ x.to_client.items ++ traffic.to_client
      → y.to_server.items ≡ x.to_server.items ++ traffic.to_server → Passes x y
  by traffic is client server =
      record { traffic = traffic; is_traffic = is; to_client = client; to_server = server }

  nothing_passes : y.proxy ≡ x.proxy → y.to_client.items ≡ x.to_client.items
      → y.to_server.items ≡ x.to_server.items → Passes x y
  nothing_passes same client server = by no_traffic
      (subst (IsTraffic x.proxy no_traffic) (sym same) (nothing x.proxy)) (kept client) (kept server)

  pub looked_passes : IsScannedFor x.proxy y.proxy → y.to_client.items ≡ x.to_client.items
      → y.to_server.items ≡ x.to_server.items → Passes x y
  looked_passes is client server =
      by no_traffic (found_only x.proxy y.proxy is) (kept client) (kept server)

  pub given_passes : (result : Result (Option NextReply) NextReplyError)
      → IfOk result (λ next. GivesNext x.proxy next x.to_client.items y.to_client.items y.proxy)
      → OnErr result (y.proxy ≡ x.proxy) → OnErr result (y.to_client.items ≡ x.to_client.items)
      → y.to_server.items ≡ x.to_server.items → Passes x y
  given_passes (Ok None) gives same client server =
      by no_traffic (settled_only x.proxy y.proxy gives.1) (kept gives.0) (kept server)
  given_passes (Ok (Some given.Answered)) (reply, appended, gives) same client server =
      by (one_answer reply) (gives_answer x.proxy y.proxy reply gives) appended (kept server)
  given_passes (Ok (Some (given.Passed code))) (reply, is, appended, passes) same client server = by
      (one_reply (record { to = next_to x.proxy.dialogue; came = reply; given = reply }))
      (passes_reply x.proxy y.proxy reply reply passes) appended (kept server)
  given_passes (Ok (Some (given.Unasked code))) gives same client server =
      nothing_passes gives.1 gives.0 server
  given_passes (Err error) gives same client server = nothing_passes same client server

  pub answer_passes : {E : Type 0} (result : Result (Unit {0}) E) (reply : FtpReply)
      → OnOk result (y.proxy ≡ after_fate x.proxy (AnsweredBy reply))
      → OnOk result (IsDecidable x.proxy) → OnOk result (is_answer reply ≡ true)
      → OnErr result (y.proxy ≡ x.proxy) → y.to_client.items ≡ x.to_client.items
      → y.to_server.items ≡ x.to_server.items → Passes x y
  answer_passes (Ok done) reply is may single same client server =
      by (one_line (front_line x.proxy.client.bytes) (AnsweredBy reply))
      (decides x.proxy y.proxy may (AnsweredBy reply) single is) (kept client) (kept server)
  answer_passes (Err error) reply is may single same client server =
      nothing_passes same client server

  pub sent_passes : {E : Type 0} (result : Result (Unit {0}) E) (limit : ℕ) (line : Bytes)
      → OnOk result (y.proxy ≡ after_fate x.proxy (SentAs line))
      → OnOk result (IsDecidable x.proxy) → OnOk result (MayBeSent limit line)
      → OnOk result (y.to_server.items ≡ x.to_server.items ++ line)
      → OnErr result (y.proxy ≡ x.proxy) → OnErr result (y.to_server.items ≡ x.to_server.items)
      → y.to_client.items ≡ x.to_client.items → Passes x y
  sent_passes (Ok done) limit line is may sent appended same server client =
      by (one_line (front_line x.proxy.client.bytes) (SentAs line))
      (decides x.proxy y.proxy may (SentAs line) sent.is_line is) (kept client)
      (appended ∙ ap (λ bytes. x.to_server.items ++ bytes) (sym (append-nil line)))
  sent_passes (Err error) limit line is may sent appended same server client =
      nothing_passes same client server

pub same_passes : (x : Connection) → Passes x x
same_passes x = nothing_passes x x refl refl refl

pub ruleset passing = (same_passes, passes_in_turn)

-- what is forwarded are the bytes after those from before
pub forwarded_after : {E : Type 0} (result : Result (Unit {0}) E) (line : Bytes) (out out' : Vec ℕ)
    → OnOk result (IsForwarded line out.items out'.items)
    → OnOk result (out'.items ≡ out.items ++ drop (vec_len out) out'.items)
forwarded_after (Ok done) line out out' is = is.appended
    ∙ ap (λ bytes. out.items ++ bytes) (sym (ap (λ n. drop n out'.items) out.ok.0
    ∙ ap (drop (length out.items)) is.appended ∙ drop-append_seam out.items _))
forwarded_after (Err error) line out out' is = tt
