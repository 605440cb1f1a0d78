-- What a client reads through a proxy.
use Rattle.std.proofs.Common.{◌≡◌, ℕ, List, [], ◌++◌, None, sym, ap, ◌∙◌, append_assoc, append-nil}
use Rattle.std.specs.List.{concat, flat_map}
use Rattle.unftp_control_defs.specs.Bytes.{Bytes}
use Rattle.unftp_control_defs.specs.FtpReply.{FtpReply, encoded}
use Rattle.unftp_control_defs.specs.ReplyReader.{HasFront}
use Rattle.unftp_control_defs.specs.Run.{SessionLaw, all_replies, run_of, text_of}
use Rattle.unftp_control_defs.specs.TakingSteps.{AreTakingSteps, TakesReply, TakingStep, all_pushed, all_taken}
use Rattle.unftp_control_proxy.specs.ProxyCalls.{ProxyState, new_proxy}
use Rattle.unftp_control_proxy.specs.Traffic.{ChangesNothing, IsTraffic, Traffic, client_lines}
use Rattle.unftp_control_proxy.specs.declared.proxy.Limits.{Limits}
use Rattle.unftp_control_proxy.proofs.TrafficLemmas.{same_bytes, same_events}
use Rattle.unftp_control_serve.specs.Writing.{Begins}
use Rattle.unftp_control.specs.Acts.{IsUnderstood, Server, turns_to, written_by}
use Rattle.unftp_control.specs.Conversation.{Show, ShowTurns}
use Rattle.unftp_control.proofs.ActLemmas.{written-said}
use Rattle.unftp_control.proofs.ConversationLemmas.{read_all, read_so_far, shows_turns}

-- a server that answers lines of any length
abbrev pub unlimited : {S : Type 0} → SessionLaw S → S → FtpReply → Server S
unlimited law state greeting =
    record { law = law; state = state; limit = None; greeting = greeting }

module _ {S : Type 0} (law : SessionLaw S) (state : S) (greeting : FtpReply) {limits : Limits}
    {traffic : Traffic} {later : ProxyState} (is : IsTraffic (new_proxy limits) traffic later)
    (same : ChangesNothing traffic)
    (clear : IsUnderstood
    (turns_to (unlimited law state greeting) (concat (client_lines traffic.lines))))
    (steps : List (TakingStep (ℕ × List Bytes))) (pending : Bytes)
    (are : AreTakingSteps TakesReply [] steps pending) where
  abbrev lines : Bytes
  lines = concat (client_lines traffic.lines)

  abbrev server : Server S
  server = unlimited law state greeting

  written_same : written_by server traffic.to_server ≡ written_by server lines
  written_same = ap (λ events. encoded greeting ++ text_of law state (run_of law state events))
      (same_events is same)

  pub so_far : (more : Bytes) → Begins (written_by server traffic.to_server) traffic.from_server
      → all_pushed steps ++ more ≡ traffic.to_client
      → (unread : List (ℕ × List Bytes)) × Show (all_taken steps ++ unread)
      (all_replies (turns_to server lines))
  so_far more begins came =
      read_so_far (all_replies (turns_to server lines)) clear.readable steps pending are
      (more ++ (later.server.bytes ++ begins.0))
      (sym (append_assoc (all_pushed steps) more (later.server.bytes ++ begins.0))
      ∙ ap (λ bytes. bytes ++ (later.server.bytes ++ begins.0)) came
      ∙ sym (append_assoc traffic.to_client later.server.bytes begins.0)
      ∙ ap (λ bytes. bytes ++ begins.0) (same_bytes is same)
      ∙ sym begins.1 ∙ written_same ∙ written-said server lines)

  pub all : traffic.from_server ≡ written_by server traffic.to_server
      → later.server.bytes ≡ [] → all_pushed steps ≡ traffic.to_client → ¬ HasFront pending
      → ShowTurns (all_taken steps) (turns_to server lines) × (pending ≡ [])
  all came none_left pushed none =
      let read = read_all (all_replies (turns_to server lines)) clear.readable steps pending are
      (pushed ∙ sym (append-nil traffic.to_client)
      ∙ ap (λ bytes. traffic.to_client ++ bytes) (sym none_left)
      ∙ same_bytes is same ∙ came ∙ written_same ∙ written-said server lines) none in
      (shows_turns (all_taken steps) (turns_to server lines) clear.exchanges read.0, read.1)
