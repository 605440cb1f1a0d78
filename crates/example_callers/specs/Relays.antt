-- Which lines of a client are sent to a server that is only to be read from, and what passes.
use Rattle.std.specs.Prelude.{◌≡◌, Bool, true, false, if◌then◌else◌, [], ◌++◌, Option, Some, None, Ok, Err}
use Rattle.unftp_control_defs.specs.Bytes.{Bytes}
use Rattle.unftp_control_defs.specs.FtpCommand.{Outcome, said, verbs}
use Rattle.unftp_control_defs.specs.Rules.{row_of}
use Rattle.unftp_control_defs.specs.Verbs.{upper, verb_of}
use Rattle.unftp_control_defs.specs.declared.verb.Verb.{Verb}
use Rattle.unftp_control_defs.specs.declared.verb.Verb.TheVariants as verb
use Rattle.unftp_control_serve.specs.Decoder.{kept_bytes}
use Rattle.unftp_control_proxy.specs.ProxyCalls.{ProxyState}
use Rattle.unftp_control_proxy.specs.Traffic.{IsTraffic, Traffic}
use Rattle.example_callers.specs.declared.relay.Connection.{Connection}
use Rattle.example_callers.specs.declared.relay.Decision.{Decision}
use Rattle.example_callers.specs.declared.relay.Decision.TheVariants.{Forward, NotAllowed, NotUnderstood, SendAsItIs}
use Rattle.example_callers.specs.declared.relay.End.{End}
use Rattle.example_callers.specs.declared.relay.End.TheVariants as end

-- all but those that write, or that may: by MDTM some servers set a file's time
abbrev pub allows : Verb → Bool
allows verb.Stor = false
allows verb.Appe = false
allows verb.Stou = false
allows verb.Rnfr = false
allows verb.Rnto = false
allows verb.Dele = false
allows verb.Rmd = false
allows verb.Mkd = false
allows verb.Mdtm = false
allows verb.Site = false
allows verb.Md5 = false
allows verb.Ccc = false
allows verb.Pbsz = false
allows verb.Prot = false
allows verb.Other = false
allows _ = true

abbrev pub allows_word : Option Verb → Bool
allows_word None = false
allows_word (Some verb.Auth) = false
allows_word (Some verb) = allows verb

-- its verb is allowed, and not AUTH: another mechanism may begin TLS too
abbrev pub may_go_as_it_is : Bytes → Bool
may_go_as_it_is line = allows_word (row_of (upper (verb_of line)) verbs)

-- A line that is a command is forwarded where its verb is allowed. One that is none is sent as it
-- is, where it may go so.
abbrev pub decided : Bytes → Outcome → Decision
decided line (Ok command) = if allows (said command).verb then Forward else NotAllowed
decided line (Err refusal) = if may_go_as_it_is line then SendAsItIs else NotUnderstood

-- What passed is traffic of the proxy, of what came before, and each side is to be sent that
-- traffic's bytes, and no others.
abbrev pub of_before : Traffic → Traffic
of_before traffic = record traffic { from_client = []; from_server = [] }

pub record Passes (before after : Connection) : Type 0 where
  pub traffic : Traffic
  pub is_traffic : IsTraffic before.proxy (of_before traffic) after.proxy
  pub to_client : after.to_client.items ≡ before.to_client.items ++ traffic.to_client
  pub to_server : after.to_server.items ≡ before.to_server.items ++ traffic.to_server

-- What the client is sent last, and the server: the reply that nobody asked for, with what comes
-- after it; or what is TLS.
abbrev pub sent_last : ProxyState → End → Bytes × Bytes
sent_last proxy (end.Unasked code) = (proxy.server.bytes, [])
sent_last proxy end.Tls = (proxy.server.bytes, kept_bytes proxy.client)
sent_last proxy _ = ([], [])
