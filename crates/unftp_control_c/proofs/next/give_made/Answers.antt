use Rattle.std.proofs.Common.{◌≡◌, inl, ap, subst, sym, ◌∙◌}
use Rattle.unftp_control_defs.specs.FtpCommand.{Said, said}
use Rattle.unftp_control_defs.specs.Said.{MeansCommand}
use Rattle.unftp_control_defs.specs.Verbs.{upper}
use Rattle.unftp_control_log.proofs.PartsLemmas.{upper-upper}
use Rattle.unftp_control_message.specs.CommandMeaning.{command_of}
use Rattle.unftp_control_message.specs.PartsMeaning.{said_of}
use Rattle.unftp_control_c.specs.Next.{call_with, given_of, gives}
use Rattle.unftp_control_c.proofs.NextLemmas.{said_given}
use Rattle.unftp_control_c.proofs.next.give_made.Goals as goal

-- what is said, whatever the case of its name
abbrev folded : Said → Said
folded parts = record parts { name = upper parts.name }

pub returns-in-Ok : goal.returns-in-Ok
returns-in-Ok c = λ answer says pending.
    let call = call_with c.args.connection.now pending c.args.area.now in
    let parts = said_of c.args.parts in
    let means : said (command_of c.in-Ok.command) ≡ parts =
    subst (λ answer. MeansCommand answer parts) (says.0 ∙ c.in-Ok.ensures) says.1 in
    let same : folded parts ≡ parts =
    λ i. record parts { name = upper-upper c.args.parts.name.now i } in
    inl (c.give-number.ensures pending ∙ ap (gives call c.args.bytes.now)
    (c.given_of_parts-given.ensures ∙ ap given_of (ap folded (c.parts.ensures.says ∙ means) ∙ same)
    ∙ sym (said_given answer parts says)))
