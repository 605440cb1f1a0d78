use Rattle.std.proofs.Common.{◌≡◌, true, false, sym, ap, ◌∙◌}
use Rattle.unftp_control_defs.specs.Forwarded.{kind_keeps}
use Rattle.unftp_control_defs.specs.FtpCommand.{kind}
use Rattle.unftp_control_defs.specs.Outcome.{outcome}
use Rattle.unftp_control_defs.specs.Verbs.{upper}
use Rattle.unftp_control_c.proofs.ForwardedLineLemmas.{kept_sent, refused, typed_sent, typed_value}
use Rattle.unftp_control_c.proofs.forwarding.read_forwarded.Goals as goal

pub returns-in-Ok : goal.returns-in-Ok
returns-in-Ok c =
    let line = c.args.line.now in
    let words = c.of-words.result in
    let is = c.in-Some.ensures in
    let sends = c.in-Ok.ensures (outcome line) c.of-words.ensures.means in
    let keeps : kind_keeps (kind words.verb) ≡ true = sym c.of-words.ensures.means.keeps
    ∙ ap kind_keeps (sym c.kind.ensures) ∙ sym c.kind_keeps.ensures ∙ c.if-kind_keeps.true in (
      is.0,
      kept_sent line c.in-Some.text words.verb (upper words.name.now) sends.1.0 sends.1.2 is.0 is.1
          keeps,
    )

pub returns-in-Err : goal.returns-in-Err
returns-in-Err c = rw c.kind_status.ensures (refused c.args.line.now c.in-Err.kind c.in-Some.ensures.0
    (c.in-Err.ensures (outcome c.args.line.now) c.of-words.ensures.means))

pub returns-in-Ok-parts : goal.returns-in-Ok-parts
returns-in-Ok-parts c =
    let line = c.args.line.now in
    let parts = c.in-Ok-parts.parts in
    let is = c.in-Some.ensures in
    let said = (c.in-Ok-parts.ensures.parts (outcome line) c.of-words.ensures.means).0 in
    let other : kind_keeps (kind parts.verb) ≡ false =
    ap (λ verb. kind_keeps (kind verb)) c.in-Ok-parts.ensures.verb
    ∙ sym c.of-words.ensures.means.keeps
    ∙ ap kind_keeps (sym c.kind.ensures) ∙ sym c.kind_keeps.ensures ∙ c.if-kind_keeps.false in (
      is.0,
      typed_sent line c.in-Some.text.now parts said is.0 is.1 other
          (typed_value (outcome line) parts said other),
    )

pub returns-in-Err-parts : goal.returns-in-Err-parts
returns-in-Err-parts c = rw c.kind_status-in-Err-parts.ensures (refused c.args.line.now
    c.in-Err-parts.kind c.in-Some.ensures.0
    (c.in-Err-parts.ensures.parts (outcome c.args.line.now) c.of-words.ensures.means))
