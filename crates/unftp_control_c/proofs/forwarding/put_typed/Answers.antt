use Rattle.std.proofs.Common.{[], ◌∷◌, ◌++◌, ap, subst, sym, ◌∙◌}
use Rattle.unftp_control_defs.specs.Bytes.{SP, crlf}
use Rattle.unftp_control_defs.specs.Canonical.{with_optional}
use Rattle.unftp_control_defs.specs.FtpCommand.{word}
use Rattle.unftp_control_message.specs.PartsMeaning.{said_value}
use Rattle.unftp_control_commands.specs.Areas.{HasText}
use Rattle.unftp_control_commands.proofs.AreaLemmas.{nothing}
use Rattle.unftp_control_c.proofs.ForwardedLineLemmas.{in_place, spaced_line, typed_line}
use Rattle.unftp_control_c.proofs.forwarding.put_typed.Goals as goal

pub bytes-requires : goal.bytes-requires
bytes-requires c = in_place c.args.value c.requires

pub returns : goal.returns
returns c =
    let start = c.args.area.now in
    let name = c.as_bytes.result.now in
    let value = c.in-Some.value.now in
    let same = c.as_bytes.ensures.value ∙ c.word.ensures in
    subst (λ text. HasText start text c.put-4.new.area c.put-4.new.len)
    (spaced_line [] name value ∙ ap (λ body. body ++ crlf)
    (ap (λ word. word ++ SP ∷ value) same
    ∙ typed_line (word c.args.verb) (said_value c.args.value) value c.requires
    (sym c.in-Some.ensures)))
    (c.put-4.ensures start ((name ++ SP ∷ []) ++ value)
    (c.put-3.ensures start (name ++ SP ∷ [])
    (c.put-2.ensures start name (c.put.ensures start [] (nothing start)))))

pub returns-in_default : goal.returns-in_default
returns-in_default c =
    let start = c.args.area.now in
    let name = c.as_bytes.result.now in
    let same = c.as_bytes.ensures.value ∙ c.word.ensures in
    subst (λ text. HasText start text c.put-in_default.new.area c.put-in_default.new.len)
    (ap (λ word. word ++ crlf) same
    ∙ ap (λ value. with_optional (word c.args.verb) value ++ crlf) c.in_default.ensures)
    (c.put-in_default.ensures start name (c.put.ensures start [] (nothing start)))
