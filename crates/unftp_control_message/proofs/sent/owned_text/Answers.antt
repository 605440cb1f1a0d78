use Rattle.std.proofs.Common.{sym, ap, subst, ◌∙◌}
use Rattle.std.specs.Str.{IsUtf8}
use Rattle.std.proofs.lemmas.Str.{utf8_lossy-IsUtf8, IsUtf8-string_bytes}
use Rattle.unftp_control_message.proofs.sent.owned_text.Goals as goal

pub returns-in-Ok : goal.returns-in-Ok
returns-in-Ok c =
    let e = ap (λ v. v.items) c.in-Ok.ensures.ok in
    e ∙ sym (utf8_lossy-IsUtf8 c.args.bytes.items
    (subst IsUtf8 e (IsUtf8-string_bytes c.in-Ok.text)))
