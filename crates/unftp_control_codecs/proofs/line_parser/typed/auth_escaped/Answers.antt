use Rattle.unftp_control_defs.specs.declared.verb.Verb.TheVariants as verb
use Rattle.std.proofs.Common.{◌≡◌, [], length, take, ap, subst, ◌∙◌, refl, take_at}
use Rattle.unftp_control_defs.specs.Rules.{auth}
use Rattle.unftp_control_codecs.specs.Memory.{ReadsTo}
use Rattle.unftp_control_message.specs.SentValues.{unescaped}
use Rattle.unftp_control_codecs.proofs.line_parser.typed.auth_escaped.Goals as goal

pub returns : goal.returns
returns c =
    let value = unescaped c.args.sent.now in
    let area = c.unescape_to.new.area in
    let front : take c.unescaped_len-len.result area ≡ value =
    ap (λ n. take n area) c.unescaped_len-len.ensures
    ∙ ap (take (length value)) c.unescape_to.ensures
    ∙ take_at value _ (length value) refl in
    subst (λ answer. ReadsTo answer verb.Auth [] c.auth.result)
    (ap auth (c.split_at.ensures.front ∙ front)) c.auth.ensures
