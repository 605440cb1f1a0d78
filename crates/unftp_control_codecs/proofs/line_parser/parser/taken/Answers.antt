use Rattle.std.proofs.Common.{sym, subst}
use Rattle.unftp_control_defs.specs.Rules.{typed_outcome}
use Rattle.unftp_control_codecs.specs.Memory.{ReadsTo}
use Rattle.unftp_control_message.specs.SentValues.{sent_value}
use Rattle.unftp_control_codecs.proofs.line_parser.parser.taken.Goals as goal

pub returns-in-Typed : goal.returns-in-Typed
returns-in-Typed c = rw c.in-Typed.is (λ name nameless. subst (λ name. ReadsTo
    (typed_outcome c.args.verb (sent_value c.args.sent)) c.args.verb name c.typed.result)
    (sym nameless) c.typed.ensures)
