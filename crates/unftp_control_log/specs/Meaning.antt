-- What the code holds of an event before it writes it.
use Rattle.std.specs.Prelude.{option_map}
use Rattle.unftp_control_defs.specs.Verbs.{upper}
use Rattle.unftp_control_message.specs.SentValues.{sent_value}
use Rattle.unftp_control_log.specs.LogLine.{Visible, Verb, Subcommand, RefusedLine}
use Rattle.unftp_control_log.specs.declared.visible.Visible as code
use Rattle.unftp_control_log.specs.declared.visible.Visible.TheVariants as variant

abbrev pub visible_meant : code.Visible → Visible
visible_meant (variant.Verb verb value) = Verb (upper verb.now) (option_map sent_value value)
visible_meant (variant.Subcommand name arguments) =
    Subcommand (upper name.now) (option_map sent_value arguments)
visible_meant (variant.Refused verb reason) =
    RefusedLine (option_map (λ verb. upper verb.now) verb) reason.now
