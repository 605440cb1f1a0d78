-- What contracts see of an error of the control channel: its two parts.
use Rattle.unftp_control_message.specs.declared.reply.error.ControlChanErrorKind.{ControlChanErrorKind}
use Rattle.unftp_control_message.specs.declared.reply.error.Source.{Source}

pub record KindAndSource : Type 0 where
  pub kind : ControlChanErrorKind
  pub source : Source
