use Rattle.std.proofs.Common.{[], ◌∷◌, subst, sym}
use Rattle.std.specs.Option.{IfSome}
use Rattle.unftp_control_defs.specs.Bytes.{Bytes}
use Rattle.unftp_control_defs.specs.FtpCommand.{unless_empty}
use Rattle.unftp_control_log.proofs.TextLemmas.{exchange_prints}
use Rattle.unftp_control_c.specs.ExchangeLines.{ArePrintable}
use Rattle.unftp_control_c.proofs.laws.lines_of_exchanges_are_printable.Goals as goal

shown_prints : (shown : Bytes) → ArePrintable shown → IfSome (unless_empty shown) ArePrintable
shown_prints [] printable = tt
shown_prints (b ∷ shown) printable = printable

pub returns : goal.returns
returns c shown bytes text (printable, replies, are, is) = subst ArePrintable (sym is)
    (exchange_prints (record { line = unless_empty shown; replies = replies })
    (shown_prints shown printable))
