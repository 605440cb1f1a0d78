use Rattle.login_demo.proofs.PlainLemmas.{SendsPlainExchanges-files}
use Rattle.login_demo.proofs.laws.files_replies_are_plain.Goals as goal

pub returns : goal.returns
returns c = SendsPlainExchanges-files
