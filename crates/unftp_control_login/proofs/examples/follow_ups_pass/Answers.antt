use Rattle.std.proofs.Common.{◌<◌, [], refl, arith}
use Rattle.unftp_control_defs.specs.Events.{Command}
use Rattle.unftp_control_defs.specs.FtpCommand.{Pwd}
use Rattle.unftp_control_login.specs.Examples.{only_anna}
use Rattle.unftp_control_login.proofs.ExampleLemmas.{not-logged-in}
use Rattle.unftp_control_login.proofs.examples.follow_ups_pass.Goals as goal

-- also by a preliminary reply
pub returns-clause-served : goal.returns-clause-served
returns-clause-served c = λ served.
    let low : 150 < 400 = omega arith in
    not-logged-in only_anna [] refl ((served [] (Command Pwd) refl).0 low)
