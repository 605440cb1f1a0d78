use Rattle.login_demo.proofs.TimeLemmas.{IsTimeText-readme, IsTimeText-today}
use Rattle.login_demo.proofs.tree.File.modified.Goals as goal

pub returns-in-Readme : goal.returns-in-Readme
returns-in-Readme c =
    rw c.in-Readme.is (IsTimeText-readme c.constant.result.nanosecond c.constant.ensures)

pub returns-in-Today : goal.returns-in-Today
returns-in-Today c =
    rw c.in-Today.is
    (IsTimeText-today c.constant-in-Today.result.nanosecond c.constant-in-Today.ensures)
