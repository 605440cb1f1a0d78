use Rattle.std.proofs.Common.{rules}
use Rattle.login_demo.proofs.CommandLemmas.{command-other}
use Rattle.login_demo.proofs.session.Session.answer.Goals as goal

pub returns-in_default-clause-says : goal.returns-in_default-clause-says
returns-in_default-clause-says c =
    let other = c.in_default in
    rw ((command-other c.args.self.now c.args.command other.not-Cwd other.not-Cdup
    other.not-User other.not-Quit).0) c.tree_reply.ensures.ok

pub returns-in_default-clause-next : goal.returns-in_default-clause-next
returns-in_default-clause-next c =
    let other = c.in_default in
    rw ((command-other c.args.self.now c.args.command other.not-Cwd other.not-Cdup
    other.not-User other.not-Quit).1) (search rules)
