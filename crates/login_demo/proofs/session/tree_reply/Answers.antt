use Rattle.login_demo.proofs.CommandLemmas.{tree_reply-other}
use Rattle.login_demo.proofs.session.tree_reply.Goals as goal

pub returns-in_default-clause-ok : goal.returns-in_default-clause-ok
returns-in_default-clause-ok c =
    let other = c.in_default in
    rw (tree_reply-other c.args.directory c.args.command other.not-Pwd other.not-Mlst other.not-Size
    other.not-Mdtm) c.standing_reply.ensures.ok
