use Rattle.login_demo.proofs.CommandLemmas.{standing_reply-other}
use Rattle.login_demo.proofs.standing.standing_reply.Goals as goal

pub returns-in_default-clause-ok : goal.returns-in_default-clause-ok
returns-in_default-clause-ok c =
    let other = c.in_default in
    rw (standing_reply-other c.args.command record {
      no_auth = other.not-Auth;
      no_prot = other.not-Prot;
      no_mode = other.not-Mode;
      no_opts = other.not-Opts;
      no_stru = other.not-Stru;
      no_feat = other.not-Feat;
      no_help = other.not-Help;
      no_site = other.not-Site;
    }) c.line_reply.ensures.ok
