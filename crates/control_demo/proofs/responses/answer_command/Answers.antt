use Rattle.control_demo.proofs.ResponseLemmas.{other-command}
use Rattle.control_demo.proofs.responses.answer_command.Goals as goal

pub returns : goal.returns
returns c =
    let other = c.in_default in
    rw (other-command c.args.command record {
      no_auth = other.not-Auth;
      no_prot = other.not-Prot;
      no_feat = other.not-Feat;
      no_epsv = other.not-Epsv;
      no_help = other.not-Help;
      no_mode = other.not-Mode;
      no_opts = other.not-Opts;
      no_stru = other.not-Stru;
      no_mlst = other.not-Mlst;
      no_noop = other.not-Noop;
      no_quit = other.not-Quit;
      no_site = other.not-Site;
    }) c.not_implemented.ensures
