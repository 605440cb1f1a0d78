use Rattle.vector_replay.proofs.HandlerLemmas.{other-command}
use Rattle.vector_replay.proofs.handlers.answer_command.Goals as goal

pub returns : goal.returns
returns c =
    let other = c.in_default in
    rw (other-command c.args.command record {
      no_noop = other.not-Noop;
      no_quit = other.not-Quit;
      no_help = other.not-Help;
      no_site = other.not-Site;
    }) c.not_implemented.ensures
