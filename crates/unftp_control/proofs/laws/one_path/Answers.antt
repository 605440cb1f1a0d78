use Rattle.std.proofs.Common.{subst}
use Rattle.unftp_control_defs.specs.Paths.{ListPath}
use Rattle.unftp_control_defs.proofs.PathLemmas.{path_of-ListPath, ListPath-path_of}
use Rattle.unftp_control.proofs.laws.one_path.Goals as goal

pub returns : goal.returns
returns c =
    λ text path. (path_of-ListPath text path, λ e. subst (ListPath text) e (ListPath-path_of text))
