use Rattle.std.proofs.Common.{codes}
use Rattle.unftp_control_defs.proofs.PathLemmas.{ListPath-path_of, path_of-ListPath}
use Rattle.unftp_control.proofs.laws.examples.definitions.paths.texts_have_paths.Goals as goal

pub returns : goal.returns
returns c = record {
  no_option = ListPath-path_of (codes "a -la");
  two_options = ListPath-path_of (codes "-l -a b c");
  two_dashes = ListPath-path_of (codes "-l -- -b");
  option_kept = λ path. let is = path_of-ListPath _ _ path in cc;
  dashes_kept = λ path. let is = path_of-ListPath _ _ path in cc;
  option_after_two_dashes = λ path. let is = path_of-ListPath _ _ path in cc;
}
