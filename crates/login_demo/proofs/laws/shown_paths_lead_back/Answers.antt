use Rattle.std.proofs.Common.{◌≡◌, Some, refl}
use Rattle.login_demo.specs.declared.tree.Directory.{Directory}
use Rattle.login_demo.specs.declared.tree.Directory.TheVariants as directory
use Rattle.login_demo.specs.declared.tree.File.TheVariants as file
use Rattle.login_demo.specs.declared.tree.Entry.{Entry}
use Rattle.login_demo.specs.declared.tree.Entry.TheVariants as entry
use Rattle.login_demo.specs.Session.{found}
use Rattle.login_demo.specs.Tree.{entry_names}
use Rattle.login_demo.specs.Walking.{path_text}
use Rattle.login_demo.proofs.laws.shown_paths_lead_back.Goals as goal

found-path_text : (d : Directory) (e : Entry) → found d (path_text (entry_names e)) ≡ Some e
found-path_text d (entry.Directory directory.Root) = refl
found-path_text d (entry.File file.Readme) = refl
found-path_text d _ = refl

pub returns : goal.returns
returns c = found-path_text
