use Rattle.std.proofs.Common.{None, Some, refl}
use Rattle.std.specs.Fmt.{digits}
use Rattle.login_demo.specs.Tree.{file_time}
use Rattle.login_demo.proofs.FactLemmas.{entry_facts-file}
use Rattle.login_demo.proofs.facts.EntryFacts.new.Goals as goal

pub returns-in-Directory : goal.returns-in-Directory
unfolding digits
returns-in-Directory c = rw c.in-Directory.is (None, refl, refl)

pub returns-in-File : goal.returns-in-File
returns-in-File c =
    rw c.in-File.is (
      Some (file_time c.in-File.file),
      c.modified.ensures,
      entry_facts-file c.in-File.file c.size.result c.size.ensures,
    )
