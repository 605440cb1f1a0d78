use Rattle.std.proofs.Common.{FitsSigned, w64}
use Rattle.std.proofs.lemmas.Int.{to_z-of_z}
use Rattle.unftp_control_c.proofs.facts.list_text.Goals as goal

pub returns-in-Ok : goal.returns-in-Ok
returns-in-Ok c =
    let fits : FitsSigned w64 c.args.now = c.ranges.now in
    let now = simp to_z-of_z at c.in-Some.ensures in
    let told = c.in-Some-status.ensures in (
      (now.0, told.0, c.in-Ok.ensures.name),
      (c.in-Some-status.file, told.1, rw now.1 at c.in-Ok.ensures.ok),
    )
