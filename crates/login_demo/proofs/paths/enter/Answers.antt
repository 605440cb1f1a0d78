use Rattle.std.proofs.Common.{sym}
use Rattle.std.proofs.lemmas.List.{map-append}
use Rattle.login_demo.proofs.PathLemmas.{entered-name}
use Rattle.login_demo.proofs.paths.enter.Goals as goal

pub returns-in_ok-push-in_default : goal.returns-in_ok-push-in_default
returns-in_ok-push-in_default c =
    let name = c.in_default in
    let pushed = c.in_ok-push-in_default.ensures.items in
    rw (pushed, map-append) (sym (entered-name _ name.not-empty name.not-text name.not-text-2))
