use Rattle.std.proofs.Common.{[], ◌∷◌, ◌++◌, arith, subst}
use Rattle.std.proofs.lemmas.Bool.Decides.{nat_tests}
use Rattle.unftp_control_defs.specs.Bytes.{SP}
use Rattle.unftp_control_defs.specs.Verbs.{upper}
use Rattle.unftp_control_commands.specs.Areas.{HasText}
use Rattle.unftp_control_c.proofs.ForwardedLineLemmas.{some_parameter, without_parameter}
use Rattle.unftp_control_c.proofs.forwarding.put_kept.Goals as goal

pub returns-then-is_empty : goal.returns-then-is_empty
returns-then-is_empty c =
    let start = c.args.area.now in
    let verb = upper c.split.result.0.now in
    rw (← c.split.ensures.verb, ← c.split.ensures.parameter)
    (subst (λ text. HasText start text c.put.new.area c.put.new.len)
    (without_parameter [] verb c.split.result.1.now
    (grind (arith, nat_tests, c.is_empty.ensures, c.if-is_empty.true)))
    (c.put.ensures start verb c.begin_upper.ensures))

pub returns : goal.returns
returns c =
    let start = c.args.area.now in
    let verb = upper c.split.result.0.now in
    let parameter = c.split.result.1.now in
    rw (← c.split.ensures.verb, ← c.split.ensures.parameter)
    (subst (λ text. HasText start text c.put-4.new.area c.put-4.new.len)
    (some_parameter [] verb parameter
    (grind (arith, nat_tests, c.is_empty.ensures, c.if-is_empty.false)))
    (c.put-4.ensures start ((verb ++ SP ∷ []) ++ parameter)
    (c.put-3.ensures start (verb ++ SP ∷ [])
    (c.put-2.ensures start verb c.begin_upper.ensures))))
