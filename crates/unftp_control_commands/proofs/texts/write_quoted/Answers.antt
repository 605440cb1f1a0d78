use Rattle.std.proofs.Common.{◌++◌, [], ◌∷◌, refl, subst}
use Rattle.unftp_control_commands.specs.Areas.{HasText}
use Rattle.unftp_control_commands.specs.ReplyTexts.{QUOTE}
use Rattle.unftp_control_commands.proofs.AreaLemmas.{nothing}
use Rattle.unftp_control_commands.proofs.QuoteLemmas.{last_part, next_part}
use Rattle.unftp_control_commands.proofs.texts.write_quoted.Goals as goal

pub quotes-init : goal.quotes-init
quotes-init c = (QUOTE ∷ [], c.put.ensures c.args.area.now [] (nothing c.args.area.now), refl)

pub quotes-preserved : goal.quotes-preserved
quotes-preserved c =
    let text = c.quotes.invariant.0 in
    let part = c.in-Some.part.now in (
      (text ++ part) ++ QUOTE ∷ QUOTE ∷ [],
      c.put-in-Some-2.ensures c.args.area.now (text ++ part)
          (c.put-in-Some.ensures c.args.area.now text c.quotes.invariant.1),
      next_part text part c.in-Some.after.now c.in-Some.ensures.1 c.in-Some.ensures.0
          c.quotes.invariant.2,
    )

pub returns : goal.returns
returns c =
    let text = c.quotes.invariant.0 in
    let rest = c.quotes.rest.now in
    subst (λ text. HasText c.args.area.now text c.put-3.new.area c.put-3.new.len)
    (last_part text rest c.in_default.ensures c.quotes.invariant.2)
    (c.put-3.ensures c.args.area.now (text ++ rest)
    (c.put-2.ensures c.args.area.now text c.quotes.invariant.1))
