use Rattle.std.proofs.Common.{◌∙◌, ap, arith, length, refl, sym}
use Rattle.std.specs.Prelude.{vec_capacity}
use Rattle.unftp_control_serve.specs.declared.decoder.First.TheVariants as first
use Rattle.unftp_control_serve.proofs.DecoderLemmas.{few_ahead, fewer_left, line_first, line_then, long_first, long_seen, long_then, none_first, none_then}
use Rattle.unftp_control_serve.proofs.decoder.EventDecoder.search.Goals as goal

pub invariant_of-self : goal.invariant_of-self
invariant_of-self c =
    let found = c.in-Incomplete.ensures in
    let none = rw (← c.self.view_is) at c.requires in
    let rest = rw c.settle.ensures.start c.settle.ensures.bytes ∙ c.drop_front.ensures.buffer in
    none_then c.self.invariant none c.pending.ensures
    c.in-Incomplete.dropped c.drop_front.new.skipped c.settle.new.self.bytes.items
    c.settle.new.self.start (omega (arith, c.settle.ensures.start))
    (fewer_left c.in-Incomplete.dropped c.self.inside.buffer.start _
    (c.settle.ensures.bytes ∙ c.drop_front.ensures.buffer))
    rest c.drop_front.ensures.skipped found.found
    (record { codec = found.codec; goes_on = found.goes_on; ahead = found.ahead })
    (c.settle.ensures.capacity ∙ ap vec_capacity c.drop_front.ensures.bytes)

pub invariant_of-self-in-TooLong : goal.invariant_of-self-in-TooLong
invariant_of-self-in-TooLong c =
    let found = c.in-TooLong.ensures in
    let none = rw (← c.self.view_is) at c.requires in
    let left = c.drop_front-in-TooLong.ensures in
    long_then c.self.invariant none c.pending.ensures
    c.in-TooLong.length c.drop_front-in-TooLong.new.skipped
    c.drop_front-in-TooLong.new.buffer.bytes.items c.drop_front-in-TooLong.new.buffer.start
    left.within
    (omega (arith, ap (λ bytes. length bytes.items) left.bytes))
    left.buffer left.skipped found.found
    (record { codec = found.codec; goes_on = found.goes_on; ahead = found.ahead })
    (ap vec_capacity left.bytes)

pub invariant_of-self-in-Complete : goal.invariant_of-self-in-Complete
invariant_of-self-in-Complete c =
    let found = c.in-Complete.ensures in
    let none = rw (← c.self.view_is) at c.requires in
    line_then c.self.invariant none c.pending.ensures
    c.in-Complete.length found.found
    (record { codec = found.codec; goes_on = found.goes_on; ahead = found.ahead })

pub returns-in-Incomplete-clause-line : goal.returns-in-Incomplete-clause-line
returns-in-Incomplete-clause-line c =
    let none = rw (← c.self.view_is) at c.requires in
    rw (← c.self.view_is) (sym (none_first c.self.invariant none c.pending.ensures
    c.in-Incomplete.dropped c.in-Incomplete.ensures.found))

pub returns-in-TooLong-clause-found : goal.returns-in-TooLong-clause-found
returns-in-TooLong-clause-found c =
    let found = c.in-TooLong.ensures in
    let none = rw (← c.self.view_is) at c.requires in
    let left = c.drop_front-in-TooLong.ensures in
    let same_held = ap (λ bytes. length bytes.items) left.bytes in
    rw (← c.self.view_is) (long_seen c.self.invariant none c.pending.ensures
    c.in-TooLong.length c.drop_front-in-TooLong.new.skipped
    c.drop_front-in-TooLong.new.buffer.bytes.items c.drop_front-in-TooLong.new.buffer.start
    left.within (omega (arith, same_held))
    left.buffer left.skipped found.found
    (record { codec = found.codec; goes_on = found.goes_on; ahead = found.ahead }) same_held)

pub returns-in-TooLong-clause-line : goal.returns-in-TooLong-clause-line
returns-in-TooLong-clause-line c =
    let found = c.in-TooLong.ensures in
    let none = rw (← c.self.view_is) at c.requires in
    let left = c.drop_front-in-TooLong.ensures in
    let same_held = ap (λ bytes. length bytes.items) left.bytes in
    rw (← c.self.view_is) (sym (long_first c.self.invariant none c.pending.ensures
    c.in-TooLong.length c.drop_front-in-TooLong.new.skipped
    c.drop_front-in-TooLong.new.buffer.bytes.items c.drop_front-in-TooLong.new.buffer.start
    left.within (omega (arith, same_held))
    left.buffer left.skipped found.found
    (record { codec = found.codec; goes_on = found.goes_on; ahead = found.ahead })))

pub returns-in-TooLong-clause-ahead : goal.returns-in-TooLong-clause-ahead
returns-in-TooLong-clause-ahead c =
    let well = invariant_of-self-in-TooLong c in
    few_ahead _ _ _ first.TooLong well.compared_so_far well.first_is refl

pub returns-in-Complete-clause-line : goal.returns-in-Complete-clause-line
returns-in-Complete-clause-line c =
    let found = c.in-Complete.ensures in
    let none = rw (← c.self.view_is) at c.requires in
    rw (← c.self.view_is) (sym (line_first c.self.invariant none c.pending.ensures
    c.in-Complete.length found.found
    (record { codec = found.codec; goes_on = found.goes_on; ahead = found.ahead })))

pub returns-in-Complete-clause-ahead : goal.returns-in-Complete-clause-ahead
returns-in-Complete-clause-ahead c =
    let well = invariant_of-self-in-Complete c in
    few_ahead _ _ _ (first.Line c.in-Complete.length) well.compared_so_far well.first_is refl
