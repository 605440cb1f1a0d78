use Rattle.std.proofs.Common.{◌≡◌, ◌==◌, ◌-◌, false, sym, subst, ◌∙◌, length, length-append, length-drop, ap, ne_eqb, arith}
use Rattle.unftp_control_defs.specs.ReplyReader.{with_crlf}
use Rattle.unftp_control_defs.specs.Bytes.{crlf}
use Rattle.unftp_control_read.specs.Search.{IsBegun}
use Rattle.unftp_control_read.proofs.LineLemmas.{lacks_all}
use Rattle.unftp_control_read.proofs.SearchLemmas.{all_searched, after_is_drop}
use Rattle.unftp_control_read.proofs.search.Search.find_front.Goals as goal

pub loop-line-preserved : goal.loop-line-preserved
loop-line-preserved c =
    let i = c.loop-line.invariant in
    let bytes = c.args.bytes.now in
    let line = c.in-Some.line.now in
    let after = c.in-Some.after.now in
    let rest = after_is_drop bytes line c.loop-line.self.line (sym i.rest ∙ c.in-Some.ensures.cut) in
    let cut = ap length c.in-Some.ensures.cut in
    let passed : (length bytes - length after == 0) ≡ false =
    ne_eqb (length bytes - length after) 0 (λ none. omega (
      arith,
      none,
      cut,
      i.within.0,
      i.within.1,
      ap length i.rest,
      length-drop c.loop-line.self.line bytes,
      length-append (with_crlf line) after,
      length-append line crlf,
    )) in
    record {
      within = (omega arith, omega arith);
      rest = rest;
      searched = λ so.
          let at = i.searched so in
          record {
            within = (omega arith, omega arith);
            begun = rw passed (subst (IsBegun false bytes) rest
                (c.in_default-pass_line.ensures.steps (record {
                  rest = c.loop-line.rest.now;
                  begun = subst (IsBegun (c.loop-line.self.line == 0) bytes) (sym i.rest) at.begun;
                  within = omega (arith, ap length i.rest, length-drop c.loop-line.self.line bytes);
                  cut = c.in-Some.ensures.cut;
                  is_line = c.in-Some.ensures.is_line (rw i.rest at.lacks);
                })));
            lacks = λ k less. absurd (omega (arith, less));
          };
      count = omega (
        arith,
        i.count,
        i.within.0,
        i.within.1,
        cut,
        ap length i.rest,
        c.in-Some.ensures.to_it,
        length-drop c.loop-line.self.line bytes,
        length-append (with_crlf line) after,
        length-append line crlf,
      );
    }

pub returns-clause-finds : goal.returns-clause-finds
returns-clause-finds c so =
    let i = c.loop-line.invariant in
    let at = i.searched so in
    all_searched c.args.bytes.now (c.loop-line.self.line == 0) c.loop-line.rest.now
    (subst (IsBegun (c.loop-line.self.line == 0) c.args.bytes.now) (sym i.rest) at.begun)
    (lacks_all c.loop-line.rest.now (c.in_default.ensures.none (rw i.rest at.lacks)))

pub returns-clause-searched : goal.returns-clause-searched
returns-clause-searched c so =
    let i = c.loop-line.invariant in
    let at = i.searched so in
    record {
      within = (omega (arith, i.within.0, i.within.1), omega arith);
      begun = at.begun;
      lacks = rw (sym (length-drop c.loop-line.self.line c.args.bytes.now), ← i.rest)
          (c.in_default.ensures.none (rw i.rest at.lacks));
    }
