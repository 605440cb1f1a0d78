use Rattle.std.proofs.Common.{◌≡◌, map, string_bytes}
use Rattle.std.specs.Iterator.{IsFinite}
use Rattle.unftp_control_message.proofs.reply.reply.owned_lines.Given as goal

-- the lines so far are the lines that were taken
abbrev pub invariant-loop-line : goal.invariant-loop-line
invariant-loop-line g l = record {
  next : g.I.IntoIter.Iterator.can_next l.rest;
  ends : IsFinite (g.I.IntoIter.Iterator.remaining l.rest);
  texts : map string_bytes l.owned.items ≡ map (λ text. text.now) l.yielded;
}
