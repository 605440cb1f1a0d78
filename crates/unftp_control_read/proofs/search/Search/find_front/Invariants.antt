use Rattle.std.proofs.Common.{◌≡◌, ◌+◌, length, drop}
use Rattle.unftp_control_read.specs.Search.{IsSearched, IsSearchWithin}
use Rattle.unftp_control_read.proofs.search.Search.find_front.Given as goal

abbrev pub invariant-loop-line : goal.invariant-loop-line
invariant-loop-line l = record {
  within : IsSearchWithin l.self (length l.bytes);
  rest : l.rest ≡ drop l.self.line l.bytes;
  searched : IsSearched l.bytes l.fn.self → IsSearched l.bytes l.self;
  count : l.self.scanned + l.fn.self.offset ≡ l.fn.self.scanned + l.self.offset;
}

abbrev pub decreases-loop-line : goal.decreases-loop-line
decreases-loop-line l = length l.rest
