use Rattle.std.proofs.Common.{[], ◌∷◌, codes, refl, arith}
use Rattle.std.specs.Str.{is_utf8, chars}
use Rattle.std.specs.Str.Lossy.{utf8_lossy, utf8_valid_len, utf8_error_len}
use Rattle.example_callers.proofs.examples.log.all_is_logged.Goals as goal

pub returns-clause-whole : goal.returns-clause-whole
unfolding is_utf8 chars utf8_lossy utf8_valid_len utf8_error_len lib.Utf8.encode
returns-clause-whole c = record {
  pieces = codes "NOOP\r\nNO" ∷ [];
  were_read = record {
    given = record { given = refl; known = tt };
    reads = refl;
    sizes = ((omega arith, omega arith), tt);
  };
  sent = record {
    written = record { taken = refl; known = refl };
    no_failure = refl;
    flushed = omega arith;
  };
  reads_failed = refl;
}
