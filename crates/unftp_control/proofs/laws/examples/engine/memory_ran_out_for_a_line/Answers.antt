use Rattle.std.proofs.Common.{[], ◌∷◌, codes, refl, arith, rules}
use Rattle.std.specs.Fmt.{digits}
use Rattle.std.specs.Str.{is_utf8, chars}
use Rattle.std.specs.Str.Lossy.{utf8_lossy, utf8_valid_len, utf8_error_len}
use Rattle.unftp_control_defs.specs.Events.{Command}
use Rattle.unftp_control_defs.specs.FtpCommand.{User}
use Rattle.unftp_control_codecs.specs.Memory.{MayTakeMemory}
use Rattle.unftp_control_serve.specs.Endings.{LineMemory}
use Rattle.unftp_control.proofs.laws.examples.engine.memory_ran_out_for_a_line.Goals as goal

pub returns-clause-a_field : goal.returns-clause-a_field
unfolding digits is_utf8 chars utf8_lossy utf8_valid_len utf8_error_len lib.Utf8.encode
returns-clause-a_field c = record {
  later = Command (User (codes "a")) ∷ [];
  split = refl;
  sent = [];
  cause = LineMemory;
  means = tt;
  ended = record {
    ends_at = refl;
    given = record {
      written = record { taken = refl; known = refl };
      flushed = omega arith;
      write_failed = refl;
      handler_failed = refl;
    };
  };
  next_line = λ at_line. (refl, omega arith);
}

noop_takes_none : MayTakeMemory (codes "NOOP\r\n") → ⊥
noop_takes_none takes = search rules

pub returns-clause-no_field : goal.returns-clause-no_field
returns-clause-no_field c = λ before after v at_line. noop_takes_none (v.next_line at_line).1
