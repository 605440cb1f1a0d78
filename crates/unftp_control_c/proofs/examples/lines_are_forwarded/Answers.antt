use Rattle.std.proofs.Common.{◌≡◌, codes, [], refl, ap, ◌∙◌, get_or, arith}
use Rattle.std.specs.Str.{is_utf8, chars}
use Rattle.std.specs.Str.Lossy.{utf8_lossy, utf8_valid_len, utf8_error_len}
use Rattle.unftp_control_defs.specs.FtpCommand.{FtpCommand, TypeCode, Refusal, InvalidCommand, InvalidEol, InvalidUtf8}
use Rattle.unftp_control_defs.specs.Lines.{IsLine}
use Rattle.unftp_control_defs.specs.Forwarded.{forwarded_line}
use Rattle.unftp_control_defs.proofs.LineLemmas.{line_first}
use Rattle.unftp_control_c.specs.Numbers.{refusal_status}
use Rattle.unftp_control_c.specs.declared.status.Status.TheVariants.{OutOfMemory}
use Rattle.unftp_control_c.proofs.examples.lines_are_forwarded.Goals as goal

not_memory : (refusal : Refusal) → OutOfMemory ≡ refusal_status refusal → ⊥
not_memory InvalidCommand e = cc
not_memory InvalidUtf8 e = cc
not_memory InvalidEol e = cc

kept : (command : FtpCommand) → forwarded_line (codes "type a\n") command ≡ codes "TYPE a\r\n"
kept command = refl

not_a_line : ¬ IsLine (codes "TYPE A")
not_a_line line = let all = (line_first (codes "TYPE A") [] line).0 in cc

pub returns : goal.returns
unfolding is_utf8 chars utf8_lossy utf8_valid_len utf8_error_len lib.Utf8.encode
returns c = record {
  parameter = (TypeCode, refl, refl);
  other_parameter = λ sent. let byte = ap (λ bytes. get_or bytes 5 0) (sent.2 ∙ kept sent.0) in
      omega (arith, byte);
  no_line_feed = not_a_line;
  refusal = (InvalidCommand, refl, refl);
  memory = λ out. not_memory out.0 out.2;
  not_sent = not_a_line;
  refused = λ sent. not_a_line sent.0;
  level = tt;
  no_value = refl;
}
