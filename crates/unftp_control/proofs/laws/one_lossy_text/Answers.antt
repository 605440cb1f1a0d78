use Rattle.std.proofs.Common.{subst}
use Rattle.unftp_control_defs.specs.LossyText.{LossyText}
use Rattle.unftp_control.proofs.LossyTextLemmas.{LossyText-unique, LossyText-utf8_lossy, first_part-encode, first_part-scalar}
use Rattle.unftp_control.proofs.laws.one_lossy_text.Goals as goal

pub returns : goal.returns
returns c = record {
  text = λ bytes text. (
    LossyText-unique bytes text,
    λ same. subst (LossyText bytes) same
        (LossyText-utf8_lossy bytes),
  );
  character = first_part-encode;
  no_other = first_part-scalar;
}
