use Rattle.std.proofs.Common.{[], ◌∷◌, codes, refl, inl, inr, arith, length-append}
use Rattle.std.specs.List.{concat}
use Rattle.unftp_control_defs.proofs.ReplyLemmas.{FrontReply-append, FrontReply-front_of, IsPartial-front_of}
use Rattle.unftp_control.proofs.laws.examples.receiving.reads_are_needed.Goals as goal

pub returns-clause-line_end : goal.returns-clause-line_end
returns-clause-line_end c = inr record {
  first = [];
  last = codes "\n2";
  whole = refl;
  part = (IsPartial-front_of _ refl, tt);
}

pub returns-clause-whole : goal.returns-clause-whole
returns-clause-whole c (inl none) = absurd (cc)
returns-clause-whole c (inr last) = last.part.0.0 (
  211,
  codes "a" ∷ [],
  7,
  FrontReply-append (codes "211 a\r\n") (concat last.first) 211 (codes "a" ∷ []) 7
      (FrontReply-front_of refl),
)

pub returns-clause-long : goal.returns-clause-long
returns-clause-long c (inl none) = absurd (cc)
returns-clause-long c (inr last) =
    absurd (let short = last.part.1 in
    omega (arith, short, length-append (codes "211 a\r") (concat last.first)))
