use Rattle.std.proofs.Common.{◌≡◌, ◌∷◌, [], codes, arith, length, refl, subst, sym, ◌∙◌}
use Rattle.std.proofs.lemmas.Bool.{false≢true}
use Rattle.unftp_control_defs.specs.ReplyReader.{FrontReply, HasFront}
use Rattle.unftp_control_defs.proofs.ReplyLemmas.{FrontReply-front_of, FrontReply-unique, none_of_nothing}
use Rattle.unftp_control_proxy.proofs.examples.replies_are_given.Goals as goal

pub returns : goal.returns
returns c = record {
  passed = λ limits. (
    record { code = 220; lines = codes "a" ∷ []; bytes = codes "220 a\r\n" },
    refl,
    refl,
    record {
      owed = refl;
      takes = record {
        used = 7;
        front = FrontReply-front_of refl;
        within = tt;
        bytes_are = refl;
        later_is = refl;
      };
      whole = FrontReply-front_of refl;
      same_code = refl;
      later_is = refl;
    },
  );
  dropped = λ before later gives. none_of_nothing (subst HasFront (sym gives.2)
      (_, _, _, gives.3.whole));
  owed = λ limits out later gives. absurd (false≢true (sym gives.2.none_owed));
  too_early = λ limits out later gives. absurd (false≢true (sym gives.2.none_owed));
  other = λ limits. record {
    came = record { code = 220; lines = codes "a" ∷ []; bytes = codes "220 a\r\n" };
    given = record { code = 220; lines = codes "b" ∷ []; bytes = codes "220 b\r\n" };
    bytes = refl;
    appended = refl;
    passes = record {
      owed = refl;
      takes = record {
        used = 7;
        front = FrontReply-front_of refl;
        within = tt;
        bytes_are = refl;
        later_is = refl;
      };
      whole = FrontReply-front_of refl;
      same_code = refl;
      later_is = refl;
    };
  };
  other_code = λ limits later gives.
      let came : FrontReply (codes "220 a\r\n") 220 (codes "a" ∷ []) 7 = FrontReply-front_of refl in
      let given : FrontReply (codes "120 b\r\n") 120 (codes "b" ∷ []) 7 = FrontReply-front_of refl in
      let passes = gives.passes in
      let whole = subst (λ bytes. FrontReply bytes gives.given.code gives.given.lines
      (length bytes)) gives.bytes passes.whole in
      let same : 220 ≡ 120 = sym (FrontReply-unique passes.takes.front came).0
      ∙ sym passes.same_code ∙ (FrontReply-unique whole given).0 in absurd (omega arith);
}
