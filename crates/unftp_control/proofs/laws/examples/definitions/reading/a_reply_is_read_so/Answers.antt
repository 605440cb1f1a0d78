use Rattle.std.proofs.Common.{◌≡◌, ℕ, None, List, [], ◌∷◌, ◌++◌, codes, refl, sym, ap, subst, ◌∙◌, arith, lit<, lit≤}
use Rattle.std.specs.Fmt.{digits}
use Rattle.std.specs.List.{AllByRecursion}
use Rattle.unftp_control_defs.specs.Bytes.{Bytes}
use Rattle.unftp_control_defs.specs.FtpReply.{IsPlain, CodeAndMsg}
use Rattle.unftp_control_defs.specs.ReplyReader.{ReadsBack}
use Rattle.unftp_control_defs.specs.Run.{replies, run_for, text_for}
use Rattle.unftp_control_defs.proofs.EncodingLemmas.{ReadsBack-encoded}
use Rattle.unftp_control_defs.proofs.LackLemmas.{Lacks-test}
use Rattle.unftp_control_serve.specs.Service.{AreReadBack}
use Rattle.unftp_control.specs.Snapshots.{counter}
use Rattle.unftp_control.proofs.laws.examples.definitions.reading.a_reply_is_read_so.Goals as goal

plain : AllByRecursion IsPlain (CodeAndMsg 200 (codes "OK") ∷ [])
plain = (((lit≤ tt, lit< tt), Lacks-test 10 (codes "OK") refl), tt)

pub returns : goal.returns
unfolding digits
returns c = record {
  holds = record {
    read = codes "NOOP\r\n";
    given = record { given = refl; known = tt };
    read_back = ReadsBack-encoded (replies counter 3 (run_for None counter 3 (codes "NOOP\r\n")));
  };
  only = λ before after v none is others all.
      let read : v.read ≡ codes "NOOP\r\n" =
      sym (sym is ∙ v.given.given ∙ ap (λ bytes. bytes ++ v.read) none) in
      (subst (λ read. AllByRecursion IsPlain (replies counter 3 (run_for None counter 3 read))
      → ReadsBack (text_for None counter 3 read) (replies counter 3 (run_for None counter 3 read)))
      read v.read_back plain).1 others all;
  not_of_less = λ before after v some none. cc;
}
