use Rattle.std.proofs.Common.{map, ◌≡◌, ℕ, [], ◌∷◌, codes, refl, ap, arith, lit<, lit≤, List}
use Rattle.std.specs.Fmt.{digits}
use Rattle.unftp_control_defs.specs.FtpReply.{Nothing, CodeAndMsg}
use Rattle.unftp_control_defs.specs.ReplyReader.{AllReplies}
use Rattle.unftp_control_defs.specs.Bytes.{Bytes}
use Rattle.unftp_control_defs.proofs.LackLemmas.{Lacks-test}
use Rattle.unftp_control_defs.proofs.ReplyLemmas.{front_within}
use Rattle.unftp_control_defs.proofs.EncodingLemmas.{ReadsBack-encoded}
use Rattle.unftp_control.proofs.ReadExampleLemmas.{malformed_is_no_front}
use Rattle.unftp_control.proofs.laws.examples.definitions.reading.replies_are_read_back_so.Goals as goal

pub returns : goal.returns
unfolding digits
returns c = record {
  nothing = ReadsBack-encoded (Nothing ∷ []) (tt, tt);
  two = ReadsBack-encoded (CodeAndMsg 200 (codes "a") ∷ Nothing ∷ CodeAndMsg 221 [] ∷ [])
      (((lit≤ tt, lit< tt), Lacks-test 10 (codes "a") refl), (tt, (((lit≤ tt, lit< tt), tt), tt)));
  not_written = λ back. let within = front_within _ _ _ _ back.0.1 in
      omega (arith, within.0, within.1);
  other_text = λ back. let same = ap (map (λ (reply : ℕ × List Bytes). reply.1))
      (one ((200, codes "ab" ∷ []) ∷ []) back.0) in cc;
  second_left_out = λ back. let same = both ((200, codes "a" ∷ []) ∷ []) back.0 in cc;
  line_end_in_the_text = λ back. let same = both ((200, codes "a\r\n221" ∷ []) ∷ []) back.0 in cc;
  four_digits = λ back. malformed_is_no_front (codes "1000\r\n") refl
      (1000, [] ∷ [], back.0.0, back.0.1);
  all_but_one = λ back. let same = both ((200, codes "a" ∷ []) ∷ []) back in cc;
}
  where
    one : (others : List (ℕ × List Bytes)) → AllReplies (codes "200 a\r\n") others
        → others ≡ (200, codes "a" ∷ []) ∷ []
    one = (ReadsBack-encoded (CodeAndMsg 200 (codes "a") ∷ [])
        (((lit≤ tt, lit< tt), Lacks-test 10 (codes "a") refl), tt)).1

    both : (others : List (ℕ × List Bytes)) → AllReplies (codes "200 a\r\n221\r\n") others
        → others ≡ (200, codes "a" ∷ []) ∷ (221, [] ∷ []) ∷ []
    both = (ReadsBack-encoded (CodeAndMsg 200 (codes "a") ∷ CodeAndMsg 221 [] ∷ [])
        (((lit≤ tt, lit< tt), Lacks-test 10 (codes "a") refl), (((lit≤ tt, lit< tt), tt), tt))).1
