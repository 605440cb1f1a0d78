-- What a search of a `LineFinder` leaves.
use Rattle.std.proofs.Common.{◌≡◌, ◌≢◌, ℕ, ◌+◌, ◌-◌, ◌/◌, ◌^◌, ◌<◌, ◌≤◌, [], ◌∷◌, length, take, drop, None, Some, inl, inr, refl, sym, ap, subst, ◌∙◌, arith, length-drop, ne_eqb}
use lib.Count.{count_trailing_zeros}
use Rattle.std.proofs.Math.Seq.{take-length}
use Rattle.unftp_control_defs.specs.Bytes.{Bytes, LF, Lacks}
use Rattle.unftp_control_codecs.specs.declared.scan.Block.{Block}
use Rattle.unftp_control_codecs.specs.Finder.{Finder, GoesOnAfter, HasCompared}
use Rattle.unftp_control_codecs.specs.LineFeed.{IsBlock, line_feed_from, line_feeds}
use Rattle.unftp_control_codecs.proofs.BlockLemmas.{first_of, none_at_end, shows_after}
use Rattle.unftp_control_codecs.proofs.LineFeedLemmas.{finds_feed, none_among, FindsFeed}

none_shown : (bytes : Bytes) → Lacks LF bytes → line_feeds bytes ≡ 0
none_shown [] lacks = refl
none_shown (b ∷ bytes) lacks =
    rw (ne_eqb b LF lacks.0) (omega (arith, none_shown bytes lacks.1))

-- where it knows of no line feed, the search goes on after what it has compared
pub none_known : {old : Finder} {bytes : Bytes} → HasCompared old bytes → old.line_feeds ≡ 0
    → line_feed_from bytes 0 ≡ line_feed_from bytes old.compared
none_known {old} {bytes} known none =
    none_among bytes 0 old.compared (omega (arith, known.within)) (sym known.shows ∙ none)
    ∙ ap (line_feed_from bytes) (omega arith)

-- It goes on after the first line feed of a block, or at the end.
module _ {bytes : Bytes} {block : Block} (is : IsBlock block bytes)
    (before : line_feed_from bytes 0 ≡ line_feed_from bytes block.start) where
  abbrev pub first : ℕ
  first = count_trailing_zeros 64 block.line_feeds

  pub first_found : block.line_feeds ≢ 0 → Some (block.start + first) ≡ line_feed_from bytes 0
  first_found some = sym (before ∙ (first_of is some).1)

  module _ (old new : Finder) (never_fewer : old.tests ≤ new.tests)
      (once : new.tests + old.compared ≡ old.tests + (block.start + block.length)) where
    pub goes_on-none : block.start ≡ length bytes → block.length ≡ 0
        → new.compared ≡ block.start → new.line_feeds ≡ 0 → GoesOnAfter 0 old bytes new
    goes_on-none end empty compared none =
        let found : line_feed_from bytes 0 ≡ None = before ∙ none_at_end bytes block.start end in
        let lacks : FindsFeed bytes 0 None = subst (FindsFeed bytes 0) found (finds_feed bytes 0) in
        record {
          rest = record {
            within = omega (arith, compared, end);
            shows = none ∙ sym (none_shown bytes (lacks tt)) ∙ ap line_feeds (sym (take-length bytes))
                ∙ ap (λ n. line_feeds (take n bytes)) (sym (compared ∙ end));
            few = inl none;
          };
          once = omega (arith, once, empty, compared);
          never_fewer = never_fewer;
        }

    pub goes_on-some : block.line_feeds ≢ 0 → new.compared ≡ block.length - (first + 1)
        → new.line_feeds ≡ block.line_feeds / 2 ^ (first + 1)
        → GoesOnAfter (block.start + first + 1) old bytes new
    goes_on-some some compared shown =
        let within : first < block.length = (first_of is some).0 in
        let few : new.compared ≤ 31 = omega (arith, compared, is.few) in record {
          rest = record {
            within = omega (
              arith,
              compared,
              is.within,
              within,
              length-drop (block.start + first + 1) bytes,
            );
            shows = shown ∙ shows_after is (first + 1) (omega (arith, within))
                ∙ ap (λ n. line_feeds (take n (drop (block.start + (first + 1)) bytes))) (sym compared)
                ∙ ap (λ n. line_feeds (take new.compared (drop n bytes))) (omega arith);
            few = inr few;
          };
          once = omega (arith, once, compared, within);
          never_fewer = never_fewer;
        }
