-- What is found of the first reply is one thing.
use Rattle.std.proofs.Common.{◌≡◌, ℕ, Option, Some, None, Result, Ok, Err, refl}
use Rattle.unftp_control_defs.specs.Bytes.{Bytes}
use Rattle.unftp_control_defs.specs.ReplyReader.{HasFront, IsMalformed}
use Rattle.unftp_control_defs.specs.ReplyLimit.{IsTooLongReply, within_limit}
use Rattle.unftp_control_defs.proofs.ReplyLemmas.{FrontReply-unique, front_is_formed}
use Rattle.unftp_control_defs.proofs.ReplyLimitLemmas.{FrontReply-within, IsMalformed-within}
use Rattle.unftp_control_read.specs.ReplyDecoding.{BeginsWithReply, FindsFirst, IsShortPart}
use Rattle.unftp_control_read.specs.declared.decoder.FirstReply.{FirstReply}
use Rattle.unftp_control_read.specs.declared.errors.NextReplyError.{NextReplyError}
use Rattle.unftp_control_read.specs.declared.errors.NextReplyError.TheVariants.{Malformed, TooLong, OutOfMemory}
use Rattle.unftp_control_read.proofs.DecoderLemmas.{long_is_part, short_is_not_long}

module _ (limit : Option ℕ) (bytes : Bytes) where
  front : {code used : ℕ} → BeginsWithReply limit bytes code used → HasFront (within_limit limit bytes)
  front {code} {used} begins =
      (code, begins.lines, used, (FrontReply-within limit bytes).1 (begins.front, begins.within))

  some_is_no_part : {code used : ℕ} → BeginsWithReply limit bytes code used → ¬ IsShortPart limit bytes
  some_is_no_part {code} {used} begins part =
      part.0.0 (code, begins.lines, used, begins.front)

  some_is_formed : {code used : ℕ} → BeginsWithReply limit bytes code used
      → ¬ IsMalformed (within_limit limit bytes)
  some_is_formed begins bad = front_is_formed (within_limit limit bytes) (front begins) bad

  some_is_not_long : {code used : ℕ} → BeginsWithReply limit bytes code used
      → ¬ IsTooLongReply limit bytes
  some_is_not_long begins long = (long_is_part limit bytes long).0 (front begins)

  part_is_formed : IsShortPart limit bytes → ¬ IsMalformed (within_limit limit bytes)
  part_is_formed part bad = part.0.1 (IsMalformed-within limit bytes bad)

  part_is_not_long : IsShortPart limit bytes → ¬ IsTooLongReply limit bytes
  part_is_not_long part long = short_is_not_long limit bytes part.1 long

  malformed_is_not_long : IsMalformed (within_limit limit bytes) → ¬ IsTooLongReply limit bytes
  malformed_is_not_long bad long = (long_is_part limit bytes long).1 bad

  pub one_first : (found other : Result (Option FirstReply) NextReplyError)
      → FindsFirst limit bytes found → FindsFirst limit bytes other → found ≡ other
  one_first (Ok (Some a)) (Ok (Some b)) f g =
      let same = FrontReply-unique f.front g.front in
      λ i. Ok (Some (record { code = same.0 i; length = same.2 i }))
  one_first (Ok (Some a)) (Ok None) f g = absurd (some_is_no_part f g)
  one_first (Ok (Some a)) (Err Malformed) f g = absurd (some_is_formed f g)
  one_first (Ok (Some a)) (Err TooLong) f g = absurd (some_is_not_long f g)
  one_first (Ok (Some a)) (Err OutOfMemory) f g = absurd g
  one_first (Ok None) (Ok (Some b)) f g = absurd (some_is_no_part g f)
  one_first (Ok None) (Ok None) f g = refl
  one_first (Ok None) (Err Malformed) f g = absurd (part_is_formed f g)
  one_first (Ok None) (Err TooLong) f g = absurd (part_is_not_long f g)
  one_first (Ok None) (Err OutOfMemory) f g = absurd g
  one_first (Err Malformed) (Ok (Some b)) f g = absurd (some_is_formed g f)
  one_first (Err Malformed) (Ok None) f g = absurd (part_is_formed g f)
  one_first (Err Malformed) (Err Malformed) f g = refl
  one_first (Err Malformed) (Err TooLong) f g = absurd (malformed_is_not_long f g)
  one_first (Err Malformed) (Err OutOfMemory) f g = absurd g
  one_first (Err TooLong) (Ok (Some b)) f g = absurd (some_is_not_long g f)
  one_first (Err TooLong) (Ok None) f g = absurd (part_is_not_long g f)
  one_first (Err TooLong) (Err Malformed) f g = absurd (malformed_is_not_long g f)
  one_first (Err TooLong) (Err TooLong) f g = refl
  one_first (Err TooLong) (Err OutOfMemory) f g = absurd g
  one_first (Err OutOfMemory) other f g = absurd f
