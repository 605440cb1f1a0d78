-- What is found is the one reply.
use Rattle.std.proofs.Common.{◌≡◌, ℕ, List, Ok, Err, Result, MatchResult, refl}
use Rattle.std.specs.Prelude.{IfOk, IfErr}
use Rattle.unftp_control_defs.specs.Bytes.{Bytes}
use Rattle.unftp_control_defs.specs.ReplyReader.{FrontReply}
use Rattle.unftp_control_defs.proofs.ReplyLemmas.{FrontReply-unique, front_is_formed}
use Rattle.unftp_control_read.specs.Reading.{IsFound, IsWhole, ReturnsFound, ReturnsFront, ReturnsRefusal}
use Rattle.unftp_control_read.specs.declared.FoundReply.{FoundReply}
use Rattle.unftp_control_read.specs.declared.FoundReply.TheVariants as found
use Rattle.unftp_control_read.specs.declared.Front.{Front}
use Rattle.unftp_control_read.specs.declared.Front.TheVariants.{Whole, Partial}
use Rattle.unftp_control_read.specs.declared.ReadReplyError.{ReadReplyError}
use Rattle.unftp_control_read.specs.declared.ReadReplyError.TheVariants.{Malformed, OutOfMemory}

module _ (bytes : Bytes) where
  -- without the lines of a reply
  pub whole_found : (r : FoundReply) → ReturnsFound bytes r → (code : ℕ) (lines : List Bytes)
      (used : ℕ) → FrontReply bytes code lines used → IsFound code used r
  whole_found (found.Whole m taken) h code lines used f =
      let same = FrontReply-unique h.0.1 f in (same.0, same.2)
  whole_found found.Partial h code lines used f = absurd (h.0 (code, lines, used, f))
  whole_found found.Malformed h code lines used f =
      absurd (front_is_formed bytes (code, lines, used, f) h)

  -- and with them
  pub whole_read : (result : Result Front ReadReplyError) → IfOk result (ReturnsFront bytes)
      → IfErr result (ReturnsRefusal bytes) → (code : ℕ) (lines : List Bytes) (used : ℕ)
      → FrontReply bytes code lines used
      → MatchResult result (λ front. IsWhole code lines used front) (λ error. error ≡ OutOfMemory)
  whole_read (Ok (Whole m ls taken)) h k code lines used f = FrontReply-unique h f
  whole_read (Ok Partial) h k code lines used f = h.0 (code, lines, used, f)
  whole_read (Err Malformed) h k code lines used f =
      absurd (front_is_formed bytes (code, lines, used, f) k)
  whole_read (Err OutOfMemory) h k code lines used f = refl
