-- The pending bytes of a connection with a limit.
use Rattle.std.proofs.Common.{◌≡◌, ◌+◌, ◌<◌, ◌≤◌, false, ◌⊎◌, inl, inr, length, drop, refl, arith, length-drop}
use Rattle.unftp_control_defs.specs.Bytes.{Bytes}
use Rattle.unftp_control_codecs.specs.declared.FirstLine.TheVariants.{Incomplete}
use Rattle.unftp_control_codecs.specs.Codec.{is_too_long}
use Rattle.unftp_control_c.specs.declared.status.Status.TheVariants.{More}
use Rattle.unftp_control_c.specs.Next.{NextCall, Left, codec_of}
use Rattle.unftp_control_c.specs.Numbers.{status_number}
use Rattle.unftp_control_c.specs.Taking.{Caller, after_call, caller_call}
use Rattle.unftp_control_c.proofs.CallLemmas.{NextLeft, invalid, asks, gave, gives_some, left_so, within_limit}
use Rattle.unftp_control_c.proofs.NextLemmas.{counts_of}
use Rattle.unftp_control_c.proofs.laws.pending_bytes_are_bounded.Goals as goal

module _ (caller : Caller) (some : 1 ≤ caller.connection.limit) (area : Bytes) where
  few : (left : Left) → NextLeft (caller_call caller area) left → left.result ≡ status_number More
      → length (after_call caller left).bytes < caller.connection.limit
  few _ (asks n ok found) is =
      by_kept (counts_of (caller_call caller area) ok (Incomplete n) found).kept_short
    where
      by_kept : (n ≡ length caller.bytes)
          ⊎ (is_too_long (codec_of caller.connection) (length caller.bytes + 1) ≡ false)
          → length (drop n caller.bytes) < caller.connection.limit
      by_kept (inl all) = omega (arith, all, some, length-drop n caller.bytes)
      by_kept (inr short) = omega (
        arith,
        within_limit caller.connection (length caller.bytes + 1) some short,
        length-drop n caller.bytes,
      )
  few _ (gave first room) is = absurd ((gives_some _ first.some).0 is)
  few _ _ is = absurd (omega (arith, is))

-- no call changes the limit
same_limit : (call : NextCall) (left : Left) → NextLeft call left
    → left.connection.limit ≡ call.connection.limit
same_limit call _ (invalid not_valid) = refl
same_limit call _ _ = refl

-- the law
pub returns : goal.returns
returns c = record {
  fewer = λ caller area left leaves more some.
      few caller some area left (left_so (caller_call caller area) left leaves) more;
  limit = λ caller area left leaves.
      same_limit (caller_call caller area) left (left_so (caller_call caller area) left leaves);
}
