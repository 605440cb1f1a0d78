-- How much room a call's line needs.
use Rattle.std.proofs.Common.{◌≡◌, ◌≢◌, ℕ, ◌+◌, ◌*◌, ◌≤◌, length, Some, sym, ◌∙◌, arith}
use Rattle.std.proofs.lemmas.Bool.Decides.{nat_tests}
use Rattle.std.proofs.lemmas.Option.{same_Some}
use Rattle.unftp_control_codecs.specs.LineFeed.{line_feed_from}
use Rattle.unftp_control_c.specs.declared.status.Status.TheVariants.{NoRoom}
use Rattle.unftp_control_c.specs.Next.{NextCall, Left, given_for}
use Rattle.unftp_control_c.specs.Numbers.{status_number}
use Rattle.unftp_control_c.proofs.AddressRoomLemmas.{address_room}
use Rattle.unftp_control_c.proofs.CallLemmas.{FirstEvent, NextLeft, gave, no_room, gives_some, left_so}
use Rattle.unftp_control_c.proofs.FoundRoomLemmas.{found_room}
use Rattle.unftp_control_c.proofs.ParameterRoomLemmas.{parameter_room}
use Rattle.unftp_control_c.proofs.RoomLemmas.{lengths, written_room}
use Rattle.unftp_control_c.proofs.ReplyRoomLemmas.{quoted_room, reply_room}
use Rattle.unftp_control_c.proofs.laws.rooms_are_bounded.Goals as goal

ends_small : {call : NextCall} (k : ℕ) → line_feed_from call.bytes call.connection.offset ≡ Some k
    → (first : FirstEvent call) → lengths first.event ≤ 3 * (k + 1)
ends_small k at first =
    let same : first.ends.line_feed ≡ k = same_Some _ _ (sym first.ends.at ∙ at) in
    omega (arith, first.small, first.ends.ends, same)

module _ (call : NextCall) where
  bounded : (left : Left) (k : ℕ)
      → line_feed_from call.bytes call.connection.offset ≡ Some k
      → NextLeft call left → left.line.name_len + left.line.value_len ≤ 3 * (k + 1)
  bounded _ k at (gave first room) = ends_small k at first
  bounded _ k at (no_room first small) = ends_small k at first
  bounded _ k at _ = omega arith

  has_room : (left : Left) → 1 ≤ call.connection.limit
      → 3 * call.connection.limit ≤ length call.area
      → NextLeft call left → left.result ≢ status_number NoRoom
  has_room _ some wide (gave first room) = (gives_some _ first.some).1
  has_room _ some wide (no_room first small) = λ is.
      let least = written_room first.line (given_for first.event) in
      grind (arith, nat_tests, small, wide, first.limited some, least)
  has_room _ some wide _ = λ is. omega (arith, is)

-- the law
pub returns : goal.returns
returns c = record {
  line = λ call left k leaves at. bounded call left k at (left_so call left leaves);
  limit = λ call left leaves some wide. has_room call left some wide (left_so call left leaves);
  reply_of_a_line = λ code text out. (reply_room code text out).1;
  reply = λ code text out. (reply_room code text out).0;
  quoted = quoted_room;
  lines = found_room;
  parameter = parameter_room;
  address = address_room;
}
