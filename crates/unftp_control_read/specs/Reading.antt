-- What the answers of the reader mean for the bytes.
use Rattle.std.specs.Prelude.{◌≡◌, ◌<◌, ◌≤◌, ℕ, List, map, length}
use Rattle.std.specs.declared.vec.Vec.{Vec}
use Rattle.std.specs.declared.alloc.Global.{Global}
use Rattle.unftp_control_defs.specs.Bytes.{Bytes}
use Rattle.unftp_control_defs.specs.ComputedReply.{Opening, One, Several}
use Rattle.unftp_control_defs.specs.ReplyReader.{FrontReply, HasFront, IsMalformed, IsPartial}
use Rattle.unftp_control_read.specs.declared.Front.{Front}
use Rattle.unftp_control_read.specs.declared.Front.TheVariants.{Whole, Partial}
use Rattle.unftp_control_read.specs.declared.ReadReplyError.{ReadReplyError}
use Rattle.unftp_control_read.specs.declared.ReadReplyError.TheVariants.{Malformed, OutOfMemory}
use Rattle.unftp_control_read.specs.declared.FoundReply.{FoundReply}
use Rattle.unftp_control_read.specs.declared.FoundReply.TheVariants as found
use Rattle.unftp_control_read.specs.declared.opening.AfterCode.{AfterCode}
use Rattle.unftp_control_read.specs.declared.opening.AfterCode.TheVariants as after

-- the bytes of the lines, whatever their capacity
abbrev pub contents : Vec (Vec ℕ Global) Global → List Bytes
contents lines = map (λ line. line.items) lines.items

-- what an answer holds, whatever the capacity of its lines
pub data FrontContent : Type 0 where
  whole : ℕ → List Bytes → ℕ → FrontContent
  partial : FrontContent

abbrev pub front_meant : Front → FrontContent
front_meant (Whole code lines used) = whole code (contents lines) used
front_meant Partial = partial

-- what an answer means for the bytes
abbrev pub ReturnsFront : Bytes → Front → Type 0
ReturnsFront bytes (Whole code lines used) = FrontReply bytes code (contents lines) used
ReturnsFront bytes Partial = IsPartial bytes

-- the answer is the whole reply of this code and these lines
abbrev pub IsWhole : ℕ → List Bytes → ℕ → Front → Type 0
IsWhole code lines used (Whole found read taken) =
    (found ≡ code) × (contents read ≡ lines) × (taken ≡ used)
IsWhole code lines used Partial = ⊥

-- a whole reply takes bytes, and no more than there are
abbrev pub IsWithin : Bytes → Front → Type 0
IsWithin bytes (Whole code lines used) = (0 < used) × (used ≤ length bytes)
IsWithin bytes Partial = Unit {0}

-- what a refusal means for them: memory is asked for only where they begin with a reply
abbrev pub ReturnsRefusal : Bytes → ReadReplyError → Type 0
ReturnsRefusal bytes Malformed = IsMalformed bytes
ReturnsRefusal bytes OutOfMemory = HasFront bytes

-- what an answer without lines means for them; a whole reply takes no more than there is
abbrev pub ReturnsFound : Bytes → FoundReply → Type 0
ReturnsFound bytes (found.Whole code used) =
    ((lines : List Bytes) × FrontReply bytes code lines used) × (0 < used) × (used ≤ length bytes)
ReturnsFound bytes found.Partial = IsPartial bytes
ReturnsFound bytes found.Malformed = IsMalformed bytes

-- the answer is a whole reply of this code and length
abbrev pub IsFound : ℕ → ℕ → FoundReply → Type 0
IsFound code used (found.Whole read taken) = (read ≡ code) × (taken ≡ used)
IsFound code used _ = ⊥

-- what follows a code: the one text of a reply, or the first of several
abbrev pub opened_by : ℕ → AfterCode → Opening
opened_by code (after.One text) = One code text.now
opened_by code (after.Several text) = Several code text.now
