-- What contracts see of an engine.
use Rattle.std.specs.Prelude.{◌≡◌, ℕ, ◌≤◌, ◌<◌, ◌+◌, max, Bool, true, false, if◌then◌else◌, [], ◌++◌, length, Option}
use Rattle.unftp_control_defs.specs.Bytes.{Bytes}
use Rattle.unftp_control_defs.specs.Lines.{incomplete_line}
use Rattle.unftp_control_defs.specs.Run.{SessionLaw, ends_for, unread, after_end}
use Rattle.unftp_control_serve.specs.Decoder.{kept_length, saturating_u64}
use Rattle.unftp_control_serve.specs.declared.engine.Phase.{Phase}
use Rattle.unftp_control_serve.specs.declared.engine.Phase.TheVariants as phase

pub record EngineState : Type 0 where
  -- the bytes after the last line feed; none once the run has ended
  pub incomplete : Bytes
  -- how many bytes `left` reports
  pub left : ℕ
  -- whether the engine has failed, and whether the run has ended: never both
  pub failed : Bool
  pub finished : Bool
  -- how many bytes were scanned for a line feed since it was made
  pub scanned : ℕ
  -- how many bytes a line may have, its LF counted, if that is limited
  pub limit : Option ℕ
  -- how many bytes the buffer holds, and the most that it has held since the engine was made
  pub buffered : ℕ
  pub held : ℕ

-- of an engine that was fed nothing
abbrev pub fresh : Option ℕ → EngineState
fresh limit = record {
  incomplete = [];
  left = 0;
  failed = false;
  finished = false;
  scanned = 0;
  limit = limit;
  buffered = 0;
  held = 0;
}

-- in which phase an engine has failed, and in which its run has ended
abbrev pub has_failed : Phase → Bool
has_failed phase.Failed = true
has_failed _ = false

abbrev pub has_finished : Phase → Bool
has_finished phase.Finished = true
has_finished _ = false

-- it takes the lines of what it is fed
abbrev pub IsRunning : EngineState → Type 0
IsRunning engine = (engine.failed ≡ false) × (engine.finished ≡ false)

-- the pending bytes and a piece after them
abbrev pub bytes_with : EngineState → Bytes → Bytes
bytes_with engine piece = engine.incomplete ++ piece

-- there is no room for a piece: the buffer would hold more bytes than it ever did
abbrev pub LacksPieceRoom : EngineState → Bytes → Type 0
LacksPieceRoom engine piece =
    (¬ (piece ≡ [])) × (engine.held < engine.buffered + length piece)

-- whether the run of a handler over these ends
abbrev pub ends_with : {S : Type 0} → EngineState → SessionLaw S → S → Bytes → Bool
ends_with engine law s piece = ends_for engine.limit law s (bytes_with engine piece)

-- the bytes after its last line, and those of them that come after its end
abbrev pub unread_with : {S : Type 0} → EngineState → SessionLaw S → S → Bytes → Bytes
unread_with engine law s piece = unread engine.limit law s (bytes_with engine piece)

abbrev pub after_end_with : {S : Type 0} → EngineState → SessionLaw S → S → Bytes → Bytes
after_end_with engine law s piece = after_end engine.limit law s (bytes_with engine piece)

-- the bytes that are pending then: the incomplete line, or none after the end
abbrev pub pending_with : {S : Type 0} → EngineState → SessionLaw S → S → Bytes → Bytes
pending_with engine law s piece =
    if ends_with engine law s piece then [] else incomplete_line (bytes_with engine piece)

-- So many comparisons with a line feed were made of n bytes: as many as bytes come before the last
-- ones, and at most 31 more.
pub record AreScanned (scanned n last : ℕ) : Type 0 where
  pub once : scanned ≤ n
  pub each : n ≤ scanned + last
  pub few : scanned + last ≤ n + 31

-- What a running engine is after a piece at Ok, where so many bytes were scanned. The buffer has
-- held the piece, and holds what is kept of the pending bytes.
abbrev pub fed : {S : Type 0} → SessionLaw S → S → EngineState → Bytes → ℕ → EngineState
fed law s engine piece scanned = record {
  incomplete = pending_with engine law s piece;
  left = saturating_u64 (length (unread_with engine law s piece));
  failed = false;
  finished = ends_with engine law s piece;
  scanned = scanned;
  limit = engine.limit;
  buffered = kept_length engine.limit (pending_with engine law s piece);
  held = max engine.held (engine.buffered + length piece);
}

-- This is what it is, and as many comparisons were made as the piece has bytes, or after an end as
-- come before that, and at most 31 more.
pub record IsFed {S : Type 0} (law : SessionLaw S) (s : S) (engine : EngineState) (piece : Bytes)
    (after : EngineState) : Type 0 where
  pub is : after ≡ fed law s engine piece after.scanned
  pub scanned : AreScanned after.scanned (engine.scanned + length piece)
      (length (after_end_with engine law s piece))

-- What it is after an error: it has failed. The piece may have been held, and its bytes scanned.
pub record FailedAfter (before : EngineState) (piece : Bytes) (after : EngineState) : Type 0 where
  pub failed : after.failed ≡ true
  pub finished : after.finished ≡ false
  pub left : after.left ≡ before.left
  pub limit : after.limit ≡ before.limit
  pub scanned : (before.scanned ≤ after.scanned)
      × (after.scanned ≤ before.scanned + length piece)
  pub held : after.held ≤ max before.held (before.buffered + length piece)

-- a piece that comes after the end of the run is counted
abbrev pub more_left : EngineState → Bytes → EngineState
more_left engine piece = record engine { left = saturating_u64 (engine.left + length piece) }
