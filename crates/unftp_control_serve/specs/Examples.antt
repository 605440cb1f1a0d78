-- Values for the examples.
use Rattle.std.specs.Prelude.{ℕ, false, true, Some, codes}
use Rattle.unftp_control_codecs.specs.Finder.{Finder, new_finder}
use Rattle.unftp_control_serve.specs.Decoder.{Pending}
use Rattle.unftp_control_serve.specs.Engine.{EngineState}

-- It has compared three bytes after a line, and the last of them is a line feed.
abbrev pub after_a_line : ℕ → Finder
after_a_line limit = record (new_finder (Some limit)) { compared = 3; line_feeds = 4; tests = 9 }

-- Ten bytes are pending, whose first line was found.
abbrev pub a_pending : Pending
a_pending = record {
  bytes = codes "NOOP\r\nNO\nA";
  kept = 10;
  limit = Some 6;
  found = true;
  line = codes "QUIT\r\n";
  scanned = 9;
  unscanned = 1;
  buffered = 16;
  held = 16;
}

-- It has four bytes of an incomplete line.
abbrev pub a_running_engine : EngineState
a_running_engine = record {
  incomplete = codes "NOOP";
  left = 4;
  failed = false;
  finished = false;
  scanned = 4;
  limit = Some 6;
  buffered = 4;
  held = 4;
}
