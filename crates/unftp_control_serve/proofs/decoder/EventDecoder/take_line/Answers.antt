use Rattle.std.proofs.Common.{◌≡◌, true, []}
use Rattle.unftp_control_serve.specs.Decoder.{is_found}
use Rattle.unftp_control_serve.proofs.DecoderLemmas.{line_taken, long_taken}
use Rattle.unftp_control_serve.proofs.decoder.EventDecoder.take_line.Goals as goal
use Rattle.unftp_control_serve.proofs.decoder.EventDecoder.take_line.Goals.{in-Line, in-TooLong, in-Unknown}

pub returns : goal.returns
returns c =
    let d = c.self.inside in
    let found : is_found d.first ≡ true = rw (← c.self.view_is) at c.requires in
    elim c.match-self.branch [
      | in-Line w ↦
          rw (w.self-inside-is, ← c.self.view_is, w.in-Line.is)
          (line_taken d.finder d.skipped d.buffer.bytes.items [] d.buffer.start d.held
          w.in-Line.length (rw w.in-Line.is at c.self.invariant.first_is))
      | in-TooLong w ↦
          rw (w.self-inside-is, w.none-self-inside.ensures, ← c.self.view_is, w.in-TooLong.is)
          (long_taken d.finder d.skipped d.buffer.bytes.items [] d.buffer.start d.held
          (rw w.in-TooLong.is at c.self.invariant.first_is))
      | in-Unknown w ↦ absurd (let none = rw w.in-Unknown.is at found in cc)
    ]
