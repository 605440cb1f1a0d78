use Rattle.std.proofs.Common.{◌≡◌, true, drop, length, take, ◌-◌, ◌∙◌, sym}
use Rattle.unftp_control_defs.specs.Bytes.{Bytes}
use Rattle.unftp_control_serve.specs.Decoder.{found_as, is_found}
use Rattle.unftp_control_serve.proofs.DecoderLemmas.{found_again, kind-is, kind_of}
use Rattle.unftp_control_serve.proofs.decoder.EventDecoder.find_line.Goals as goal

pub returns-clause-found : goal.returns-clause-found
returns-clause-found c =
    let d = c.self.inside in
    let kept : Bytes = drop d.buffer.start d.buffer.bytes.items in
    let found : is_found d.first ≡ true =
    (rw (← c.self.view_is) at (sym c.is_found.ensures.found)) ∙ c.if-not-is_found.false in
    let kind : c.found_kind.result ≡ kind_of d.first = c.found_kind.ensures.kind
    ∙ kind-is d.finder d.skipped kept d.first c.self.invariant.first_is found in
    found_again d.finder d.skipped kept
    (take d.line (drop (d.buffer.start - d.line) d.buffer.bytes.items))
    (length d.buffer.bytes.items) d.held d.first c.self.invariant.first_is found
    ∙ (λ i. found_as (c.self.view_is i) (sym kind i) d.finder.tests)
