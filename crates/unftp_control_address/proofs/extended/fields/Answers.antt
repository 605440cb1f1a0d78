use Rattle.std.proofs.Common.{rules, tests, arith, ◌≡◌, ◌<◌, ◌∙◌, ap, sym, length, ◌∷◌}
use Rattle.unftp_control_address.specs.Extended.{three_fields}
use Rattle.unftp_control_address.proofs.ExtendedLemmas.{ended, field, no_more, not_ended, of_front}
use Rattle.unftp_control_address.proofs.extended.fields.Goals as goal

pub returns-in_err-protocol : goal.returns-in_err-protocol
returns-in_err-protocol c = rw c.from_residual-in_err-protocol.ensures
    (of_front c.args.value.now c.in_ok-delimiter.rest.now c.in_ok-delimiter.delimiter.now
    c.in_ok-delimiter.ensures.cases.0 (sym c.is_delimiter.ensures ∙ c.if-not-is_delimiter.false)
    ∙ ap three_fields (no_more c.in_ok-delimiter.delimiter.now c.in_ok-delimiter.rest.now c.in_err-protocol.ensures))

pub returns-in_err-host : goal.returns-in_err-host
returns-in_err-host c =
    let d = c.in_ok-delimiter.delimiter.now in
    let one = field d c.in_ok-delimiter.rest.now c.in_ok-protocol.protocol.now c.in_ok-protocol.rest.now
    c.in_ok-protocol.ensures.0 c.in_ok-protocol.ensures.1 c.in_ok-protocol.ensures.2 in
    let two = no_more d c.in_ok-protocol.rest.now c.in_err-host.ensures in
    rw c.from_residual-in_err-host.ensures
    (of_front c.args.value.now c.in_ok-delimiter.rest.now d
    c.in_ok-delimiter.ensures.cases.0 (sym c.is_delimiter.ensures ∙ c.if-not-is_delimiter.false)
    ∙ ap three_fields (one ∙ ap (λ parts. c.in_ok-protocol.protocol.now ∷ parts) two))

pub returns-in_err-port : goal.returns-in_err-port
returns-in_err-port c =
    let d = c.in_ok-delimiter.delimiter.now in
    let one = field d c.in_ok-delimiter.rest.now c.in_ok-protocol.protocol.now c.in_ok-protocol.rest.now
    c.in_ok-protocol.ensures.0 c.in_ok-protocol.ensures.1 c.in_ok-protocol.ensures.2 in
    let two = field d c.in_ok-protocol.rest.now c.in_ok-host.host.now c.in_ok-host.rest.now
    c.in_ok-host.ensures.0 c.in_ok-host.ensures.1 c.in_ok-host.ensures.2 in
    let three = no_more d c.in_ok-host.rest.now c.in_err-port.ensures in
    rw c.from_residual-in_err-port.ensures
    (of_front c.args.value.now c.in_ok-delimiter.rest.now d
    c.in_ok-delimiter.ensures.cases.0 (sym c.is_delimiter.ensures ∙ c.if-not-is_delimiter.false)
    ∙ ap three_fields (one ∙ ap (λ parts. c.in_ok-protocol.protocol.now ∷ parts)
    (two ∙ ap (λ parts. c.in_ok-host.host.now ∷ parts) three)))

pub returns-then-not-is_empty : goal.returns-then-not-is_empty
returns-then-not-is_empty c =
    let d = c.in_ok-delimiter.delimiter.now in
    let some : 0 < length c.in_ok-port.end.now = search (rules, tests, arith) in
    let one = field d c.in_ok-delimiter.rest.now c.in_ok-protocol.protocol.now c.in_ok-protocol.rest.now
    c.in_ok-protocol.ensures.0 c.in_ok-protocol.ensures.1 c.in_ok-protocol.ensures.2 in
    let two = field d c.in_ok-protocol.rest.now c.in_ok-host.host.now c.in_ok-host.rest.now
    c.in_ok-host.ensures.0 c.in_ok-host.ensures.1 c.in_ok-host.ensures.2 in
    let three = field d c.in_ok-host.rest.now c.in_ok-port.port.now c.in_ok-port.end.now
    c.in_ok-port.ensures.0 c.in_ok-port.ensures.1 c.in_ok-port.ensures.2 in
    of_front c.args.value.now c.in_ok-delimiter.rest.now d
    c.in_ok-delimiter.ensures.cases.0 (sym c.is_delimiter.ensures ∙ c.if-not-is_delimiter.false)
    ∙ ap three_fields (one ∙ ap (λ parts. c.in_ok-protocol.protocol.now ∷ parts)
    (two ∙ ap (λ parts. c.in_ok-host.host.now ∷ parts) three))
    ∙ not_ended d c.in_ok-protocol.protocol.now c.in_ok-host.host.now c.in_ok-port.port.now c.in_ok-port.end.now some

pub returns : goal.returns
returns c =
    let d = c.in_ok-delimiter.delimiter.now in
    let empty : length c.in_ok-port.end.now ≡ 0 = search (rules, tests, arith) in
    let one = field d c.in_ok-delimiter.rest.now c.in_ok-protocol.protocol.now c.in_ok-protocol.rest.now
    c.in_ok-protocol.ensures.0 c.in_ok-protocol.ensures.1 c.in_ok-protocol.ensures.2 in
    let two = field d c.in_ok-protocol.rest.now c.in_ok-host.host.now c.in_ok-host.rest.now
    c.in_ok-host.ensures.0 c.in_ok-host.ensures.1 c.in_ok-host.ensures.2 in
    let three = field d c.in_ok-host.rest.now c.in_ok-port.port.now c.in_ok-port.end.now
    c.in_ok-port.ensures.0 c.in_ok-port.ensures.1 c.in_ok-port.ensures.2 in
    of_front c.args.value.now c.in_ok-delimiter.rest.now d
    c.in_ok-delimiter.ensures.cases.0 (sym c.is_delimiter.ensures ∙ c.if-not-is_delimiter.false)
    ∙ ap three_fields (one ∙ ap (λ parts. c.in_ok-protocol.protocol.now ∷ parts)
    (two ∙ ap (λ parts. c.in_ok-host.host.now ∷ parts) three))
    ∙ ended d c.in_ok-protocol.protocol.now c.in_ok-host.host.now c.in_ok-port.port.now c.in_ok-port.end.now empty
