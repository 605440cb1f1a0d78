use Rattle.std.proofs.Common.{rules, tests, ◌<◌, ◌≡◌, sym, ap, ◌∙◌, arith, length, take, option_map}
use Rattle.unftp_control_address.specs.HostPorts.{first_host_port, host_port, host_port_of}
use Rattle.unftp_control_address.proofs.FindLemmas.{ended, found, later, within, after}
use Rattle.unftp_control_address.proofs.host_port.find_host_port.Goals as goal

pub split_at-requires : goal.split_at-requires
split_at-requires c = within c.loop-address.rest.now c.word_len.ensures

pub returns-in-Some : goal.returns-in-Some
returns-in-Some c = sym (c.loop-address.invariant ∙ found c.loop-address.rest.now (host_port_of c.in-Some.address)
    (ap (λ n. host_port (take n c.loop-address.rest.now)) (sym c.word_len.ensures) ∙ ap host_port (sym c.split_at.ensures.front)
    ∙ sym c.read_host_port.ensures ∙ ap (option_map host_port_of) c.in-Some.is))

pub returns-then-is_empty : goal.returns-then-is_empty
returns-then-is_empty c =
    let at = c.word_len.ensures in
    let length_left = c.split_at.ensures.back_len in
    let empty : length c.split_at.result.1.now ≡ 0 = search (rules, tests, arith) in
    sym (c.loop-address.invariant ∙ ended c.loop-address.rest.now (omega (arith, at, length_left, empty))
    (ap (λ n. host_port (take n c.loop-address.rest.now)) (sym at) ∙ ap host_port (sym c.split_at.ensures.front)
    ∙ sym c.read_host_port.ensures ∙ ap (option_map host_port_of) c.in_default.is))

pub loop-address-preserved : goal.loop-address-preserved
loop-address-preserved c =
    let at = c.word_len.ensures in
    let length_left = c.split_at.ensures.back_len in
    let some : 0 < length c.split_at.result.1.now = search (rules, tests, arith) in
    c.loop-address.invariant ∙ later c.loop-address.rest.now (omega (arith, at, length_left, some))
    (ap (λ n. host_port (take n c.loop-address.rest.now)) (sym at) ∙ ap host_port (sym c.split_at.ensures.front)
    ∙ sym c.read_host_port.ensures ∙ ap (option_map host_port_of) c.in_default.is)
    ∙ ap first_host_port (after c.loop-address.rest.now c.split_at.result.1.now c.split_at-in-loop-address.result.1.now c.word_len.result c.split_at.ensures.back c.split_at-in-loop-address.ensures.back at)
