use Rattle.unftp_control_defs.specs.Run.{last_state}
use Rattle.example_callers.specs.Transfers.{state_of, transfers_law}
use Rattle.example_callers.proofs.member_file.serve_file.Goals as goal

pub returns-clause-members : goal.returns-clause-members
returns-clause-members g c = λ closed. c.serve_members.ensures.members closed (λ before event on.
    let are = c.transfers_are_exchanges.ensures in
    let answers = g.D.DataConnection.answers c.serve_members.new.gate.inner.handler.connection in
    let s = last_state (transfers_law answers)
    (state_of g.D.DataConnection.answers c.args.gate.now.inner.handler) before in
    (are.exchanges answers s event, are.readable answers s event))
