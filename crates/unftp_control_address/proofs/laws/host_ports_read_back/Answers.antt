use Rattle.std.proofs.Common.{rules, arith}
use Rattle.unftp_control_address.proofs.FindLemmas.{written_found}
use Rattle.unftp_control_address.proofs.TextLemmas.{read_back_of}
use Rattle.unftp_control_address.proofs.laws.host_ports_read_back.Goals as goal

pub returns-clause-read : goal.returns-clause-read
returns-clause-read c = read_back_of c.args.address.ip.octets c.args.address.port
    (search (rules, arith)) (λ i. search (rules, arith)) (search (rules, arith))

pub returns-clause-found : goal.returns-clause-found
returns-clause-found c = written_found c.args.address.ip.octets c.args.address.port
    (search (rules, arith)) (λ i. search (rules, arith)) (search (rules, arith))
