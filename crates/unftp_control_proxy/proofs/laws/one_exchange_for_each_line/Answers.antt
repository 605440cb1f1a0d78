use Rattle.unftp_control_proxy.proofs.TrafficLemmas.{all_complete, are_exchanges}
use Rattle.unftp_control_proxy.proofs.laws.one_exchange_for_each_line.Goals as goal

pub returns : goal.returns
returns c = record {
  exchanges = λ limits traffic later is. are_exchanges is;
  given = λ limits traffic later is. is.to_client;
  fates = λ limits traffic later is. is.fates;
  complete = λ limits traffic later is greeted none_owed none_held.
      all_complete is greeted none_owed none_held;
  bounded = λ limits traffic later is. is.bounded;
}
