use Rattle.std.proofs.Common.{◌≡◌, arith}
use Rattle.std.proofs.lemmas.Grind.{common_steps}
use Rattle.unftp_control_serve.proofs.SendLemmas.{Sending-more}
use Rattle.unftp_control_serve.proofs.send.write_whole.Goals as goal

pub loop-rest-preserved : goal.loop-rest-preserved
loop-rest-preserved g c =
    let kept : c.write.new.self.failures ≡ c.loop-rest.output.failures =
    grind (arith, common_steps, c.in-Ok.ensures.wrote.1, c.in-Ok.n-test.1) in
    rw c.split_at.ensures.back
    (Sending-more c.in-Ok.n c.loop-rest.invariant c.in-Ok.ensures.bound
    c.in-Ok.ensures.wrote.0 kept c.in-Ok.ensures.wrote.2)
