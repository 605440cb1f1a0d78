use Rattle.unftp_control_codecs.proofs.scan.ScanCount.count.Goals as goal

pub returns : goal.returns
returns c = cc
