use Rattle.unftp_control_codecs.proofs.FtpCodec.with_limit.Goals as goal

pub returns : goal.returns
returns c = cc
