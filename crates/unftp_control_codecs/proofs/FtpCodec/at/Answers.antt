use Rattle.unftp_control_codecs.proofs.FtpCodec.at.Goals as goal

pub returns : goal.returns
returns c = cc
