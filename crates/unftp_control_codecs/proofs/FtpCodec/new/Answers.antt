use Rattle.unftp_control_codecs.proofs.FtpCodec.new.Goals as goal

pub returns : goal.returns
returns c = c.at.ensures
