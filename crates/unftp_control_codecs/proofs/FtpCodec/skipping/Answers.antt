use Rattle.unftp_control_codecs.proofs.FtpCodec.skipping.Goals as goal

pub returns-clause-skipping : goal.returns-clause-skipping
returns-clause-skipping c = cc
