use Rattle.unftp_control_commands.proofs.QuoteLemmas.{quoted-injective, Lacks-quoted}
use Rattle.unftp_control_commands.proofs.texts.quoted_paths_read_back.Goals as goal

pub returns : goal.returns
returns c = record { read_back = λ _ _ _ _. quoted-injective; no_line_feed = Lacks-quoted }
