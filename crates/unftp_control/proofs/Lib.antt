mod FoldLemmas
mod EpsvLemmas
mod PieceLemmas
mod RunEndLemmas
mod FirstEndLemmas
mod StepLemmas
mod LossyTextLemmas
mod EventStepLemmas
mod ReplyStepLemmas
mod ConversationLemmas
pub mod ActLemmas
mod ProxiedLemmas
pub use Rattle.unftp_control_defs.proofs.EncodingLemmas
pub use Rattle.unftp_control_defs.proofs.ReplyLemmas
pub use Rattle.unftp_control_defs.proofs.LineLemmas
pub use Rattle.unftp_control_defs.proofs.RunLemmas
pub use Rattle.unftp_control_facts.proofs.FactTextLemmas
pub use Rattle.unftp_control_facts.proofs.CivilLemmas
pub use Rattle.unftp_control_serve.proofs.ClientLineLemmas
pub use Rattle.unftp_control_serve.proofs.SendLemmas
pub use Rattle.unftp_control_serve.proofs.EndingLemmas
pub use Rattle.unftp_control_serve.proofs.SoFarLemmas
pub use Rattle.unftp_control_serve.proofs.HeardLemmas
pub use Rattle.unftp_control_defs.proofs.ExchangeLemmas
pub use Rattle.unftp_control_serve.proofs.ServiceLemmas
pub use Rattle.unftp_control_login.proofs.MemberLemmas
pub use Rattle.unftp_control_client.proofs.ClientStepLemmas
mod DefinitionExampleLemmas
mod ReadExampleLemmas
