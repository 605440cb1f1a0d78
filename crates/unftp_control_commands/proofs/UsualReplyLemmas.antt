-- The usual reply to a command is that of its number and its value; and what is so of each.
use Rattle.std.proofs.Common.{◌≡◌, ℕ, ◌≤◌, ◌==◌, Bool, true, false, [], ◌∷◌, length, codes, refl, arith}
use Rattle.std.specs.Fmt.{digits}
use Rattle.std.specs.Prelude.{◌&&◌, bytes_eq, if◌then◌else◌, nat_le, nat_lt, unwrap_or}
use Rattle.std.proofs.lemmas.Bool.{and_parts, cond_both, eqb-false, false≢true, leb-true, ltb-true}
use Rattle.unftp_control_defs.specs.Bytes.{Bytes, LF, Lacks}
use Rattle.unftp_control_defs.specs.FtpCommand.{FtpCommand, User, Stru, Mode, Opts, number, said}
use Rattle.unftp_control_defs.specs.FtpReply.{FtpReply, Nothing, CodeAndMsg, MultiLine, IsReadable, encoded}
use Rattle.unftp_control_defs.specs.Said.{command_number, value_bytes}
use Rattle.unftp_control_defs.specs.declared.parameters.ModeParam.TheVariants.{Block, Stream}
use Rattle.unftp_control_defs.specs.declared.parameters.Opt.TheVariants.{Utf8}
use Rattle.unftp_control_defs.specs.declared.parameters.StruParam.TheVariants.{File, Record}
use Rattle.unftp_control_defs.specs.declared.verb.Verb.TheVariants as verb
use Rattle.unftp_control_commands.specs.Answers.{mode_reply, no_tls, opts_reply, stru_reply}
use Rattle.unftp_control_commands.specs.UsualReplies.{command_reply, goodbye, help_message, needs_tls, no_account, no_allocation, not_implemented, okay, reply_by_number, reply_by_value, same_type, system_type}

pub command_reply-number : (command : FtpCommand) → reply_by_number (command_number command)
    (unwrap_or (value_bytes (said command).value) []) ≡ command_reply command
command_reply-number (User name) = refl
command_reply-number (Stru File) = refl
command_reply-number (Mode Stream) = refl
command_reply-number (Opts (Utf8 true)) = refl
command_reply-number (Opts (Utf8 false)) = refl
command_reply-number _ = refl

-- what is so of each usual reply
pub record AreUsual (P : FtpReply → Type 0) : Type 0 where
  pub noop : P okay
  pub quit : P goodbye
  pub help : P help_message
  pub syst : P system_type
  pub acct : P no_account
  pub allo : P no_allocation
  pub type_code : P same_type
  pub tls : P no_tls
  pub file : P (stru_reply File)
  pub record_structure : P (stru_reply Record)
  pub stream : P (mode_reply Stream)
  pub block : P (mode_reply Block)
  pub utf8 : P (opts_reply (Utf8 true))
  pub no_utf8 : P (opts_reply (Utf8 false))
  pub other : P not_implemented

module _ (P : FtpReply → Type 0) (all : AreUsual P) where
  utf8_on : (on : Bool) → P (opts_reply (Utf8 on))
  utf8_on true = all.utf8
  utf8_on false = all.no_utf8

  by_value : (n : ℕ) (value : Bytes) → P (reply_by_value n value)
  by_value n value =
      cond_both (n == number verb.Stru) _ _ P
      (λ _. cond_both (bytes_eq value (codes "F")) File Record (λ structure. P (stru_reply structure))
      (λ _. all.file) (λ _. all.record_structure))
      (λ _. cond_both (n == number verb.Mode) _ _ P
      (λ _. cond_both (bytes_eq value (codes "S")) Stream Block (λ mode. P (mode_reply mode))
      (λ _. all.stream) (λ _. all.block))
      (λ _. cond_both (n == number verb.Opts) _ _ P
      (λ _. utf8_on (bytes_eq value (codes "UTF8 ON")))
      (λ _. all.other)))

  pub reply_by_number-all : (n : ℕ) (value : Bytes) → P (reply_by_number n value)
  reply_by_number-all n value =
      cond_both (n == number verb.Noop) _ _ P (λ _. all.noop)
      (λ _. cond_both (n == number verb.Quit) _ _ P (λ _. all.quit)
      (λ _. cond_both (n == number verb.Help) _ _ P (λ _. all.help)
      (λ _. cond_both (n == number verb.Syst) _ _ P (λ _. all.syst)
      (λ _. cond_both (n == number verb.Acct) _ _ P (λ _. all.acct)
      (λ _. cond_both (n == number verb.Allo) _ _ P (λ _. all.allo)
      (λ _. cond_both (n == number verb.TypeCode) _ _ P (λ _. all.type_code)
      (λ _. cond_both (needs_tls n) _ _ P (λ _. all.tls) (λ _. by_value n value))))))))

-- each has few bytes
are_short : AreUsual (λ reply. length (encoded reply) ≤ 64)
unfolding digits
are_short = record {
  noop = omega arith;
  quit = omega arith;
  help = omega arith;
  syst = omega arith;
  acct = omega arith;
  allo = omega arith;
  type_code = omega arith;
  tls = omega arith;
  file = omega arith;
  record_structure = omega arith;
  stream = omega arith;
  block = omega arith;
  utf8 = omega arith;
  no_utf8 = omega arith;
  other = omega arith;
}

pub reply_by_number-short : (n : ℕ) (value : Bytes) → length (encoded (reply_by_number n value)) ≤ 64
reply_by_number-short n value =
    reply_by_number-all (λ reply. length (encoded reply) ≤ 64) are_short n value

-- and one line, which a client reads back
abbrev is_line : Bytes → Bool
is_line [] = true
is_line (b ∷ text) = if b == LF then false else is_line text

lacks : (text : Bytes) → is_line text ≡ true → Lacks LF text
lacks [] e = tt
lacks (b ∷ text) e = cond_both (b == LF) false (is_line text)
    (λ line. line ≡ true → Lacks LF (b ∷ text)) (λ _ e. absurd (false≢true e))
    (λ ne e. (eqb-false b LF ne, lacks text e)) e

abbrev is_one_line : FtpReply → Bool
is_one_line (CodeAndMsg code text) = (nat_le 100 code && nat_lt code 1000) && is_line text
is_one_line reply = false

pub readable : (reply : FtpReply) → is_one_line reply ≡ true → IsReadable reply
readable (CodeAndMsg code text) e =
    let parts = and_parts (nat_le 100 code && nat_lt code 1000) (is_line text) e in
    let digits = and_parts (nat_le 100 code) (nat_lt code 1000) parts.0 in
    ((leb-true 100 code digits.0, ltb-true code 1000 digits.1), lacks text parts.1)
readable Nothing e = absurd (false≢true e)
readable (MultiLine code lines) e = absurd (false≢true e)

are_one_line : AreUsual (λ reply. is_one_line reply ≡ true)
are_one_line = record {
  noop = refl;
  quit = refl;
  help = refl;
  syst = refl;
  acct = refl;
  allo = refl;
  type_code = refl;
  tls = refl;
  file = refl;
  record_structure = refl;
  stream = refl;
  block = refl;
  utf8 = refl;
  no_utf8 = refl;
  other = refl;
}

pub reply_by_number-readable : (n : ℕ) (value : Bytes) → IsReadable (reply_by_number n value)
reply_by_number-readable n value = readable (reply_by_number n value)
    (reply_by_number-all (λ reply. is_one_line reply ≡ true) are_one_line n value)
