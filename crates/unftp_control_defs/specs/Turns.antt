-- Which replies are to which line of a client (RFC 959, sections 4.2 and 5.4): to each line some
-- preliminary replies, and then a final one.
use Rattle.std.specs.Prelude.{◌≡◌, ℕ, Bool, true, false, ◌&&◌, nat_le, nat_lt, if◌then◌else◌, List, [], ◌∷◌}
use Rattle.std.specs.List.{AllByRecursion, onto_first}
use Rattle.unftp_control_defs.specs.Bytes.{Bytes}
use Rattle.unftp_control_defs.specs.Events.{FtpEvent}
use Rattle.unftp_control_defs.specs.FtpReply.{FtpReply, Nothing, CodeAndMsg, MultiLine}
use Rattle.unftp_control_defs.specs.Run.{SessionLaw, replies_to}

-- The code is 1yz: another reply to the same command follows.
abbrev pub is_preliminary : ℕ → Bool
is_preliminary code = nat_le 100 code && nat_lt code 200

abbrev pub is_preliminary_reply : FtpReply → Bool
is_preliminary_reply Nothing = false
is_preliminary_reply (CodeAndMsg code text) = is_preliminary code
is_preliminary_reply (MultiLine code lines) = is_preliminary code

-- of one that was read: its code and lines
abbrev pub is_preliminary_read : ℕ × List Bytes → Bool
is_preliminary_read read = is_preliminary read.0

-- Preliminary ones, and then one that isn't.
abbrev pub IsExchangeBy : {A : Type 0} → (A → Bool) → List A → Type 0
IsExchangeBy preliminary [] = ⊥
IsExchangeBy preliminary (reply ∷ []) = preliminary reply ≡ false
IsExchangeBy preliminary (reply ∷ (next ∷ later)) =
    (preliminary reply ≡ true) × IsExchangeBy preliminary (next ∷ later)

abbrev pub IsExchange : List FtpReply → Type 0
IsExchange replies = IsExchangeBy is_preliminary_reply replies

-- Cut after each one that isn't preliminary; those after the last of these are a part too.
abbrev pub cut_by : {A : Type 0} → (A → Bool) → List A → List (List A)
cut_by preliminary [] = []
cut_by preliminary (reply ∷ later) =
    if preliminary reply then onto_first reply (cut_by preliminary later)
    else (reply ∷ []) ∷ cut_by preliminary later

abbrev pub cut_after_final : List FtpReply → List (List FtpReply)
cut_after_final replies = cut_by is_preliminary_reply replies

abbrev pub cut_reads : List (ℕ × List Bytes) → List (List (ℕ × List Bytes))
cut_reads read = cut_by is_preliminary_read read

-- The replies to each event are an exchange.
abbrev pub GivesExchanges : {S : Type 0} → SessionLaw S → Type 0
GivesExchanges {S = S} law = (s : S) (event : FtpEvent) → IsExchange (replies_to law s event)

-- This holds of each reply to each event.
abbrev pub SaysOnly : {S : Type 0} → (FtpReply → Type 0) → SessionLaw S → Type 0
SaysOnly {S = S} P law = (s : S) (event : FtpEvent) → AllByRecursion P (replies_to law s event)
