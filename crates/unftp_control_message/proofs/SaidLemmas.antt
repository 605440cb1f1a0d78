-- What the type of a text says: its bytes are UTF-8.
use Rattle.std.proofs.Common.{Option, Some, None, option_map, string_bytes, String, Global}
use Rattle.std.proofs.lemmas.Str.{IsUtf8-string_bytes}
use Rattle.unftp_control_defs.specs.Said.{IsMaybeUtf8}

pub IsMaybeUtf8-option_map : (text : Option (String Global))
    → IsMaybeUtf8 (option_map string_bytes text)
IsMaybeUtf8-option_map None = tt
IsMaybeUtf8-option_map (Some text) = IsUtf8-string_bytes text

pub ruleset texts = (IsUtf8-string_bytes, IsMaybeUtf8-option_map)
