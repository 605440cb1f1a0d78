-- The address of EPRT, and the port of the reply 229 to EPSV (RFC 2428).
use Rattle.std.specs.Prelude.{◌≡◌, ◌≢◌, ◌⊎◌, ℕ, Bool, false, not, ◌==◌, ◌&&◌, ◌||◌, if◌then◌else◌, List, [], ◌∷◌, ◌++◌, codes, Option, Some, None, decimal}
use Rattle.std.specs.Char.{is_ascii_graphic, is_ascii_hexdigit}
use Rattle.std.specs.List.{after_first, before_first, slice_split}
use Rattle.std.specs.Net.Grammar.{IsIpText}
use Rattle.std.specs.Net.Socket.{IsPlainSocket, socket_ip, socket_port}
use Rattle.std.specs.Net.Text.{ip_text}
use Rattle.std.specs.declared.net.ip_addr.IpAddr.{IpAddr}
use Rattle.std.specs.declared.net.ip_addr.IpAddr.TheVariants.{V4, V6}
use Rattle.std.specs.declared.net.socket_addr.SocketAddr.{SocketAddr}
use Rattle.unftp_control_defs.specs.Bytes.{Bytes}
use Rattle.unftp_control_address.specs.Numbers.{short}
use Rattle.unftp_control_address.specs.declared.extended.AddressError.{AddressError}
use Rattle.unftp_control_address.specs.declared.extended.AddressError.TheVariants.{Malformed, UnknownProtocol}

abbrev pub LEFT : ℕ
LEFT = 40

abbrev pub RIGHT : ℕ
RIGHT = 41

abbrev pub COLON : ℕ
COLON = 58

abbrev pub DOT : ℕ
DOT = 46

abbrev pub BAR : ℕ
BAR = 124

-- a byte that an address may have
abbrev pub is_of_address : ℕ → Bool
is_of_address b = (is_ascii_hexdigit b || b == COLON) || b == DOT

-- A delimiter is a byte from 33 to 126 that no address has (RFC 2428, section 2), and that doesn't
-- end the text of a 229.
abbrev pub is_delimiter : ℕ → Bool
is_delimiter b = (is_ascii_graphic b && not (is_of_address b)) && not (b == RIGHT)

-- ---- EPRT

-- what is between the delimiters of a value: the protocol, the host and the port
pub record Fields : Type 0 where
  pub protocol : Bytes
  pub host : Bytes
  pub port : Bytes

abbrev pub three_fields : List Bytes → Option Fields
three_fields (protocol ∷ host ∷ port ∷ [] ∷ []) =
    Some (record { protocol = protocol; host = host; port = port })
three_fields _ = None

-- The first byte is the delimiter, and there is another after each field, and nothing after the
-- last.
abbrev pub fields : Bytes → Option Fields
fields [] = None
fields (d ∷ text) = if is_delimiter d then three_fields (slice_split (λ b. b == d) text) else None

-- the number of an address family
abbrev pub family : IpAddr → ℕ
family (V4 a) = 1
family (V6 a) = 2

-- The value spells this address.
pub record IsExtended (value : Bytes) (address : SocketAddr) : Type 0 where
  pub parts : Fields
  pub cut : fields value ≡ Some parts
  pub protocol : short parts.protocol ≡ Some (family (socket_ip address))
  pub host : IsIpText parts.host (socket_ip address)
  pub port : short parts.port ≡ Some (socket_port address)
  pub plain : IsPlainSocket address (socket_port address)

-- Its protocol is a number, and of no family that is known here.
pub record HasOtherProtocol (value : Bytes) : Type 0 where
  pub parts : Fields
  pub cut : fields value ≡ Some parts
  pub number : ℕ
  pub protocol : short parts.protocol ≡ Some number
  pub not_ipv4 : number ≢ 1
  pub not_ipv6 : number ≢ 2

-- why a host is refused, where its protocol is this number
abbrev pub IsRefusedHost : ℕ → Bytes → AddressError → Type 0
IsRefusedHost protocol host UnknownProtocol = (protocol ≢ 1) × (protocol ≢ 2)
IsRefusedHost protocol host Malformed = ((protocol ≡ 1) ⊎ (protocol ≡ 2))
    × ((ip : IpAddr) → family ip ≡ protocol → ¬ (IsIpText host ip))

-- why a value is refused
abbrev pub IsRefused : Bytes → AddressError → Type 0
IsRefused value UnknownProtocol = HasOtherProtocol value
IsRefused value Malformed =
    ¬ (HasOtherProtocol value) × ((address : SocketAddr) → ¬ (IsExtended value address))

-- the value of an address
abbrev pub extended_text : SocketAddr → Bytes
extended_text address = BAR ∷ decimal (family (socket_ip address))
    ++ BAR ∷ (ip_text (socket_ip address) ++ BAR ∷ (decimal (socket_port address) ++ BAR ∷ []))

-- ---- the reply 229

abbrev pub begins_with_right : Bytes → Bool
begins_with_right [] = false
begins_with_right (b ∷ text) = b == RIGHT

-- the port before the first delimiter, where a closing bracket comes after that
abbrev pub ended_port : ℕ → Bytes → Option ℕ
ended_port d text = if begins_with_right (after_first (λ b. b == d) text)
    then short (before_first (λ b. b == d) text) else None

-- the port in a text that begins with three delimiters
abbrev pub bracketed_port : Bytes → Option ℕ
bracketed_port (a ∷ b ∷ c ∷ text) =
    if is_delimiter a && (b == a && c == a) then ended_port a text else None
bracketed_port _ = None

-- the port in the text of a reply 229: that after the first opening bracket
abbrev pub extended_port : Bytes → Option ℕ
extended_port text = bracketed_port (after_first (λ b. b == LEFT) text)

-- the text of a port in brackets
abbrev pub extended_port_text : ℕ → Bytes
extended_port_text port = codes "(|||" ++ decimal port ++ codes "|)"
