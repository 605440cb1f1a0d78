-- The address of PORT, and of the reply 227 to PASV (RFC 959, section 4.1.2).
use Rattle.std.specs.Prelude.{true, ℕ, ◌+◌, ◌*◌, ◌/◌, ◌%◌, Bool, not, ◌==◌, ◌||◌, List, [], ◌∷◌, ◌++◌, Option, option_map, filter_map, slice_get, decimal, get_or, take}
use Rattle.std.specs.Char.{is_ascii_digit}
use Rattle.std.specs.List.{slice_split}
use Rattle.std.specs.Net.Addr.{ipv4_octets}
use Rattle.std.specs.Net.Socket.{v4_ip, v4_port}
use Rattle.std.specs.declared.net.socket_addr.SocketAddrV4.{SocketAddrV4}
use Rattle.unftp_control_defs.specs.Bytes.{Bytes}
use Rattle.unftp_control_address.specs.Numbers.{octets_between, of_length}

abbrev pub COMMA : ℕ
COMMA = 44

-- the four numbers of a host, and a port
abbrev pub HostPort : Type 0
HostPort = List ℕ × ℕ

abbrev pub host_port_of : SocketAddrV4 → HostPort
host_port_of address = (ipv4_octets (v4_ip address), v4_port address)

-- the address of six numbers: four of the host, and the port's higher and lower eight bits
abbrev pub of_six : List ℕ → HostPort
of_six ns = (take 4 ns, 256 * get_or ns 4 0 + get_or ns 5 0)

-- the address that a value of PORT spells: six numbers with commas between them, each of one to
-- three digits and below 256, and nothing else
abbrev pub host_port : Bytes → Option HostPort
host_port text = option_map of_six (of_length 6 (octets_between COMMA text))

-- a byte that is in no such address
abbrev pub is_outside : ℕ → Bool
is_outside b = not (is_ascii_digit b || b == COMMA)

-- The first address in the text of a reply 227: of its words of digits and commas, the first that
-- spells one (RFC 1123, section 4.1.2.6).
abbrev pub first_host_port : Bytes → Option HostPort
first_host_port text = slice_get (filter_map host_port (slice_split is_outside text)) 0

-- numbers in decimal with separators between them
abbrev pub joined_numbers : ℕ → List ℕ → Bytes
joined_numbers separator [] = []
joined_numbers separator (n ∷ []) = decimal n
joined_numbers separator (n ∷ m ∷ ns) = decimal n ++ separator ∷ joined_numbers separator (m ∷ ns)

-- the text of an address
abbrev pub host_port_text : HostPort → Bytes
host_port_text address =
    joined_numbers COMMA (address.0 ++ (address.1 / 256) ∷ (address.1 % 256) ∷ [])

-- it begins with a byte that is in no address, or is empty
abbrev pub begins_outside : Bytes → Bool
begins_outside [] = true
begins_outside (b ∷ text) = is_outside b
