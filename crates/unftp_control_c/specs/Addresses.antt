-- The addresses of data connections, as a caller in C gives and gets them.
use Rattle.std.specs.Prelude.{⊤, ◌≡◌, ◌⊎◌, ◌==◌, ℕ, [], if◌then◌else◌, length, nat_le, nat_lt, Option, None, Some, Result, Ok, Err, option_map}
use Rattle.std.specs.Net.Addr.{ipv4_octets, ipv6_octets, ipv6_segments, segments_of}
use Rattle.std.specs.Net.Socket.{socket_ip, socket_port}
use Rattle.std.specs.declared.net.ip_addr.IpAddr.{IpAddr}
use Rattle.std.specs.declared.net.ip_addr.IpAddr.TheVariants.{V4, V6}
use Rattle.std.specs.declared.net.socket_addr.SocketAddr.{SocketAddr}
use Rattle.unftp_control_defs.specs.Bytes.{Bytes}
use Rattle.unftp_control_address.specs.Extended.{IsExtended, IsRefused, extended_port, extended_port_text, extended_text}
use Rattle.unftp_control_address.specs.HostPorts.{first_host_port, host_port, host_port_text}
use Rattle.unftp_control_address.specs.declared.extended.AddressError.TheVariants as why
use Rattle.unftp_control_commands.specs.Areas.{overwritten}
use Rattle.unftp_control_c.specs.Areas.{Made}
use Rattle.unftp_control_c.specs.Numbers.{status_number}
use Rattle.unftp_control_c.specs.declared.address.Form.{Form}
use Rattle.unftp_control_c.specs.declared.address.Form.TheVariants.{Port, Eprt, Reply227, Reply229}
use Rattle.unftp_control_c.specs.declared.status.Status.{Status}
use Rattle.unftp_control_c.specs.declared.status.Status.TheVariants.{Done, InvalidArgument, NoAddress, NoRoom, OutOfMemory, UnknownProtocol}

-- an address: its bytes, of which a port alone has none, and the port
abbrev pub Address : Type 0
Address = Bytes × ℕ

-- the form of a number
abbrev pub form_of : ℕ → Option Form
form_of number = if number == 0 then Some Port else (if number == 1 then Some Eprt else
    (if number == 2 then Some Reply227 else (if number == 3 then Some Reply229 else None)))

-- the bytes of an address, in network order
abbrev pub ip_bytes : IpAddr → Bytes
ip_bytes (V4 ip) = ipv4_octets ip
ip_bytes (V6 ip) = ipv6_octets ip

abbrev pub address_bytes : SocketAddr → Address
address_bytes address = (ip_bytes (socket_ip address), socket_port address)

-- a host, if there is one
abbrev pub host_bytes : Option IpAddr → Bytes
host_bytes None = []
host_bytes (Some ip) = ip_bytes ip

-- what a call has found
abbrev pub found_meant : Result (Option IpAddr × ℕ) Status → Result Address Status
found_meant (Ok found) = Ok (host_bytes found.0, found.1)
found_meant (Err status) = Err status

-- what was found, or that nothing was
abbrev pub or_none : Option Address → Result Address Status
or_none None = Err NoAddress
or_none (Some address) = Ok address

-- what a value of EPRT spells, or why it is refused
abbrev pub IsReadExtended : Bytes → Result Address Status → Type 0
IsReadExtended text (Ok found) =
    (address : SocketAddr) × IsExtended text address × (found ≡ address_bytes address)
IsReadExtended text (Err NoAddress) = IsRefused text why.Malformed
IsReadExtended text (Err UnknownProtocol) = IsRefused text why.UnknownProtocol
IsReadExtended text (Err _) = ⊥

-- what is read of a text, by its form
abbrev pub IsRead : Form → Bytes → Result Address Status → Type 0
IsRead Port text found = found ≡ or_none (host_port text)
IsRead Eprt text found = IsReadExtended text found
IsRead Reply227 text found = found ≡ or_none (first_host_port text)
IsRead Reply229 text found = found ≡ or_none (option_map (λ port. ([], port)) (extended_port text))

-- the same, where the number of the form may be invalid
abbrev pub IsReadBy : Option Form → Bytes → Result Address Status → Type 0
IsReadBy None text found = found ≡ Err InvalidArgument
IsReadBy (Some form) text found = IsRead form text found

-- what a call that reads leaves: the area has the address's bytes where it has room for them
pub record ReadLeft : Type 0 where
  pub result : ℕ
  pub area : Bytes
  pub ip_length : ℕ
  pub port : ℕ

abbrev pub left_by : Result Address Status → Bytes → ReadLeft
left_by (Ok address) area = if nat_le (length address.0) (length area)
    then record {
      result = status_number Done;
      area = overwritten address.0 area;
      ip_length = length address.0;
      port = address.1;
    }
    else record {
      result = status_number NoRoom;
      area = area;
      ip_length = length address.0;
      port = address.1;
    }
left_by (Err status) area =
    record { result = status_number status; area = area; ip_length = 0; port = 0 }

-- the bytes are those of a host
abbrev pub AreBytesOf : Bytes → IpAddr → Type 0
AreBytesOf bytes (V4 ip) = bytes ≡ ipv4_octets ip
AreBytesOf bytes (V6 ip) = (length bytes ≡ 16) × (ipv6_segments ip ≡ segments_of bytes)

-- what is written for an address, by its form
abbrev pub IsText : Form → Bytes → ℕ → Bytes → Type 0
IsText Port ip port text = text ≡ host_port_text (ip, port)
IsText Eprt ip port text = (address : SocketAddr) × AreBytesOf ip (socket_ip address)
    × (socket_port address ≡ port) × (text ≡ extended_text address)
IsText Reply227 ip port text = text ≡ host_port_text (ip, port)
IsText Reply229 ip port text = text ≡ extended_port_text port

-- how many bytes an address may have
abbrev pub HasLength : Form → ℕ → Type 0
HasLength Port count = count ≡ 4
HasLength Eprt count = (count ≡ 4) ⊎ (count ≡ 16)
HasLength Reply227 count = count ≡ 4
HasLength Reply229 count = ⊤

-- why an address of so many bytes is not written
abbrev pub IsNotWritten : Form → ℕ → Status → Type 0
IsNotWritten form count InvalidArgument = ¬ (HasLength form count)
IsNotWritten form count OutOfMemory = HasLength form count
IsNotWritten form count _ = ⊥

-- the text of an address, or why it is not written
abbrev pub IsWritten : Form → Bytes → ℕ → Made → Type 0
IsWritten form ip port (Ok text) = HasLength form (length ip) × IsText form ip port text
IsWritten form ip port (Err status) = IsNotWritten form (length ip) status

-- the form of a number, where the port is one
abbrev pub form_for : ℕ → ℕ → Option Form
form_for number port = if nat_lt port 65536 then form_of number else None

-- the same, where the number of the form or the port may be invalid
abbrev pub IsWrittenBy : Option Form → Bytes → ℕ → Made → Type 0
IsWrittenBy None ip port text = text ≡ Err InvalidArgument
IsWrittenBy (Some form) ip port text = IsWritten form ip port text
