-- How many bytes the text of an address has.
use Rattle.std.proofs.Common.{◌≡◌, ℕ, ◌*◌, ◌<◌, ◌≤◌, ◌^◌, nat_lt, zero, suc, get_or, length, [], ◌∷◌, Option, Some, None, Ok, Err, ap, sym, subst, ◌∙◌, arith, ltb-true}
use Rattle.std.proofs.lemmas.Bool.{cond_both}
use Rattle.std.specs.Net.Addr.{segments_of}
use Rattle.std.specs.Net.Socket.{socket_ip}
use Rattle.std.specs.declared.net.ip_addr.IpAddr.{IpAddr}
use Rattle.std.specs.declared.net.ip_addr.IpAddr.TheVariants.{V4, V6}
use Rattle.unftp_control_defs.specs.Bytes.{Bytes}
use Rattle.unftp_control_address.specs.Extended.{extended_port_text, extended_text}
use Rattle.unftp_control_address.specs.HostPorts.{host_port_text}
use Rattle.unftp_control_address.proofs.RoomLemmas.{IsSmall, extended_port_room, extended_room, host_port_room}
use Rattle.unftp_control_c.specs.Addresses.{AreBytesOf, IsWritten, IsWrittenBy, form_for, form_of}
use Rattle.unftp_control_c.specs.Areas.{Made, written}
use Rattle.unftp_control_c.specs.declared.address.Form.{Form}
use Rattle.unftp_control_c.specs.declared.address.Form.TheVariants.{Port, Eprt, Reply227, Reply229}
use Rattle.unftp_control_c.proofs.AreaLemmas.{filled_length}

-- bytes, each below 256
abbrev AreSmall : Bytes → Type 0
AreSmall bytes = (k : ℕ) → get_or bytes k 0 < 256

segments_length : (n : ℕ) (bytes : Bytes) → length bytes ≡ 2 * n → length (segments_of bytes) ≡ n
segments_length zero [] even = omega arith
segments_length zero (a ∷ bytes) even = absurd (omega (arith, even))
segments_length (suc n) [] even = absurd (omega (arith, even))
segments_length (suc n) (a ∷ []) even = absurd (omega (arith, even))
segments_length (suc n) (a ∷ b ∷ bytes) even =
    omega (arith, segments_length n bytes (omega (arith, even)))

segments_small : (bytes : Bytes) → AreSmall bytes → (k : ℕ) → get_or (segments_of bytes) k 0 < 2 ^ 16
segments_small [] small k = omega arith
segments_small (a ∷ []) small k = omega arith
segments_small (a ∷ b ∷ bytes) small zero = omega (arith, small 0, small 1)
segments_small (a ∷ b ∷ bytes) small (suc k) = segments_small bytes (λ j. small (suc (suc j))) k

small_host : (bytes : Bytes) (ip : IpAddr) → AreSmall bytes → AreBytesOf bytes ip → IsSmall ip
small_host bytes (V4 ip) small is = subst AreSmall is small
small_host bytes (V6 ip) small (sixteen, is) = (
  ap length is ∙ segments_length 8 bytes (omega (arith, sixteen)),
  subst (λ segments. (k : ℕ) → get_or segments k 0 < 2 ^ 16) (sym is) (segments_small bytes small),
)

module _ (ip : Bytes) (port : ℕ) (out : Bytes) (small : AreSmall ip) (fits : port < 65536) where
  written_room : (form : Form) (text : Made) → IsWritten form ip port text
      → (written text out).text_length ≤ 49
  written_room form (Err status) why = omega arith
  written_room Port (Ok text) (four, is) = rw is (omega (
    arith,
    filled_length (host_port_text (ip, port)) out,
    host_port_room ip port four small fits,
  ))
  written_room Reply227 (Ok text) (four, is) = rw is (omega (
    arith,
    filled_length (host_port_text (ip, port)) out,
    host_port_room ip port four small fits,
  ))
  written_room Reply229 (Ok text) (any, is) = rw is (omega (
    arith,
    filled_length (extended_port_text port) out,
    extended_port_room port fits,
  ))
  written_room Eprt (Ok text) (count, (address, bytes, port_is, is)) = rw is (omega (
    arith,
    filled_length (extended_text address) out,
    extended_room address (small_host ip (socket_ip address) small bytes) (omega (arith, port_is, fits)),
  ))

  written_by_room : (form : Option Form) (text : Made) → IsWrittenBy form ip port text
      → (written text out).text_length ≤ 49
  written_by_room None text is = rw is (omega arith)
  written_by_room (Some form) text is = written_room form text is

pub address_room : (number port : ℕ) (ip : Bytes) (text : Made) (out : Bytes) → AreSmall ip
    → IsWrittenBy (form_for number port) ip port text → (written text out).text_length ≤ 49
address_room number port ip text out small =
    cond_both {A = Option Form} (nat_lt port 65536) (form_of number) None
    (λ form. IsWrittenBy form ip port text → (written text out).text_length ≤ 49)
    (λ fits. written_by_room ip port out small (ltb-true port 65536 fits) (form_of number) text)
    (λ _ is. rw is (omega arith))
