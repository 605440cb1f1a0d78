-- A value of EPRT spells one address, and what is written is read back.
use Rattle.std.proofs.Common.{◌≡◌, ℕ, ◌<◌, ◌^◌, ◌==◌, zero, suc, false, length, drop, take, get_or, List, [], ◌∷◌, ◌++◌, Option, None, Some, decimal, codes, refl, rules, subst, sym, tests, ap, ◌∙◌, arith, All, bytes_eq, lit<}
use Rattle.std.proofs.lemmas.Bool.{cond_both}
use Rattle.std.proofs.lemmas.List.Elements.{All-append, All-weaker}
use Rattle.std.proofs.lemmas.List.Splits.{slice_split_at}
use Rattle.std.specs.Net.Addr.{octets_of}
use Rattle.std.specs.Net.Grammar.{IsIpText}
use Rattle.std.specs.Net.Socket.{IsPlainSocket, IsSocketAddr, socket_ip, socket_port}
use Rattle.std.specs.Net.Text.{hex_groups_text, ip_text, ipv4_text, ipv6_text}
use Rattle.std.specs.declared.net.ip_addr.IpAddr.{IpAddr}
use Rattle.std.specs.declared.net.ip_addr.IpAddr.TheVariants as Ip
use Rattle.std.specs.declared.net.ipv4_addr.Ipv4Addr.{Ipv4Addr}
use Rattle.std.specs.declared.net.ipv6_addr.Ipv6Addr.{Ipv6Addr}
use Rattle.std.specs.declared.net.socket_addr.SocketAddr.{SocketAddr}
use Rattle.std.specs.declared.net.socket_addr.SocketAddr.TheVariants.{V4, V6}
use Rattle.std.proofs.NetLemmas.Alphabet.{All-hex_groups_text, All-ipv4_text, IsDigitOrDot, IsHexOrColon}
use Rattle.std.proofs.NetLemmas.Arrays.{eight_items}
use Rattle.std.proofs.NetLemmas.Texts.{IsColonHex-ipv6_text, IsDotted-ipv4_text}
use Rattle.std.proofs.NetLemmas.Theorems.{IsIpText_unique}
use Rattle.unftp_control_defs.specs.Bytes.{Bytes}
use Rattle.unftp_control_address.specs.Extended.{BAR, IsExtended, extended_text, family, fields, three_fields}
use Rattle.unftp_control_address.specs.Numbers.{short}
use Rattle.unftp_control_address.proofs.ExtendedLemmas.{short_decimal}
use Rattle.unftp_control_address.proofs.OctetLemmas.{digits_unsplit}
use Rattle.unftp_control_address.proofs.TextLemmas.{decimal_digits}

-- ---- one address

abbrev some_part : {A : Type 0} → A → Option A → A
some_part other None = other
some_part other (Some a) = a

abbrev v4_part : Ipv4Addr → IpAddr → Ipv4Addr
v4_part other (Ip.V4 a) = a
v4_part other (Ip.V6 a) = other

abbrev v6_part : Ipv6Addr → IpAddr → Ipv6Addr
v6_part other (Ip.V4 a) = other
v6_part other (Ip.V6 a) = a

same_address : (a b : SocketAddr) → socket_ip a ≡ socket_ip b → socket_port a ≡ socket_port b
    → IsPlainSocket a (socket_port a) → IsPlainSocket b (socket_port b) → a ≡ b
same_address (V4 a) (V4 b) ip port plain plain' =
    let host = ap (v4_part a.ip) ip in
    ap V4 (λ i. record { ip = host i; port = port i })
same_address (V6 a) (V6 b) ip port plain plain' =
    let host = ap (v6_part a.ip) ip in
    let flow = plain.1 ∙ sym plain'.1 in
    let scope = plain.2 ∙ sym plain'.2 in
    ap V6 (λ i. record { ip = host i; port = port i; flowinfo = flow i; scope_id = scope i })
same_address (V4 a) (V6 b) ip port plain plain' = absurd (omega (arith, ap family ip))
same_address (V6 a) (V4 b) ip port plain plain' = absurd (omega (arith, ap family ip))

pub one_address : (value : Bytes) (a b : SocketAddr) → IsExtended value a → IsExtended value b → a ≡ b
one_address value a b h k =
    let parts : h.parts ≡ k.parts = ap (some_part h.parts) (sym h.cut ∙ k.cut) in
    let ip = IsIpText_unique k.parts.host (socket_ip a) (socket_ip b)
    (subst (λ p. IsIpText p.host (socket_ip a)) parts h.host) k.host in
    let port = ap (some_part 0) (sym h.port ∙ ap (λ p. short p.port) parts ∙ k.port) in
    same_address a b ip port h.plain k.plain

-- ---- what is written is read back

-- no byte of an address is the delimiter
abbrev IsNotBar : ℕ → Type 0
IsNotBar b = (b == BAR) ≡ false

of_ipv4 : (b : ℕ) → IsDigitOrDot b → IsNotBar b
of_ipv4 b h = search (rules, tests, arith)

of_ipv6 : (b : ℕ) → IsHexOrColon b → IsNotBar b
of_ipv6 b h = search (rules, tests, arith)

pub octets_fit : (a b k : ℕ) → a < 2 ^ 16 → b < 2 ^ 16 → get_or (octets_of (a ∷ b ∷ [])) k 0 < 2 ^ 8
octets_fit a b zero ha hb = omega (arith, ha)
octets_fit a b (suc zero) ha hb = omega (arith, ha)
octets_fit a b (suc (suc zero)) ha hb = omega (arith, hb)
octets_fit a b (suc (suc (suc zero))) ha hb = omega (arith, hb)
octets_fit a b (suc (suc (suc (suc k)))) ha hb = omega arith

ipv4_lacks : (o : List ℕ) → ((k : ℕ) → get_or o k 0 < 2 ^ 8) → All IsNotBar (ipv4_text o)
ipv4_lacks o fits = All-weaker IsDigitOrDot IsNotBar of_ipv4 (ipv4_text o) (All-ipv4_text o fits)

mapped_lacks : (xs : List ℕ) → length xs ≡ 8 → ((k : ℕ) → get_or xs k 0 < 2 ^ 16)
    → All IsNotBar (ipv4_text (octets_of (drop 6 xs)))
mapped_lacks xs eight fits =
    let tail : drop 6 xs ≡ get_or xs 6 0 ∷ get_or xs 7 0 ∷ [] = ap (λ t. drop 6 t) (eight_items xs eight) in
    rw tail (ipv4_lacks (octets_of (get_or xs 6 0 ∷ get_or xs 7 0 ∷ []))
    (λ k. octets_fit (get_or xs 6 0) (get_or xs 7 0) k (fits 6) (fits 7)))

ipv6_lacks : (xs : List ℕ) → length xs ≡ 8 → ((k : ℕ) → get_or xs k 0 < 2 ^ 16)
    → All IsNotBar (ipv6_text xs)
unfolding ipv6_text
ipv6_lacks xs eight fits = cond_both (bytes_eq (take 6 xs) (0 ∷ 0 ∷ 0 ∷ 0 ∷ 0 ∷ 0xffff ∷ []))
    (codes "::ffff:" ++ ipv4_text (octets_of (drop 6 xs))) (hex_groups_text xs) (All IsNotBar)
    (λ mapped. All-append IsNotBar (codes "::ffff:") (ipv4_text (octets_of (drop 6 xs)))
    (search (rules, tests, arith)) (mapped_lacks xs eight fits))
    (λ _. All-weaker IsHexOrColon IsNotBar of_ipv6 (hex_groups_text xs) (All-hex_groups_text xs fits))

ip_lacks : (address : SocketAddr) → IsSocketAddr address → All IsNotBar (ip_text (socket_ip address))
ip_lacks (V4 a) h = ipv4_lacks a.ip.octets h.0.1
ip_lacks (V6 a) h = ipv6_lacks a.ip.segments h.0.0 h.0.1

ip_spelled : (address : SocketAddr) → IsSocketAddr address
    → IsIpText (ip_text (socket_ip address)) (socket_ip address)
ip_spelled (V4 a) h = IsDotted-ipv4_text a.ip.octets h.0.0 h.0.1
ip_spelled (V6 a) h = IsColonHex-ipv6_text a.ip.segments h.0.0 h.0.1

port_fits : (address : SocketAddr) → IsSocketAddr address → socket_port address < 65536
port_fits (V4 a) h = omega (arith, h.1)
port_fits (V6 a) h = omega (arith, h.1)

family_fits : (ip : IpAddr) → family ip < 65536
family_fits (Ip.V4 a) = lit< tt
family_fits (Ip.V6 a) = lit< tt

number_lacks : (n : ℕ) → n < 65536 → All IsNotBar (decimal n)
number_lacks n small = digits_unsplit BAR (decimal n) refl (decimal_digits n (omega (arith, small)))

written_fields : (protocol host port : Bytes) → All IsNotBar protocol → All IsNotBar host
    → All IsNotBar port
    → fields (BAR ∷ (protocol ++ BAR ∷ (host ++ BAR ∷ (port ++ BAR ∷ []))))
    ≡ Some (record { protocol = protocol; host = host; port = port })
written_fields protocol host port first second third =
    ap three_fields (slice_split_at (λ b. b == BAR) protocol BAR (host ++ BAR ∷ (port ++ BAR ∷ [])) first refl
    ∙ ap (λ parts. protocol ∷ parts) (slice_split_at (λ b. b == BAR) host BAR (port ++ BAR ∷ []) second refl)
    ∙ ap (λ parts. protocol ∷ host ∷ parts) (slice_split_at (λ b. b == BAR) port BAR [] third refl))

pub read_back : (address : SocketAddr) → IsSocketAddr address
    → IsPlainSocket address (socket_port address) → IsExtended (extended_text address) address
read_back address h plain = record {
  parts = record {
    protocol = decimal (family (socket_ip address));
    host = ip_text (socket_ip address);
    port = decimal (socket_port address);
  };
  cut = written_fields (decimal (family (socket_ip address))) (ip_text (socket_ip address))
      (decimal (socket_port address)) (number_lacks (family (socket_ip address)) (family_fits (socket_ip address)))
      (ip_lacks address h) (number_lacks (socket_port address) (port_fits address h));
  protocol = short_decimal (family (socket_ip address)) (family_fits (socket_ip address));
  host = ip_spelled address h;
  port = short_decimal (socket_port address) (port_fits address h);
  plain = plain;
}
