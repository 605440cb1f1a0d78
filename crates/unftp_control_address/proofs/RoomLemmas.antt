-- How many bytes the text of an address has.
use Rattle.std.proofs.Common.{◌≡◌, ℕ, ◌+◌, ◌*◌, ◌<◌, ◌≤◌, ◌/◌, ◌%◌, ◌^◌, length, drop, take, get_or, List, [], ◌∷◌, ◌++◌, codes, decimal, flat_map, bytes_eq, nat_lt, ap, arith, ltb-true, length-append, length-drop, length-take-le, lit<}
use Rattle.std.proofs.lemmas.Bool.{cond_both}
use Rattle.std.proofs.lemmas.Fmt.{length-decimal-le}
use Rattle.std.proofs.NetLemmas.Texts.{IsZeroRun-longest_zero_run}
use Rattle.std.proofs.NetLemmas.Arrays.{eight_items}
use Rattle.std.specs.Net.Addr.{ipv4_octets, ipv6_segments, octets_of}
use Rattle.std.specs.declared.net.socket_addr.SocketAddr.{SocketAddr}
use Rattle.std.specs.declared.net.socket_addr.SocketAddr.TheVariants.{V4 as v4, V6 as v6}
use Rattle.std.specs.Net.Socket.{IsSocketAddr, socket_ip, socket_port}
use Rattle.std.specs.Net.Text.{groups_text, hex, hex_groups_text, ip_text, ipv4_text, ipv6_text, leading_zero_digits, longest_zero_run}
use Rattle.std.specs.Char.{digit_char}
use Rattle.std.specs.declared.net.ip_addr.IpAddr.{IpAddr}
use Rattle.std.specs.declared.net.ip_addr.IpAddr.TheVariants.{V4, V6}
use Rattle.unftp_control_defs.specs.Bytes.{Bytes}
use Rattle.unftp_control_address.specs.Extended.{BAR, DOT, family, extended_port_text, extended_text}
use Rattle.unftp_control_address.specs.HostPorts.{COMMA, host_port_text, joined_numbers}
use Rattle.unftp_control_address.proofs.ExtendedLawLemmas.{octets_fit}
use Rattle.unftp_control_address.proofs.TextLemmas.{dotted}

octet_room : (n : ℕ) → n < 256 → length (decimal n) ≤ 3
octet_room n small = length-decimal-le 3 n (lit< tt) (omega (arith, small)) (omega (arith, small))

short_room : (n : ℕ) → n < 65536 → length (decimal n) ≤ 5
short_room n small = length-decimal-le 5 n (lit< tt) (omega (arith, small)) (omega (arith, small))

one_more : (separator n : ℕ) (m : ℕ) (ns : List ℕ) → n < 256
    → length (joined_numbers separator (n ∷ m ∷ ns)) ≤ 4 + length (joined_numbers separator (m ∷ ns))
one_more separator n m ns small = omega (
  arith,
  octet_room n small,
  length-append (decimal n) (separator ∷ joined_numbers separator (m ∷ ns)),
)

pub host_port_room : (host : Bytes) (port : ℕ) → length host ≡ 4
    → ((k : ℕ) → get_or host k 0 < 256) → port < 65536
    → length (host_port_text (host, port)) ≤ 23
host_port_room (a ∷ b ∷ c ∷ d ∷ []) port four small fits = omega (
  arith,
  one_more COMMA a b (c ∷ d ∷ (port / 256) ∷ (port % 256) ∷ []) (small 0),
  one_more COMMA b c (d ∷ (port / 256) ∷ (port % 256) ∷ []) (small 1),
  one_more COMMA c d ((port / 256) ∷ (port % 256) ∷ []) (small 2),
  one_more COMMA d (port / 256) ((port % 256) ∷ []) (small 3),
  one_more COMMA (port / 256) (port % 256) [] (omega (arith, fits)),
  octet_room (port % 256) (omega (arith, fits)),
)
host_port_room [] port four small fits = absurd (omega (arith, four))
host_port_room (a ∷ []) port four small fits = absurd (omega (arith, four))
host_port_room (a ∷ b ∷ []) port four small fits = absurd (omega (arith, four))
host_port_room (a ∷ b ∷ c ∷ []) port four small fits = absurd (omega (arith, four))
host_port_room (a ∷ b ∷ c ∷ d ∷ e ∷ host) port four small fits = absurd (omega (arith, four))

ipv4_room : (host : Bytes) → ((k : ℕ) → get_or host k 0 < 256) → length (ipv4_text host) ≤ 15
ipv4_room host small =
    let a = decimal (get_or host 0 0) in
    let b = decimal (get_or host 1 0) in
    let c = decimal (get_or host 2 0) in
    let d = decimal (get_or host 3 0) in
    omega (
      arith,
      octet_room (get_or host 0 0) (small 0),
      octet_room (get_or host 1 0) (small 1),
      octet_room (get_or host 2 0) (small 2),
      octet_room (get_or host 3 0) (small 3),
      ap length (dotted a b c d),
      length-append a (DOT ∷ (b ++ DOT ∷ (c ++ DOT ∷ d))),
      length-append b (DOT ∷ (c ++ DOT ∷ d)),
      length-append c (DOT ∷ d),
    )

hex_room : (n : ℕ) → length (hex n) ≤ 4
unfolding hex
hex_room n = omega (
  arith,
  length-drop (leading_zero_digits n)
      (digit_char (n / 0x1000) ∷ digit_char (n / 0x100 % 16) ∷ digit_char (n / 0x10 % 16)
      ∷ digit_char (n % 16) ∷ []),
)

next_room : (segments : List ℕ)
    → length (flat_map (λ s. codes ":" ++ hex s) segments) ≤ 5 * length segments
next_room [] = omega arith
next_room (s ∷ segments) = omega (
  arith,
  length-append (codes ":" ++ hex s) (flat_map (λ s. codes ":" ++ hex s) segments),
  hex_room s,
  next_room segments,
)

some_room : (s : ℕ) (segments : List ℕ)
    → length (groups_text (s ∷ segments)) ≤ 4 + 5 * length segments
some_room s segments = omega (
  arith,
  length-append (hex s) (flat_map (λ s. codes ":" ++ hex s) segments),
  hex_room s,
  next_room segments,
)

groups_room : (segments : List ℕ) → length (groups_text segments) ≤ 5 * length segments
groups_room [] = omega arith
groups_room (s ∷ segments) = omega (arith, some_room s segments)

eight_room : (segments : List ℕ) → length segments ≡ 8 → length (groups_text segments) ≤ 39
eight_room [] eight = absurd (omega (arith, eight))
eight_room (s ∷ segments) eight = omega (arith, some_room s segments, eight)

two_sides : (segments : List ℕ) → length segments ≡ 8 → 1 < (longest_zero_run segments).1
    → length (groups_text (take (longest_zero_run segments).0 segments) ++ codes "::"
    ++ groups_text (drop ((longest_zero_run segments).0 + (longest_zero_run segments).1) segments)) ≤ 39
two_sides segments eight long =
    let run = longest_zero_run segments in
    let before = take run.0 segments in
    let later = drop (run.0 + run.1) segments in
    omega (
      arith,
      eight,
      long,
      (IsZeroRun-longest_zero_run segments).0,
      groups_room before,
      groups_room later,
      length-take-le run.0 segments (omega (arith, (IsZeroRun-longest_zero_run segments).0)),
      length-drop (run.0 + run.1) segments,
      length-append (groups_text before) (codes "::"),
      length-append (groups_text before ++ codes "::") (groups_text later),
    )

hex_groups_room : (segments : List ℕ) → length segments ≡ 8 → length (hex_groups_text segments) ≤ 39
unfolding hex_groups_text
hex_groups_room segments eight =
    let run = longest_zero_run segments in
    cond_both (nat_lt 1 run.1)
    (groups_text (take run.0 segments) ++ codes "::" ++ groups_text (drop (run.0 + run.1) segments))
    (groups_text segments) (λ text. length text ≤ 39)
    (λ long. two_sides segments eight (ltb-true 1 run.1 long)) (λ _. eight_room segments eight)

mapped_room : (segments : List ℕ) → length segments ≡ 8 → ((k : ℕ) → get_or segments k 0 < 2 ^ 16)
    → length (ipv4_text (octets_of (drop 6 segments))) ≤ 15
mapped_room segments eight fits =
    let tail : drop 6 segments ≡ get_or segments 6 0 ∷ get_or segments 7 0 ∷ [] =
    ap (λ t. drop 6 t) (eight_items segments eight) in
    rw tail (ipv4_room (octets_of (get_or segments 6 0 ∷ get_or segments 7 0 ∷ []))
    (λ k. octets_fit (get_or segments 6 0) (get_or segments 7 0) k (fits 6) (fits 7)))

ipv6_room : (segments : List ℕ) → length segments ≡ 8 → ((k : ℕ) → get_or segments k 0 < 2 ^ 16)
    → length (ipv6_text segments) ≤ 39
unfolding ipv6_text
ipv6_room segments eight fits =
    cond_both (bytes_eq (take 6 segments) (0 ∷ 0 ∷ 0 ∷ 0 ∷ 0 ∷ 0xffff ∷ []))
    (codes "::ffff:" ++ ipv4_text (octets_of (drop 6 segments))) (hex_groups_text segments)
    (λ text. length text ≤ 39)
    (λ _. omega (
      arith,
      length-append (codes "::ffff:") (ipv4_text (octets_of (drop 6 segments))),
      mapped_room segments eight fits,
    ))
    (λ _. hex_groups_room segments eight)

-- the numbers of a host fit their types
abbrev pub IsSmall : IpAddr → Type 0
IsSmall (V4 ip) = (k : ℕ) → get_or (ipv4_octets ip) k 0 < 256
IsSmall (V6 ip) = (length (ipv6_segments ip) ≡ 8) × ((k : ℕ) → get_or (ipv6_segments ip) k 0 < 2 ^ 16)

host_room : (ip : IpAddr) → IsSmall ip → length (ip_text ip) ≤ 39
host_room (V4 ip) small = omega (arith, ipv4_room (ipv4_octets ip) small)
host_room (V6 ip) small = ipv6_room (ipv6_segments ip) small.0 small.1

family_room : (ip : IpAddr) → length (decimal (family ip)) ≤ 1
family_room (V4 ip) = length-decimal-le 1 1 (lit< tt) (omega arith) (omega arith)
family_room (V6 ip) = length-decimal-le 1 2 (lit< tt) (omega arith) (omega arith)

pub extended_room : (address : SocketAddr) → IsSmall (socket_ip address)
    → socket_port address < 65536 → length (extended_text address) ≤ 49
extended_room address small fits =
    let ip = ip_text (socket_ip address) in
    let port = decimal (socket_port address) in
    omega (
      arith,
      family_room (socket_ip address),
      host_room (socket_ip address) small,
      short_room (socket_port address) fits,
      length-append (decimal (family (socket_ip address))) (BAR ∷ (ip ++ BAR ∷ (port ++ BAR ∷ []))),
      length-append ip (BAR ∷ (port ++ BAR ∷ [])),
      length-append port (BAR ∷ []),
    )

pub written_room : (address : SocketAddr) → IsSocketAddr address
    → length (extended_text address) ≤ 49
written_room (v4 a) h = extended_room (v4 a) h.0.1 (omega (arith, h.1))
written_room (v6 a) h = extended_room (v6 a) h.0 (omega (arith, h.1))

pub extended_port_room : (port : ℕ) → port < 65536 → length (extended_port_text port) ≤ 11
extended_port_room port fits = omega (
  arith,
  short_room port fits,
  length-append (codes "(|||" ++ decimal port) (codes "|)"),
  length-append (codes "(|||") (decimal port),
)
