-- What is written is read back.
use Rattle.std.proofs.Common.{◌++◌, ◌+◌, codes, flat_map, append-nil, append_assoc, length-append, suc, sym, take, zero, ◌≡◌, ◌<◌, ◌≤◌, ◌/◌, ◌%◌, ◌==◌, ℕ, false, length, get_or, drop, List, [], ◌∷◌, Some, decimal, refl, ◌∙◌, ap, arith, lit<, lit≤, eq-eqb}
use Rattle.std.proofs.lemmas.Bool.{lt-ltb}
use Rattle.std.specs.Char.{is_ascii_digit}
use Rattle.std.specs.List.{All, AllByRecursion}
use Rattle.std.specs.Int.{IsInRange}
use Rattle.std.proofs.lemmas.Str.Parse.{digit_at}
use Rattle.std.proofs.lemmas.List.Elements.{All-append, All-cons, All-from_get_or}
use Rattle.std.proofs.lemmas.Fmt.{decimal_nonempty, digits_decimal, digits_value-decimal, length-decimal-le}
use Rattle.std.proofs.lemmas.List.Splits.{slice_split_at}
use Rattle.std.specs.Net.Text.{ipv4_text}
use Rattle.unftp_control_defs.specs.Bytes.{Bytes}
use Rattle.unftp_control_address.specs.Extended.{DOT}
use Rattle.unftp_control_address.specs.Numbers.{number_below, octet, octets, octets_between, onto}
use Rattle.unftp_control_address.specs.HostPorts.{COMMA, host_port, host_port_text, joined_numbers}
use Rattle.unftp_control_address.proofs.NumberLemmas.{AreDigits, own, is_number_of}
use Rattle.unftp_control_address.proofs.OctetLemmas.{digits_unsplit, one}

pub decimal_digits : (n : ℕ) → n < 100000 → AreDigits (decimal n)
decimal_digits n small = digits_decimal own n (omega (arith, small))

-- a number in decimal is read as the number
pub number_decimal : (most bound n : ℕ) → n < bound → bound ≤ 100000 → length (decimal n) ≤ most
    → number_below most bound (decimal n) ≡ Some n
number_decimal most bound n small wide short =
    let value = digits_value-decimal own n (omega (arith, small, wide)) in
    let some = decimal_nonempty n (omega (arith, small, wide)) in
    rw (is_number_of most (decimal n) (decimal_digits n (omega (arith, small, wide))) short some, value, lt-ltb n bound small) refl

pub octet_decimal : (n : ℕ) → n < 256 → octet (decimal n) ≡ Some n
octet_decimal n small = number_decimal 3 256 n small (lit≤ tt)
    (length-decimal-le 3 n (lit< tt) (omega (arith, small)) (omega (arith, small)))

-- each byte of a number in decimal, and of numbers with separators
pub each_digit : (P : ℕ → Type 0) → ((b : ℕ) → IsInRange 48 57 b → P b) → (n : ℕ) → n < 100000
    → All P (decimal n)
each_digit P h n small = All-from_get_or P (decimal n) 0
    (λ i within. h (get_or (decimal n) i 0) (digit_at (decimal n) i (own.to (decimal n) (decimal_digits n small)) within))

pub each_joined : (P : ℕ → Type 0) → ((b : ℕ) → IsInRange 48 57 b → P b) → (separator : ℕ) → P separator
    → (n : ℕ) (ns : List ℕ) → n < 256 → AllByRecursion (λ m. m < 256) ns
    → All P (joined_numbers separator (n ∷ ns))
each_joined P h separator here n [] small all = each_digit P h n (omega (arith, small))
each_joined P h separator here n (m ∷ ns) small all =
    All-append P (decimal n) (separator ∷ joined_numbers separator (m ∷ ns))
    (each_digit P h n (omega (arith, small)))
    (All-cons P separator (joined_numbers separator (m ∷ ns)) here
    (each_joined P h separator here m ns all.0 all.1))

pub joined_octets : (separator : ℕ) → is_ascii_digit separator ≡ false → (n : ℕ) (ns : List ℕ)
    → n < 256 → AllByRecursion (λ m. m < 256) ns
    → octets_between separator (joined_numbers separator (n ∷ ns)) ≡ Some (n ∷ ns)
joined_octets separator h n [] small all = one separator (decimal n) n h (octet_decimal n small)
joined_octets separator h n (m ∷ ns) small all =
    ap octets (slice_split_at (λ b. b == separator) (decimal n) separator
    (joined_numbers separator (m ∷ ns))
    (digits_unsplit separator (decimal n) h (decimal_digits n (omega (arith, small))))
    (eq-eqb separator separator refl))
    ∙ ap (λ first. onto first (octets_between separator (joined_numbers separator (m ∷ ns))))
    (octet_decimal n small)
    ∙ ap (onto (Some n)) (joined_octets separator h m ns all.0 all.1)

pub read_back : (a b c d port : ℕ) → a < 256 → b < 256 → c < 256 → d < 256 → port < 65536
    → host_port (host_port_text ((a ∷ b ∷ c ∷ d ∷ [], port)))
    ≡ Some ((a ∷ b ∷ c ∷ d ∷ [], port))
read_back a b c d port ha hb hc hd hp =
    rw (joined_octets COMMA refl a (b ∷ c ∷ d ∷ (port / 256) ∷ (port % 256) ∷ []) ha
    (hb, (hc, (hd, (omega (arith, hp), (omega (arith, hp), tt))))))
    (ap (λ p. Some ((a ∷ b ∷ c ∷ d ∷ [], p))) (omega (arith, hp)))

pub read_back_of : (host : List ℕ) (port : ℕ) → length host ≡ 4 → ((i : ℕ) → get_or host i 0 < 256)
    → port < 65536
    → host_port (host_port_text (host, port))
    ≡ Some (host, port)
read_back_of (a ∷ b ∷ c ∷ d ∷ []) port four small fits =
    read_back a b c d port (small 0) (small 1) (small 2) (small 3) fits
read_back_of [] port four small fits = absurd (omega (arith, four))
read_back_of (a ∷ []) port four small fits = absurd (omega (arith, four))
read_back_of (a ∷ b ∷ []) port four small fits = absurd (omega (arith, four))
read_back_of (a ∷ b ∷ c ∷ []) port four small fits = absurd (omega (arith, four))
read_back_of (a ∷ b ∷ c ∷ d ∷ e ∷ host) port four small fits = absurd (omega (arith, four))

-- numbers with a separator between them: the first, and the separator and a number for each other
joined : (separator n : ℕ) (ns : List ℕ) → joined_numbers separator (n ∷ ns)
    ≡ decimal n ++ flat_map (λ m. separator ∷ decimal m) ns
joined separator n [] = sym (append-nil (decimal n))
joined separator n (m ∷ ns) = ap (λ text. decimal n ++ separator ∷ text) (joined separator m ns)

pub joined_whole : (separator : ℕ) (ns : List ℕ) → 1 ≤ length ns → joined_numbers separator ns
    ≡ decimal (get_or ns 0 0) ++ flat_map (λ m. separator ∷ decimal m) (drop 1 ns)
joined_whole separator [] some = absurd (omega (arith, some))
joined_whole separator (n ∷ ns) some = joined separator n ns

pub dotted : (a b c d : Bytes) → a ++ codes "." ++ b ++ codes "." ++ c ++ codes "." ++ d
    ≡ a ++ DOT ∷ (b ++ DOT ∷ (c ++ DOT ∷ d))
dotted a b c d =
    append_assoc (a ++ codes "." ++ b ++ codes "." ++ c) (codes ".") d
    ∙ append_assoc (a ++ codes "." ++ b ++ codes ".") c (DOT ∷ d)
    ∙ append_assoc (a ++ codes "." ++ b) (codes ".") (c ++ DOT ∷ d)
    ∙ append_assoc (a ++ codes ".") b (DOT ∷ (c ++ DOT ∷ d))
    ∙ append_assoc a (codes ".") (b ++ DOT ∷ (c ++ DOT ∷ d))

-- the text of an IPv4 address
pub ipv4_joined : (host : List ℕ) → length host ≡ 4 → ipv4_text host ≡ joined_numbers DOT host
ipv4_joined (a ∷ b ∷ c ∷ d ∷ []) four = dotted (decimal a) (decimal b) (decimal c) (decimal d)
ipv4_joined [] four = absurd (omega (arith, four))
ipv4_joined (a ∷ []) four = absurd (omega (arith, four))
ipv4_joined (a ∷ b ∷ []) four = absurd (omega (arith, four))
ipv4_joined (a ∷ b ∷ c ∷ []) four = absurd (omega (arith, four))
ipv4_joined (a ∷ b ∷ c ∷ d ∷ e ∷ host) four = absurd (omega (arith, four))

-- the texts up to one, and that one, are at most all
pub so_far : (f : ℕ → Bytes) (ns : List ℕ) (i d : ℕ) → i < length ns
    → length (flat_map f (take i ns)) + length (f (get_or ns i d)) ≤ length (flat_map f ns)
so_far f [] i d small = absurd (omega (arith, small))
so_far f (n ∷ ns) zero d small = omega (arith, length-append (f n) (flat_map f ns))
so_far f (n ∷ ns) (suc i) d small = omega (
  arith,
  length-append (f n) (flat_map f ns),
  length-append (f n) (flat_map f (take i ns)),
  so_far f ns i d (omega (arith, small)),
)
