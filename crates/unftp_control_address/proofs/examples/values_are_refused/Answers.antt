use Rattle.std.proofs.Common.{◌≡◌, ℕ, Option, None, Some, codes, refl, sym, ap, arith, ◌∙◌}
use Rattle.std.proofs.lemmas.Option.{none-some, same_Some}
use Rattle.unftp_control_defs.specs.Bytes.{Bytes}
use Rattle.unftp_control_address.specs.Extended.{Fields, HasOtherProtocol, fields}
use Rattle.unftp_control_address.specs.Numbers.{short}
use Rattle.unftp_control_address.proofs.examples.values_are_refused.Goals as goal

-- the number of the protocol is that of the fields which the value has
same_number : {value : Bytes} (parts : Fields) (n : Option ℕ) → fields value ≡ Some parts
    → short parts.protocol ≡ n → (other : HasOtherProtocol value) → n ≡ Some other.number
same_number parts n cut is other = sym is
    ∙ ap (λ (parts : Fields). short parts.protocol) (same_Some _ _ (sym cut ∙ other.cut))
    ∙ other.protocol

abbrev parts_of : Bytes → Bytes → Bytes → Fields
parts_of protocol host port = record { protocol = protocol; host = host; port = port }

pub returns : goal.returns
returns c = record {
  other_protocol = record {
    parts = parts_of (codes "3") (codes "x") (codes "y");
    cut = refl;
    number = 3;
    protocol = refl;
    not_ipv4 = λ is. absurd (cc);
    not_ipv6 = λ is. absurd (cc);
  };
  ipv4 = λ other. other.not_ipv4 (sym (same_Some _ _
      (same_number (parts_of (codes "1") (codes "10.0.0.1") (codes "80")) (Some 1) refl refl other)));
  ipv6 = λ other. other.not_ipv6 (sym (same_Some _ _
      (same_number (parts_of (codes "2") (codes "::1") (codes "80")) (Some 2) refl refl other)));
  no_number = (
    λ other. none-some _
        (same_number (parts_of (codes "x") (codes "10.0.0.1") (codes "80")) None refl refl other),
    λ address is. none-some _
        (ap (λ (parts : Fields). short parts.protocol) (same_Some _ _ is.cut) ∙ is.protocol),
  );
  port_too_great = (
    λ other. other.not_ipv4 (sym (same_Some _ _ (same_number
        (parts_of (codes "1") (codes "10.0.0.1") (codes "65536")) (Some 1) refl refl other))),
    λ address is. none-some _
        (ap (λ (parts : Fields). short parts.port) (same_Some _ _ is.cut) ∙ is.port),
  );
  not_ended = λ address is. none-some _ is.cut;
  other_host = (λ is. omega (arith, is), λ is. omega (arith, is));
  known_host = λ why. why.1 refl;
}
