-- A code is known by its number, and `==` of replies compares what they say. A reply's lines lack a
-- line feed where each text in memory does.
use Rattle.std.proofs.Common.{◌≡◌, ◌↔◌, List, [], ◌∷◌, map, refl, sym, ap, ◌&&◌, string_bytes, String, Global, nat_eq, arith}
use Rattle.std.specs.Bool.{Decides}
use Rattle.std.specs.List.{AllByRecursion}
use Rattle.std.specs.String.{string_eq}
use Rattle.std.specs.Cmp.Lexicographic.{pointwise}
use Rattle.std.specs.Cmp.Derive.Mapped.{pointwise-map}
use Rattle.std.proofs.lemmas.Bool.Decides.{Decides-and, Decides-like}
use Rattle.std.proofs.lemmas.Slice.Eq.{slice_eq-Decides, bytes_eq-Decides}
use denote.Enum.Bare.{sameb, same_true, true_same}
use Rattle.unftp_control_defs.specs.Bytes.{LF, Lacks}
use Rattle.unftp_control_defs.specs.FtpReply as spec
use Rattle.unftp_control_message.specs.ReplyMeaning.{number_of, reply_of}
use Rattle.unftp_control_message.specs.contracts.reply.code.ReplyCode.{the_type}
use Rattle.unftp_control_message.specs.contracts.reply.reply.ReplyPartialEq.TheImpl.{ghosts}
use Rattle.unftp_control_message.specs.declared.reply.code.ReplyCode.{ReplyCode}
use Rattle.unftp_control_message.specs.declared.reply.reply.Reply.{Reply}
use Rattle.unftp_control_message.specs.declared.reply.reply.Reply.TheVariants.{None as nothing, CodeAndMsg, MultiLine}

-- no two codes share a number: each pair of them is computed
number_of-injective : (f g : ReplyCode) → number_of f ≡ number_of g → f ≡ g
number_of-injective f g e = grind arith

number-Decides : (f g : ReplyCode) → Decides (sameb the_type f g) (number_of f ≡ number_of g)
number-Decides f g = (
  λ t. ap number_of (same_true the_type tt f g t),
  λ e. true_same the_type f g (number_of-injective f g e),
)

lines-Decides : (xs ys : List (String Global)) →
    Decides (pointwise string_eq xs ys) (map string_bytes xs ≡ map string_bytes ys)
lines-Decides xs ys =
    slice_eq-Decides bytes_eq-Decides (map string_bytes xs) (map string_bytes ys)
    (pointwise string_eq xs ys)
    (sym (pointwise-map string_bytes (pointwise nat_eq) xs ys))

one-Decides : (f g : ReplyCode) (x y : String Global) →
    Decides (sameb the_type f g && string_eq x y)
    (spec.CodeAndMsg (number_of f) (string_bytes x) ≡ spec.CodeAndMsg (number_of g)
    (string_bytes y))
one-Decides f g x y =
    Decides-like (sameb the_type f g && string_eq x y)
    (λ p. let c = p.0 in let t = p.1 in cc) (λ e. (cc, cc))
    (Decides-and (sameb the_type f g) (string_eq x y) (number-Decides f g)
    (bytes_eq-Decides (string_bytes x) (string_bytes y)))

many-Decides : (f g : ReplyCode) (xs ys : List (String Global)) →
    Decides (sameb the_type f g && pointwise string_eq xs ys)
    (spec.MultiLine (number_of f) (map string_bytes xs) ≡ spec.MultiLine (number_of g)
    (map string_bytes ys))
many-Decides f g xs ys =
    Decides-like (sameb the_type f g && pointwise string_eq xs ys)
    (λ p. let c = p.0 in let t = p.1 in cc) (λ e. (cc, cc))
    (Decides-and (sameb the_type f g) (pointwise string_eq xs ys) (number-Decides f g)
    (lines-Decides xs ys))

pub reply-Decides : (a b : Reply) → Decides (ghosts.eq a b) (reply_of a ≡ reply_of b)
reply-Decides nothing nothing = (λ t. refl, λ e. refl)
reply-Decides (CodeAndMsg f x) (CodeAndMsg g y) = one-Decides f g x y
reply-Decides (MultiLine f x) (MultiLine g y) = many-Decides f g x.items y.items
reply-Decides _ _ = (λ t. cc, λ e. cc)

pub are_lines-map : (xs : List (String Global)) →
    AllByRecursion (λ line. Lacks LF (string_bytes line)) xs ↔ AllByRecursion (Lacks LF)
    (map string_bytes xs)
are_lines-map [] = (λ h. h, λ h. h)
are_lines-map (x ∷ xs) = let more = are_lines-map xs in
    (λ h. (h.0, more.0 h.1), λ h. (h.0, more.1 h.1))
