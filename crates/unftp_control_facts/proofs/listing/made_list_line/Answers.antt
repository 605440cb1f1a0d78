use Rattle.std.proofs.Common.{◌≡◌, ◌∷◌, ◌++◌, [], ap, append_assoc, decimal, ◌∙◌}
use Rattle.unftp_control_defs.specs.Bytes.{Bytes, SP}
use Rattle.unftp_control_facts.specs.Listing.{list_front, ended_name, right}
use Rattle.unftp_control_facts.proofs.listing.made_list_line.Goals as goal

-- what is appended, piece by piece
joined : {none a b c d line : Bytes} (front size date end : Bytes) → none ≡ []
    → a ≡ none ++ front → b ≡ a ++ size → c ≡ b ++ SP ∷ [] → d ≡ c ++ date → line ≡ d ++ end
    → line ≡ front ++ size ++ SP ∷ date ++ end
joined front size date end is_none is_a is_b is_c is_d is_line = is_line
    ∙ ap (λ text. text ++ end) (is_d
    ∙ ap (λ text. text ++ date) (is_c
    ∙ ap (λ text. text ++ SP ∷ []) (is_b
    ∙ ap (λ text. text ++ size) (is_a ∙ ap (λ text. text ++ front) is_none))))
    ∙ simp append_assoc

pub returns : goal.returns
returns c =
    let dated = c.in_ok-push_date.ensures in (
      dated.0,
      rw (← c.or_epoch.ensures) dated.1,
      joined (list_front c.args.file.now) (SP ∷ right 12 (decimal c.args.file.now.size)) dated.0
          (ended_name c.args.name.now) c.new-line.ensures.items c.in_ok-push_front.ensures
          c.in_ok-push_size.ensures c.in_ok-push.ensures.items dated.2
          c.in_ok-push_name.ensures,
    )
