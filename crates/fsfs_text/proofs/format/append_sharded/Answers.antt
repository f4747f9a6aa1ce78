use Rattle.std.proofs.Common.{ap, ◌∙◌, append_assoc, List, [], ◌∷◌, ◌++◌}
use Rattle.std.specs.Prelude.{ℕ, codes}
use Rattle.fsfs_text.specs.Numerals.{numeral}
use Rattle.fsfs_text.proofs.format.append_sharded.Goals as goal

pub returns : goal.returns
returns c =
    let out = c.args.out.now.items in
    let word : List ℕ = codes "layout sharded " in
    let digits = numeral 10 c.args.size in
    c.in_ok-push.ensures.items
    ∙ ap (λ (l : List ℕ). l ++ 10 ∷ []) (c.in_ok-append_number.ensures ∙ ap (λ (l : List ℕ). l ++ digits) c.in_ok-extend_from_slice.ensures.items)
    ∙ append_assoc (out ++ word) digits (10 ∷ []) ∙ append_assoc out word (digits ++ 10 ∷ [])
