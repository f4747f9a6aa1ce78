-- Loops over lists.
use Rattle.std.proofs.Common.{◌≡◌, ℕ, ◌+◌, ◌<◌, ◌≤◌, List, [], ◌∷◌, ◌++◌, map, take, length, get_or, sym, ap, ◌∙◌}
use Rattle.std.proofs.lemmas.List.{map_more, take_more, take_all}

-- items are alike as far as this, and the next ones are
pub one_more : {X Y : Type 0} (f : X → Y) (xs : List X) (ys : List Y) (i : ℕ) (x : X) (y : Y)
    → i < length xs → i < length ys → x ≡ get_or xs i x → y ≡ get_or ys i y
    → map f (take i xs) ≡ take i ys → f x ≡ y → map f (take (i + 1) xs) ≡ take (i + 1) ys
one_more f xs ys i x y in_xs in_ys at_x at_y so_far same =
    map_more f xs i x in_xs
    ∙ ap (λ l. l ++ f (get_or xs i x) ∷ []) so_far
    ∙ ap (λ z. take i ys ++ z ∷ []) (ap f (sym at_x) ∙ same ∙ at_y)
    ∙ sym (take_more ys i y in_ys)

pub alike_at_end : {X Y : Type 0} (f : X → Y) (xs : List X) (ys : List Y) (i : ℕ)
    → length xs ≤ i → length ys ≤ i → map f (take i xs) ≡ take i ys → map f xs ≡ ys
alike_at_end f xs ys i past_x past_y so_far =
    ap (map f) (sym (take_all i xs past_x)) ∙ so_far ∙ take_all i ys past_y
