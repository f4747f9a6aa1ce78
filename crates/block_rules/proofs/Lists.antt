-- Loops over lists.
use Rattle.std.proofs.Common.{◌≡◌, ℕ, ◌+◌, ◌<◌, ◌≤◌, List, [], ◌∷◌, ◌++◌, map, take, length, get_or, sym, ap, ◌∙◌}
use Rattle.std.proofs.lemmas.List.{get_or-map, map_more, take_all}

-- items are alike as far as this, and the next ones are
pub both_more : {X Y : Type 0} (f : X → Y) (xs ys : List X) (i : ℕ) (x y : X)
    → i < length xs → i < length ys → x ≡ get_or xs i x → y ≡ get_or ys i y
    → map f (take i xs) ≡ map f (take i ys) → f x ≡ f y → map f (take (i + 1) xs) ≡ map f (take (i + 1) ys)
both_more f xs ys i x y in_xs in_ys at_x at_y so_far same =
    map_more f xs i x in_xs
    ∙ ap (λ l. l ++ f (get_or xs i x) ∷ []) so_far
    ∙ ap (λ z. map f (take i ys) ++ z ∷ []) (ap f (sym at_x) ∙ same ∙ ap f at_y)
    ∙ sym (map_more f ys i y in_ys)

pub both_at_end : {X Y : Type 0} (f : X → Y) (xs ys : List X) (i : ℕ) → length xs ≤ i → length ys ≤ i
    → map f (take i xs) ≡ map f (take i ys) → map f xs ≡ map f ys
both_at_end f xs ys i past_x past_y so_far = ap (map f) (sym (take_all i xs past_x)) ∙ so_far ∙ ap (map f) (take_all i ys past_y)

-- lists that are alike are alike at each place
pub same_at : {X Y : Type 0} (f : X → Y) (xs ys : List X) (i : ℕ) (x y : X)
    → i < length xs → i < length ys → x ≡ get_or xs i x → y ≡ get_or ys i y → map f xs ≡ map f ys → f x ≡ f y
same_at f xs ys i x y in_xs in_ys at_x at_y same =
    ap f at_x ∙ sym (get_or-map f xs i x (f y) in_xs) ∙ ap (λ l. get_or l i (f y)) same
    ∙ get_or-map f ys i y (f y) in_ys ∙ ap f (sym at_y)
