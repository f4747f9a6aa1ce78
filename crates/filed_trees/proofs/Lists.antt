-- Lists whose items are the same one after another.
use Rattle.std.proofs.{Common.{◌≡◌, ℕ, ◌+◌, ◌<◌, ◌≤◌, List, [], ◌∷◌, ◌++◌, take, length, get_or, sym, ap, ◌∙◌}, lemmas.List.{take_more, take_all}}

-- items are the same as far as this, and the next ones are
pub same_more : {X : Type 0} (xs ys : List X) (i : ℕ) (x y : X)
    → i < length xs → i < length ys → x ≡ get_or xs i x → y ≡ get_or ys i y
    → take i xs ≡ take i ys → x ≡ y → take (i + 1) xs ≡ take (i + 1) ys
same_more xs ys i x y in_xs in_ys at_x at_y so_far same =
    take_more xs i x in_xs
    ∙ ap (λ l. l ++ get_or xs i x ∷ []) so_far
    ∙ ap (λ z. take i ys ++ z ∷ []) (sym at_x ∙ same ∙ at_y)
    ∙ sym (take_more ys i y in_ys)

pub same_at_end : {X : Type 0} (xs ys : List X) (i : ℕ) → length xs ≤ i → length ys ≤ i
    → take i xs ≡ take i ys → xs ≡ ys
same_at_end xs ys i past_x past_y so_far = sym (take_all i xs past_x) ∙ so_far ∙ take_all i ys past_y
