-- Texts one after another, with a byte between them.
use Rattle.std.proofs.{Common.{◌≡◌, ℕ, ◌≤◌, List, [], ◌∷◌, ◌++◌, length, take, map, sym, ap, ◌∙◌, append_assoc}, lemmas.List.{append-nil, take_all}}
use Rattle.std.specs.List.{join_with_byte, flat_map}

joined_is : {A : Type 0} (b : ℕ) (text : A → List ℕ) (x : A) (xs : List A) → join_with_byte b (map text (x ∷ xs)) ≡ text x ++ flat_map (λ y. b ∷ text y) xs
joined_is b text x [] = sym (append-nil (text x))
joined_is b text x (y ∷ xs) = ap (λ rest. text x ++ b ∷ rest) (joined_is b text y xs)

-- the first text, and the others each after the byte
pub appended_all : {A : Type 0} (b : ℕ) (text : A → List ℕ) (old out : List ℕ) (x : A) (xs whole : List A) → whole ≡ x ∷ xs
    → out ≡ (old ++ text x) ++ flat_map (λ y. b ∷ text y) xs → out ≡ old ++ join_with_byte b (map text whole)
appended_all b text old out x xs whole is out_is =
    out_is ∙ append_assoc old (text x) (flat_map (λ y. b ∷ text y) xs)
    ∙ ap (λ rest. old ++ rest) (sym (joined_is b text x xs) ∙ ap (λ all. join_with_byte b (map text all)) (sym is))

-- what a loop over the others appends
pub appended_loop : {A : Type 0} (b : ℕ) (text : A → List ℕ) (old begun out : List ℕ) (x : A) (xs whole : List A) (i : ℕ) → whole ≡ x ∷ xs → begun ≡ old ++ text x → length xs ≤ i
    → out ≡ begun ++ flat_map (λ y. b ∷ text y) (take i xs) → out ≡ old ++ join_with_byte b (map text whole)
appended_loop b text old begun out x xs whole i is begun_is over out_is =
    appended_all b text old out x xs whole is
    (out_is ∙ ap (λ front. front ++ flat_map (λ y. b ∷ text y) (take i xs)) begun_is ∙ ap (λ ys. (old ++ text x) ++ flat_map (λ y. b ∷ text y) ys) (take_all i xs over))
