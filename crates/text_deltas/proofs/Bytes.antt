-- The bytes of integers.
use Rattle.std.proofs.{Common.{◌≡◌, ℕ, ◌+◌, ◌/◌, ◌%◌, ◌<◌, List, [], ◌∷◌, ◌++◌, map, sym, ap, ◌∙◌, append_assoc, lit≤}, lemmas.Int.Digits.digits_of_step}
use Rattle.std.proofs.lemmas.List.{map-append}
use Rattle.std.specs.Int.Digits.{digits_of}

-- one group more
pub groups_more : (old mid new : List ℕ) (n : ℕ) → 0 < n → mid ≡ old ++ map (λ d. 128 + d) (digits_of 128 (n / 128))
    → new ≡ mid ++ (128 + n % 128) ∷ [] → new ≡ old ++ map (λ d. 128 + d) (digits_of 128 n)
groups_more old mid new n h e f =
    f ∙ (ap (λ t. t ++ (128 + n % 128) ∷ []) e ∙ (append_assoc old (map (λ d. 128 + d) (digits_of 128 (n / 128))) ((128 + n % 128) ∷ [])
    ∙ ap (λ t. old ++ t) (sym (ap (map (λ d. 128 + d)) (digits_of_step 128 n (lit≤ tt) h) ∙ map-append (λ d. 128 + d) (digits_of 128 (n / 128)) (n % 128 ∷ [])))))
