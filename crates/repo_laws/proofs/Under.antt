-- Which paths lie under which.
use Rattle.std.proofs.Common.{◌≡◌, ◌⊎◌, inl, inr, Bool, true, false, [], ◌∷◌, ◌++◌, length, drop, refl, sym, ap, subst, append_assoc, ◌∙◌}
use Rattle.std.proofs.lemmas.Bool.{false≢true}
use Rattle.svnpath.specs.{PathLaws.{same_path_is, under_append, under_is, under_itself}, Paths.{Component, is_at_or_under, PathValue, same_path}}

pub not_true : (b : Bool) → (b ≡ true → ⊥) → b ≡ false
not_true true h = absurd (h refl)
not_true false h = refl

-- what begins another path has it under it
pub under_by : (q p rest : PathValue) → q ≡ p ++ rest → is_at_or_under q p ≡ true
under_by q p rest is = subst (λ (x : PathValue). is_at_or_under x p ≡ true) (sym is) (under_append p rest)

pub under_through : (q m p : PathValue) → is_at_or_under q m ≡ true → is_at_or_under m p ≡ true → is_at_or_under q p ≡ true
under_through q m p qm mp =
    under_by q p (drop (length p) m ++ drop (length m) q)
    (under_is q m qm ∙ ap (λ (x : PathValue). x ++ drop (length m) q) (under_is m p mp) ∙ append_assoc p (drop (length p) m) (drop (length m) q))

-- what isn't above a path isn't above it further down
pub not_above_beneath : (p q rest : PathValue) → is_at_or_under p q ≡ false → is_at_or_under p (q ++ rest) ≡ false
not_above_beneath p q rest h = not_true (is_at_or_under p (q ++ rest)) (λ u. false≢true (sym h ∙ under_through p (q ++ rest) q u (under_append q rest)))

pub not_same : (p q : PathValue) → is_at_or_under p q ≡ false → same_path p q ≡ false
not_same p q h = not_true (same_path p q) (λ s. false≢true (sym h ∙ subst (λ (x : PathValue). is_at_or_under p x ≡ true) (same_path_is p q s) (under_itself p)))

abbrev pub head_or : Component → PathValue → Component
head_or e [] = e
head_or e (c ∷ p) = c

abbrev pub tail_of : PathValue → PathValue
tail_of [] = []
tail_of (c ∷ p) = p

-- of two paths that begin one path, one begins the other
pub one_above : (p q d r : PathValue) → p ++ d ≡ q ++ r → (is_at_or_under p q ≡ true) ⊎ (is_at_or_under q p ≡ true)
one_above [] q d r is = inr (under_append [] q)
one_above (c ∷ p) [] d r is = inl (under_append [] (c ∷ p))
one_above (c ∷ p) (e ∷ q) d r is = by (one_above p q d r (ap tail_of is))
  where
    heads : c ≡ e
    heads = ap (head_or e) is

    by : (is_at_or_under p q ≡ true) ⊎ (is_at_or_under q p ≡ true) → (is_at_or_under (c ∷ p) (e ∷ q) ≡ true) ⊎ (is_at_or_under (e ∷ q) (c ∷ p) ≡ true)
    by (inl u) = inl (under_by (c ∷ p) (e ∷ q) (drop (length q) p) (λ i. heads i ∷ under_is p q u i))
    by (inr u) = inr (under_by (e ∷ q) (c ∷ p) (drop (length p) q) (λ i. sym heads i ∷ under_is q p u i))

-- what is neither above nor under a path has nothing under it that is
pub apart_beneath : (p q rest : PathValue) → is_at_or_under q p ≡ false → is_at_or_under p q ≡ false → is_at_or_under (q ++ rest) p ≡ false
apart_beneath p q rest out in_not = not_true (is_at_or_under (q ++ rest) p) (λ u. by (one_above p q (drop (length p) (q ++ rest)) rest (sym (under_is (q ++ rest) p u))))
  where
    by : (is_at_or_under p q ≡ true) ⊎ (is_at_or_under q p ≡ true) → ⊥
    by (inl h) = false≢true (sym in_not ∙ h)
    by (inr h) = false≢true (sym out ∙ h)
