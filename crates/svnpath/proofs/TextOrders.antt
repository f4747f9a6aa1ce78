-- Texts that are compared byte by byte.
use Rattle.std.proofs.{Common.{◌≡◌, ℕ, List, ◌∷◌, refl, sym, ap, ◌∙◌}, lemmas.Cmp.{ranked, tied_itself, nat_cmp_total}}
use Rattle.std.specs.{Cmp.Lexicographic.{slice_cmp, bytes_decides, texts_ties}, Ordering.{nat_cmp, ordering_then, is_eq}, declared.cmp.Ordering.Ordering}
use Rattle.std.specs.declared.cmp.Ordering.TheVariants.{Less, Equal, Greater}

-- behind the same byte the rest decides
pub same_first : (s t : List ℕ) (a b : ℕ) (xs ys : List ℕ) → s ≡ a ∷ xs → t ≡ b ∷ ys → a ≡ b → slice_cmp nat_cmp s t ≡ slice_cmp nat_cmp xs ys
same_first s t a b xs ys mine theirs same =
    (λ i. slice_cmp nat_cmp (mine i) (theirs i))
    ∙ ap (λ o. ordering_then o (slice_cmp nat_cmp xs ys)) (ap (nat_cmp a) (sym same) ∙ tied_itself nat_cmp_total a)

-- other first bytes decide
pub first_decides : (s t : List ℕ) (a b : ℕ) (xs ys : List ℕ) → s ≡ a ∷ xs → t ≡ b ∷ ys → (a ≡ b → ⊥) → slice_cmp nat_cmp s t ≡ nat_cmp a b
first_decides s t a b xs ys mine theirs apart =
    (λ i. slice_cmp nat_cmp (mine i) (theirs i)) ∙ by (nat_cmp a b) refl
  where
    by : (o : Ordering) → nat_cmp a b ≡ o → ordering_then o (slice_cmp nat_cmp xs ys) ≡ o
    by Less is = refl
    by Equal is = absurd (apart (ranked a b Equal (sym is)))
    by Greater is = refl

-- texts that tie are one text
pub same_texts : (xs ys : List ℕ) → slice_cmp nat_cmp xs ys ≡ Equal → xs ≡ ys
same_texts xs ys tied = (bytes_decides xs ys).0 (texts_ties xs ys ∙ ap is_eq tied)
