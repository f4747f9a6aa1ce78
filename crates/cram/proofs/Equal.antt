-- Two texts are the same where no pair of bytes differs in a bit.
use Rattle.std.proofs.{Common.{◌≡◌, ◌↔◌, ℕ, ◌+◌, ◌<◌, List, length, get_or, min, refl, sym, ap, ◌∙◌, arith, below_more}, lemmas.Nat.{le_or_l, le_or_r}}
use Rattle.std.proofs.lemmas.List.{ext_get_or}
use Rattle.std.specs.Int.Bits.{bit_or, bit_xor, xor_self, xor_zero_l, xor_zero_r, xor_assoc, or_zero_l}

-- the first bytes of the two texts are the same exactly where the difference is 0
pub record IsDifference (these those : List ℕ) (count difference : ℕ) : Type 0 where
  pub same : difference ≡ 0 → (k : ℕ) → k < count → get_or these k 0 ≡ get_or those k 0
  pub none : ((k : ℕ) → k < count → get_or these k 0 ≡ get_or those k 0) → difference ≡ 0

same_from_xor : (a b : ℕ) → bit_xor a b ≡ 0 → a ≡ b
same_from_xor a b h = sym (xor_zero_r a) ∙ ap (bit_xor a) (sym (xor_self b)) ∙ sym (xor_assoc a b b) ∙ ap (λ x. bit_xor x b) h ∙ xor_zero_l b

pub difference_none : (these those : List ℕ) → IsDifference these those 0 0
difference_none these those = record { same = λ h k below. absurd (omega arith); none = λ h. refl }

pub difference_more : (these those : List ℕ) (count difference this that : ℕ) → IsDifference these those count difference → this ≡ get_or these count 0 → that ≡ get_or those count 0 → IsDifference these those (count + 1) (bit_or difference (bit_xor this that))
difference_more these those count difference this that h here there =
    record {
      same = λ zero. below_more _ _ (h.same (omega (arith, le_or_l difference (bit_xor this that), zero))) (sym here ∙ same_from_xor this that (omega (arith, le_or_r difference (bit_xor this that), zero)) ∙ there);
      none = λ same.
          let no_bit : bit_xor this that ≡ 0 = ap (bit_xor this) (sym (here ∙ same count (omega arith) ∙ sym there)) ∙ xor_self this in
          let none_before : difference ≡ 0 = h.none (λ k below. same k (omega arith)) in
          rw (none_before, no_bit) (or_zero_l 0);
    }

pub difference_all : (these those : List ℕ) (count difference : ℕ) → IsDifference these those count difference → length these ≡ length those → count ≡ min (length these) (length those) → (difference ≡ 0) ↔ (these ≡ those)
difference_all these those count difference h long all = (
  λ zero. ext_get_or 0 these those long (λ k below. h.same zero k (omega arith)),
  λ same. h.none (λ k below. ap (λ xs. get_or xs k 0) same),
)
