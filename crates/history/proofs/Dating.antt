-- The greatest number that passes a test.
use Rattle.std.proofs.Common.{◌≡◌, ◌≤◌, ◌<◌, ◌-◌, ℕ, zero, suc, Bool, true, false, arith, refl, ap, ◌∙◌, sym}
use Rattle.std.specs.Prelude.{◌==◌, if◌then◌else◌}
use borrow.Author.Tests.{eqb-true, eqb-false}
use Rattle.history.specs.Dates.{greatest}

-- none after m and up to n passes
pub greatest_since : (test : ℕ → Bool) (m n : ℕ) → m ≤ n
    → ((k : ℕ) → m < k → k ≤ n → test k ≡ false) → greatest test m ≡ greatest test n
greatest_since test m zero within none = let least : m ≡ 0 = omega (arith, within) in ap (greatest test) least
greatest_since test m (suc n) within none = by (greatest_since test m n) (m == suc n) refl
  where
    by : (m ≤ n → ((k : ℕ) → m < k → k ≤ n → test k ≡ false) → greatest test m ≡ greatest test n)
        → (b : Bool) → (m == suc n) ≡ b → greatest test m ≡ greatest test (suc n)
    by rest true same = ap (greatest test) (eqb-true m (suc n) same)
    by rest false other =
        let past : m ≡ suc n → ⊥ = eqb-false m (suc n) other in
        let low : m ≤ n = omega (arith, within, past) in
        rest low (λ k later up. none k later (omega (arith, up)))
        ∙ sym (ap (λ b. if b then suc n else greatest test n)
        (none (suc n) (omega (arith, low)) (omega arith)))

-- neither does any after m and before n, nor n
pub greatest_before : (test : ℕ → Bool) (m n : ℕ) → 0 < n → m ≤ n - 1
    → ((k : ℕ) → m < k → k ≤ n - 1 → test k ≡ false) → test n ≡ false
    → greatest test m ≡ greatest test n
greatest_before test m zero some within none fails = absurd (omega (arith, some))
greatest_before test m (suc n) some within none fails =
    greatest_since test m n (omega (arith, within)) (λ k later up. none k later (omega (arith, up)))
    ∙ sym (ap (λ b. if b then suc n else greatest test n) fails)
