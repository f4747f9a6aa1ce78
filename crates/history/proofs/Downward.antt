-- Revisions downward, those that pass a test.
use Rattle.std.proofs.{Common.{◌≡◌, ◌<◌, ◌≤◌, ℕ, zero, suc, Bool, true, false, [], ◌∷◌, arith, refl, sym, ap, ◌∙◌}, lemmas.Bool.{leb-true, leb-false}}
use Rattle.std.specs.Prelude.{◌==◌, if◌then◌else◌, nat_le, filter}
use borrow.Author.Tests.{le-leb, lt-leb, eqb-true, eqb-false}
use Rattle.history.specs.Logs.{revisions_down}

-- one revision more
down_one : (test : ℕ → Bool) (low n : ℕ) (a b : Bool) → nat_le low n ≡ a → test n ≡ b
    → filter test (revisions_down low (suc n)) ≡ (if a then (if b then n ∷ filter test (revisions_down low n) else filter test (revisions_down low n)) else [])
down_one test low n true true within passes = simp (within, passes)
down_one test low n true false within fails = simp (within, fails)
down_one test low n false b past is = simp past

-- none stands below the lowest
pub down_none : (low k : ℕ) → k ≤ low → revisions_down low k ≡ []
down_none low zero under = refl
down_none low (suc k) under = ap (λ b. if b then k ∷ revisions_down low k else []) (lt-leb low k (omega (arith, under)))

-- two tests that agree on them
pub down_same : (f g : ℕ → Bool) (low k : ℕ) → ((n : ℕ) → low ≤ n → n < k → f n ≡ g n) → filter f (revisions_down low k) ≡ filter g (revisions_down low k)
down_same f g low zero same = refl
down_same f g low (suc k) same = by (down_same f g low k (λ n from under. same n from (omega (arith, under)))) (nat_le low k) (g k) refl refl
  where
    by : filter f (revisions_down low k) ≡ filter g (revisions_down low k) → (a b : Bool) → nat_le low k ≡ a → g k ≡ b
        → filter f (revisions_down low (suc k)) ≡ filter g (revisions_down low (suc k))
    by rest true b within is =
        down_one f low k true b within (same k (leb-true low k within) (omega arith) ∙ is)
        ∙ ap (λ ns. if b then k ∷ ns else ns) rest
        ∙ sym (down_one g low k true b within is)
    by rest false b past is = down_one f low k false (f k) past refl ∙ sym (down_one g low k false b past is)

-- those that fail at the top may be left out
pub down_to : (test : ℕ → Bool) (top k : ℕ) → top ≤ k → ((n : ℕ) → top ≤ n → test n ≡ false) → filter test (revisions_down 0 k) ≡ filter test (revisions_down 0 top)
down_to test top zero under fails =
    let same : zero ≡ top = omega (arith, under) in
    ap (λ n. filter test (revisions_down 0 n)) same
down_to test top (suc k) under fails = by (λ low. down_to test top k low fails) (top == suc k) refl
  where
    by : (top ≤ k → filter test (revisions_down 0 k) ≡ filter test (revisions_down 0 top)) → (b : Bool) → (top == suc k) ≡ b
        → filter test (revisions_down 0 (suc k)) ≡ filter test (revisions_down 0 top)
    by rest true same = ap (λ n. filter test (revisions_down 0 n)) (sym (eqb-true top (suc k) same))
    by rest false other =
        let past : top ≡ suc k → ⊥ = eqb-false top (suc k) other in
        let low : top ≤ k = omega (arith, under, past) in
        down_one test 0 k true false (le-leb 0 k (omega arith)) (fails k low) ∙ rest low

-- and those that fail at the bottom
pub down_from : (test : ℕ → Bool) (low k : ℕ) → ((n : ℕ) → n < low → test n ≡ false) → filter test (revisions_down 0 k) ≡ filter test (revisions_down low k)
down_from test low zero fails = refl
down_from test low (suc k) fails = by (down_from test low k fails) (nat_le low k) (test k) refl refl
  where
    least : nat_le 0 k ≡ true
    least = le-leb 0 k (omega arith)

    by : filter test (revisions_down 0 k) ≡ filter test (revisions_down low k) → (a b : Bool) → nat_le low k ≡ a → test k ≡ b
        → filter test (revisions_down 0 (suc k)) ≡ filter test (revisions_down low (suc k))
    by rest true b within is =
        down_one test 0 k true b least is ∙ ap (λ ns. if b then k ∷ ns else ns) rest ∙ sym (down_one test low k true b within is)
    by rest false b past is =
        let under : k < low = leb-false low k past in
        down_one test 0 k true false least (fails k under) ∙ rest
        ∙ ap (filter test) (down_none low k (omega (arith, under))) ∙ sym (down_one test low k false b past is)

-- the first of them, where it passes
pub down_first : (test : ℕ → Bool) (n : ℕ) → test n ≡ true → filter test (revisions_down 0 (suc n)) ≡ n ∷ filter test (revisions_down 0 n)
down_first test n passes = down_one test 0 n true true (le-leb 0 n (omega arith)) passes
