-- The number that digits spell, as far as it is a number of revisions.
use Rattle.std.proofs.{Common.{◌≡◌, ◌<◌, ◌+◌, ◌*◌, ◌-◌, ℕ, Bool, true, false, List, [], ◌∷◌, Some, None, refl, arith}, lemmas.Bool.Decides.nat_tests}
use Rattle.std.specs.Prelude.{if◌then◌else◌}
use Rattle.repostore.specs.Current.{counted, is_digit, is_end, number_behind}

past_last : (n : ℕ) → 262143 < n → counted (Some n) ≡ None
past_last n more = grind (arith, nat_tests)

-- no further digit makes a number smaller
pub too_many : (n : ℕ) (bytes : List ℕ) → 262143 < n → counted (number_behind n bytes) ≡ None
too_many n [] more = refl
too_many n (b ∷ bytes) more =
    by (too_many (10 * n + (b - 48)) bytes (omega (arith, more))) (is_digit b) (is_end b)
  where
    by : counted (number_behind (10 * n + (b - 48)) bytes) ≡ None → (d e : Bool)
        → counted (if d then number_behind (10 * n + (b - 48)) bytes
        else if e then Some n else None) ≡ None
    by again true e = again
    by again false true = past_last n more
    by again false false = refl

pub digit_more : (n b : ℕ) (bytes : List ℕ) → is_digit b ≡ true
    → number_behind n (b ∷ bytes) ≡ number_behind (10 * n + (b - 48)) bytes
digit_more n b bytes digit = rw digit refl
