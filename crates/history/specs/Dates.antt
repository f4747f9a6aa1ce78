-- The revision of a date.
use Rattle.std.specs.Prelude.{ℕ, zero, suc, Bool, List, if◌then◌else◌}
use Rattle.repo_api.specs.{Dates.is_dated, States.{RepoState, youngest}}

-- the greatest number up to n that passes the test, 0 if none
abbrev pub greatest : (ℕ → Bool) → ℕ → ℕ
greatest test zero = 0
greatest test (suc n) = if test (suc n) then suc n else greatest test n

-- the greatest revision that is not dated after the date, 0 if none
abbrev pub dated_rev : RepoState → List ℕ → ℕ
dated_rev c date = greatest (is_dated c date) (youngest c)
