-- Dates of revisions.
use Rattle.std.specs.Prelude.{◌≡◌, ◌<◌, ◌≤◌, ℕ, ◌==◌, Bool, false, ◌&&◌, List, Option, Some, None, length, if◌then◌else◌, nat_le, codes, option_map}
use Rattle.std.specs.{Cmp.Lexicographic.{slice_cmp, pointwise}, List.{find, list_all, zip}, Ordering.{nat_cmp, is_le}}
use Rattle.repo_api.specs.{Kinds.properties_at, Properties.PropertyList, States.RepoState}

-- a `0` of the form stands for any digit, and every other byte for itself
abbrev pub fits : ℕ → ℕ → Bool
fits form byte = if form == 48 then nat_le 48 byte && nat_le byte 57 else byte == form

abbrev pub date_form : List ℕ
date_form = codes "0000-00-00T00:00:00.000000Z"

-- a text of 27 bytes that fit the form
abbrev pub is_date_text : List ℕ → Bool
is_date_text text = (length text == 27) && list_all (λ e. fits e.1 e.0) (zip text date_form)

abbrev pub is_date_name : List ℕ → Bool
is_date_name name = pointwise ◌==◌ name (codes "svn:date")

-- the value of `svn:date`
abbrev pub date_of : PropertyList → Option (List ℕ)
date_of ps = option_map (λ e. e.1) (find (λ e. is_date_name e.0) ps)

-- a date text that is not after the date, by their bytes
abbrev pub is_up_to : List ℕ → Option (List ℕ) → Bool
is_up_to date None = false
is_up_to date (Some text) = is_date_text text && is_le (slice_cmp nat_cmp text date)

-- whether the revision's own date is not after the date
abbrev pub is_dated : RepoState → List ℕ → ℕ → Bool
is_dated c date n = is_up_to date (date_of (properties_at c n))

-- no date of a revision after k and up to n is one that is not after the date
abbrev pub IsUndatedSince : RepoState → List ℕ → ℕ → ℕ → Type 0
IsUndatedSince c date k n = (m : ℕ) → k < m → m ≤ n → is_dated c date m ≡ false
