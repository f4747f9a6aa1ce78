-- Dates of revisions that clients can read.
use Rattle.std.specs.{Prelude.{ℕ, ◌==◌, nat_le, Bool, false, ◌&&◌, not, List, Option, Some, None, codes, if◌then◌else◌}, Cmp.Lexicographic.slice_cmp}
use Rattle.std.specs.{List.slice_index, Ordering.{nat_cmp, is_le}}
use Rattle.repo_api.specs.{Dates.{is_date_name, is_date_text}, declared.property_ask.PropertyAsk.PropertyAsk}

-- the two digits of a month, from `01` to `12`
abbrev pub is_month : ℕ → ℕ → Bool
is_month tens ones = if tens == 48 then not (ones == 48) else (tens == 49) && nat_le ones 50

-- the first date that clients can read
abbrev pub first_date : List ℕ
first_date = codes "1970-01-01T00:00:00.000000Z"

-- a date that clients can read: in the form of one, with a month from 01 to 12, and not before the
-- first date by its bytes (they do not mind which day or hour it says)
abbrev pub is_readable_date : List ℕ → Bool
is_readable_date text =
    is_date_text text && (is_month (slice_index text 5) (slice_index text 6)
    && is_le (slice_cmp nat_cmp first_date text))

-- whether `svn:date` becomes what no client can read; without a value it is taken away
abbrev pub spoils_date : List ℕ → Option (List ℕ) → Bool
spoils_date name None = false
spoils_date name (Some value) = is_date_name name && not (is_readable_date value)

-- whether a change is refused for the date that it would make: to a client of today alone
abbrev pub is_refused_date : Bool → PropertyAsk → Bool
is_refused_date is_of_today ask = is_of_today && spoils_date ask.name ask.value
