-- Merge information as text.
use Rattle.std.specs.Prelude.{◌≡◌, ℕ, ◌-◌, Bool, true, false, ◌==◌, nat_lt, nat_le, ◌&&◌, ◌||◌, not, List, [], ◌∷◌, ◌++◌, length, map, Option, Some, None, take}
use Rattle.std.specs.{Prelude.{drop, if◌then◌else◌}, List.{slice_split, ends_with, filter, join_with_byte, prefix_len}, Result.result_ok}
use Rattle.svnpath.specs.{Paths.{PathValue, Component, same_component}, Components.beneath, Texts.{is_slash, path_text}}
use Rattle.fsfs_text.specs.{Numerals.{decimal_of, numeral}, Splits.{split_once, split_last}}
use Rattle.mergeinfo.specs.{Maybe.{◌>>=◌, each}, Ranges.some_are_at_odds, Sources.{SourceValue, IsNormalFormOf}, declared.range.Range.Range}
use Rattle.mergeinfo.specs.declared.range.TheConstants.{LAST_REVISION}

-- ---- ranges

abbrev pub unless_zero : Option ℕ → Option ℕ
unless_zero None = None
unless_zero (Some n) = if n == 0 then None else Some n

-- a revision above 0, in at most 10 digits
unfoldable pub revision_of : List ℕ → Option ℕ
revision_of digits =
    if nat_lt 10 (length digits) then None else unless_zero (decimal_of LAST_REVISION digits)

abbrev pub unless_reversed : Range → Option Range
unless_reversed range = if nat_lt range.first range.last then Some range else None

-- `N`, or `N-M` with N below M
abbrev pub span_from : Bool → List ℕ → Option (List ℕ × List ℕ) → Option Range
span_from is_inheritable text None = do
  revision ← revision_of text
  Some (record { first = revision; last = revision; is_inheritable = is_inheritable })
span_from is_inheritable text (Some p) = do
  first ← revision_of p.0
  last ← revision_of p.1
  unless_reversed (record { first = first; last = last; is_inheritable = is_inheritable })

abbrev pub span_of : Bool → List ℕ → Option Range
span_of is_inheritable text = span_from is_inheritable text (split_once 45 text)

-- a text without this byte at its end, if it is there
abbrev pub ends_in : ℕ → List ℕ → Bool
ends_in byte text = ends_with ◌==◌ text (byte ∷ [])

abbrev pub without_last : List ℕ → List ℕ
without_last text = take (length text - 1) text

-- `*` at the end: not inheritable
unfoldable pub range_of : List ℕ → Option Range
range_of text =
    if ends_in 42 text then span_of false (without_last text) else span_of true text

abbrev pub is_comma : ℕ → Bool
is_comma b = b == 44

abbrev pub unless_at_odds : List Range → Option (List Range)
unless_at_odds ranges = if some_are_at_odds ranges then None else Some ranges

-- ranges with commas between them; a revision is inheritable in all of them that have it, or in none
unfoldable pub ranges_of : List ℕ → Option (List Range)
ranges_of text = do
  ranges ← each range_of (slice_split is_comma text)
  unless_at_odds ranges

abbrev pub span_text : ℕ → ℕ → List ℕ
span_text first last =
    if first == last then numeral 10 first else numeral 10 first ++ 45 ∷ numeral 10 last

abbrev pub range_text : Range → List ℕ
range_text range =
    span_text range.first range.last ++ (if range.is_inheritable then [] else 42 ∷ [])

abbrev pub ranges_text : List Range → List ℕ
ranges_text ranges = join_with_byte 44 (map range_text ranges)

-- ---- paths

-- neither empty nor `.`
abbrev pub is_named : Component → Bool
is_named component = not (length component == 0) && not (same_component component (46 ∷ []))

-- The path whose components stand between the slashes. What stands there empty, or is `.`, is none.
unfoldable pub path_of : List ℕ → Option PathValue
path_of text = result_ok (beneath [] (filter is_named (slice_split is_slash text)))

-- ---- lines

-- a space, a tab, or another byte that is white and ends no line
abbrev pub is_blank : ℕ → Bool
is_blank b = (b == 32) || (nat_le 9 b && nat_le b 13)

abbrev pub without_first_blanks : List ℕ → List ℕ
without_first_blanks text = drop (prefix_len is_blank text) text

-- the path is before the last `:`, and the ranges are after it
unfoldable pub source_of : List ℕ → Option SourceValue
source_of line = do
  (path, ranges) ← split_last 58 line
  path ← path_of path
  ranges ← ranges_of (without_first_blanks ranges)
  Some (record { path = path; ranges = ranges })

-- A line feed ends a line, and a comma may be before it. The last line may lack both.
abbrev pub without_comma : List ℕ → List ℕ
without_comma line = if ends_in 44 line then without_last line else line

abbrev pub lines_in : List (List ℕ) → List (List ℕ)
lines_in [] = []
lines_in (last ∷ []) = if length last == 0 then [] else last ∷ []
lines_in (line ∷ next ∷ parts) = without_comma line ∷ lines_in (next ∷ parts)

abbrev pub is_feed : ℕ → Bool
is_feed b = b == 10

abbrev pub lines_of : List ℕ → List (List ℕ)
lines_of value = lines_in (slice_split is_feed value)

-- the sources that a value names, line by line
abbrev pub sources_of : List ℕ → Option (List SourceValue)
sources_of value = each source_of (lines_of value)

abbrev pub source_text : SourceValue → List ℕ
source_text source = path_text source.path ++ 58 ∷ ranges_text source.ranges

-- ---- values

abbrev pub written : List SourceValue → List ℕ
written sources = join_with_byte 10 (map source_text sources)

-- the normal form of the sources that a value names, or none where it is no merge information
abbrev pub IsReadFrom : List ℕ → Option (List SourceValue) → Type 0
IsReadFrom value None = sources_of value ≡ None
IsReadFrom value (Some info) =
    (sources : List SourceValue) × (sources_of value ≡ Some sources)
    × IsNormalFormOf sources info
