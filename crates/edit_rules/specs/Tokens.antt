-- What is open in an edit, by its tokens.
use Rattle.std.specs.Prelude.{◌≡◌, ℕ, Bool, true, false, ◌+◌, ◌==◌, ◌&&◌, ◌||◌, not, is_some, List, [], ◌∷◌, ◌++◌, length, Option, Some, None, option_and_then}
use Rattle.std.specs.{List.{filter, list_any}, BTreeMap.{insert_entry, is_at}, Map.{lookup, remove_entry, set_value, values_of}}
use Rattle.std.specs.{Cmp.Lexicographic.{slice_cmp, pointwise}, Ordering.nat_cmp}
use Rattle.svnpath.specs.Paths.{is_at_or_under, PathValue, same_path}
use Rattle.revision_data.specs.Found.{found}
use Rattle.edit_rules.specs.{declared.opened.Opened.Opened, declared.opened.Opened.TheVariants.{Directory, File}, declared.opened.DeltaState.DeltaState}
use Rattle.edit_rules.specs.declared.opened.DeltaState.TheVariants.{NotBegun, Reading, Ended}

-- a token with what is open under it, by the tokens' bytes
abbrev pub Tokens : Type 0
Tokens = List (List ℕ × Opened)

abbrev pub with_token : Tokens → List ℕ → Opened → Tokens
with_token = insert_entry (slice_cmp nat_cmp)

abbrev pub without_token : Tokens → List ℕ → Tokens
without_token tokens token = remove_entry (is_at (slice_cmp nat_cmp token)) tokens

-- something else under a token that is open
abbrev pub with_change : Tokens → List ℕ → Opened → Tokens
with_change tokens token opened = set_value (is_at (slice_cmp nat_cmp token)) tokens opened

-- what is open under a token
abbrev pub opened_under : Tokens → List ℕ → Option Opened
opened_under tokens token = lookup (is_at (slice_cmp nat_cmp token)) tokens

abbrev pub path_of : Opened → PathValue
path_of (Directory d) = d.path
path_of (File p delta) = p

abbrev pub directory_path : Opened → Option PathValue
directory_path (Directory d) = Some d.path
directory_path (File p delta) = None

-- the directory that is open under a token
abbrev pub directory_of : Tokens → List ℕ → Option PathValue
directory_of tokens token = option_and_then directory_path (opened_under tokens token)

-- whether it is a directory that was added with a copy, or opened beneath such a one
abbrev pub is_in_copy : Opened → Bool
is_in_copy (Directory d) = d.in_copy
is_in_copy (File p delta) = false

abbrev pub copies_in : Option Opened → Bool
copies_in None = false
copies_in (Some opened) = is_in_copy opened

-- whether such a directory is open under a token
abbrev pub copies_under : Tokens → List ℕ → Bool
copies_under tokens token = copies_in (opened_under tokens token)

-- nothing at or under the path is open any more
abbrev pub closed_beneath : Tokens → PathValue → Tokens
closed_beneath tokens p = filter (λ e. not (is_at_or_under (path_of e.1) p)) tokens

-- nothing at or under the path is open any more, but for what is open under the token
abbrev pub others_closed_beneath : Tokens → PathValue → List ℕ → Tokens
others_closed_beneath tokens p token =
    filter (λ e. pointwise ◌==◌ token e.0 || not (is_at_or_under (path_of e.1) p)) tokens

abbrev pub is_reading_delta : DeltaState → Bool
is_reading_delta NotBegun = false
is_reading_delta (Reading applier) = true
is_reading_delta Ended = false

-- whether it is a file whose text delta has not ended
abbrev pub is_unfinished : Opened → Bool
is_unfinished (Directory d) = false
is_unfinished (File p delta) = is_reading_delta delta

abbrev pub has_unfinished : Tokens → Bool
has_unfinished tokens = list_any is_unfinished (values_of tokens)

-- the path is that of a directory, and one name more
abbrev pub is_within : Option PathValue → PathValue → Bool
is_within None p = false
is_within (Some directory) p = is_at_or_under p directory && (length p == length directory + 1)

-- the token is new, and the path is that of the directory open under the parent's token, and one
-- name more
abbrev pub is_placed : Tokens → List ℕ → List ℕ → PathValue → Bool
is_placed tokens parent token p =
    not (is_some (opened_under tokens token)) && is_within (directory_of tokens parent) p

-- the path is the root, and so is that of a directory
abbrev pub is_root_again : PathValue → Option PathValue → PathValue → Bool
is_root_again root None p = false
is_root_again root (Some directory) p = same_path directory root && same_path p root

-- a directory may be opened at the path: one name beneath that of its parent; and for a client of
-- today under a token of the edit's root, at the root itself
abbrev pub may_open : Bool → PathValue → Option PathValue → PathValue → Bool
may_open is_of_today root directory p =
    is_within directory p || (is_of_today && is_root_again root directory p)

-- ---- how what is at or under a path is found

-- the path of what is open under a token, and the token as one name more
abbrev pub place_of : List ℕ → Opened → PathValue
place_of token opened = path_of opened ++ token ∷ []

-- paths that are known, without more
abbrev pub Places : Type 0
Places = List (PathValue × Unit {0})

-- what is open has its place
abbrev pub HavePlaces : {X : Type 0} → List (PathValue × X) → Tokens → Type 0
HavePlaces places tokens =
    (token : List ℕ) (opened : Opened) → opened_under tokens token ≡ Some opened
    → is_some (found places (place_of token opened)) ≡ true

abbrev pub is_kept : Option (List ℕ) → List ℕ → Bool
is_kept None token = false
is_kept (Some kept) token = pointwise ◌==◌ kept token

-- whether it stays open where what is at or under the path is closed, but for what is open under
-- the token that is kept
abbrev pub stays_open : Option (List ℕ) → PathValue → List ℕ → Opened → Bool
stays_open kept p token opened = is_kept kept token || not (is_at_or_under (path_of opened) p)

-- whether something is open that does not
abbrev pub is_to_close : Option (List ℕ) → PathValue → List ℕ → Option Opened → Bool
is_to_close kept p token None = false
is_to_close kept p token (Some opened) = not (stays_open kept p token opened)
