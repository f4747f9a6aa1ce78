-- By which change an entry is guarded.
use Rattle.std.specs.Prelude.{ℕ, Bool, ◌&&◌, if◌then◌else◌, [], Option}
use Rattle.svnpath.specs.Paths.{PathValue, same_path}

-- The change by which the properties of a directory are guarded: the last one at or under it. For a
-- client of today at the repository's root, of which every revision changes something, it is the base
-- of the transaction, whatever that has changed.
abbrev pub guarding_change : Bool → PathValue → Option ℕ → Option ℕ → Option ℕ
guarding_change is_of_today p base made = if is_of_today && same_path p [] then base else made
