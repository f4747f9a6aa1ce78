-- The names of what a drive opens: tokens, by how many entries are open, and the texts of paths.
use Rattle.std.specs.{Prelude.{ℕ, ◌^◌, List, ◌++◌, codes, drop, replicate, nat_lt, if◌then◌else◌}, Fmt.decimal}
use Rattle.svnpath.specs.{Paths.PathValue, Texts.path_text}
use Rattle.drive_rules.specs.{Steps.EntryKind, Steps.EntryKind.{DirectoryKind, FileKind}}

-- the digits of a count, or as many zeros, where no number of the machine counts so far: the text of
-- no other count
abbrev pub count_text : ℕ → List ℕ
count_text count = if nat_lt count (2 ^ 64) then decimal count else replicate count 48

-- the token of an entry that is opened or added while so many are open
abbrev pub token_of : EntryKind → ℕ → List ℕ
token_of DirectoryKind count = codes "d" ++ count_text count
token_of FileKind count = codes "c" ++ count_text count

-- the text of a path from the root of a drive on: no slash stands before its first component
abbrev pub relative_text : PathValue → List ℕ
relative_text p = drop 1 (path_text p)
