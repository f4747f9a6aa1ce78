-- Where the entries of a drive have their places.
use Rattle.std.specs.Prelude.{◌==◌, ◌+◌, Bool, not, ◌&&◌, ◌||◌, length, []}
use Rattle.svnpath.specs.Paths.{is_at_or_under, PathValue, same_path}

-- a path is one name beneath a directory, or it is the target, in the root, of however many names
abbrev pub is_in_directory : PathValue → PathValue → PathValue → Bool
is_in_directory top directory p =
    (is_at_or_under p directory && (length p == length directory + 1))
    || (same_path directory [] && same_path p top && not (same_path p []))
