-- The parts of replies that are written as they are made: what comes before the entries, and after them.
use Rattle.std.specs.Prelude.{ℕ, List, ◌++◌, Option, codes}
use Rattle.items.specs.{Print.printed, Values.{list, number, string}}
use Rattle.repo_api.specs.Properties.{PropertyList}
use Rattle.svnpath.specs.{Paths.PathValue, Texts.path_text}
use Rattle.wire_replies.specs.{Replies.{optional_string_trees, property_trees}, declared.histories.LogFacts.LogFacts}

-- `( success ( [ md5 ] rev`: what comes before the properties of a file
abbrev pub file_head : Option (List ℕ) → ℕ → List ℕ
file_head digest revision =
    codes "( success ( "
    ++ (printed (list (optional_string_trees digest)) ++ printed (number revision))

-- `( success ( rev ( ( name value ) ... ) (`: what comes before the entries of a directory
abbrev pub directory_head : ℕ → PropertyList → List ℕ
directory_head revision properties =
    (codes "( success ( " ++ printed (number revision))
    ++ (printed (list (property_trees properties)) ++ codes "( ")

-- `) ) )`: what comes after them
abbrev pub directory_end : List ℕ
directory_end = codes ") ) ) "

-- `( (`: what comes before the changes of a revision of a log
abbrev pub log_head : List ℕ
log_head = codes "( ( "

-- `) rev [ author ] [ date ] [ message ] )`: what comes after them
abbrev pub log_end : LogFacts → List ℕ
log_end facts =
    codes ") "
    ++ (printed (number facts.revision) ++ (printed (list (optional_string_trees facts.author))
    ++ (printed (list (optional_string_trees facts.date))
    ++ (printed (list (optional_string_trees facts.message)) ++ codes ") "))))

-- `( path rev`: what comes before the properties of a revision of a file
abbrev pub file_revision_place : PathValue → ℕ → List ℕ
file_revision_place path revision =
    codes "( " ++ (printed (string (path_text path)) ++ printed (number revision))
