-- The entry properties: what an entry is told of itself.
use Rattle.std.specs.{Prelude.{ℕ, Bool, ◌&&◌, List, Option, Some, None, option_map, option_and_then, fold, codes, if◌then◌else◌}, Fmt.decimal}
use Rattle.svnpath.specs.Paths.{PathValue, same_path}
use Rattle.repo_api.specs.{Kinds.properties_at, Properties.property_value, States.RepoState, Trees.revision_of, declared.entry.Entry.Entry}
use Rattle.wire_forms.specs.Forms.{is_name}
use Rattle.wire_replies.specs.Replies.{uuid_text}
use Rattle.drive_rules.specs.{Steps.Step, Steps.Step.PropertyAt}

-- the value of a property of the revision in which an entry was last changed
abbrev pub changed_property : RepoState → List ℕ → Entry → Option (List ℕ)
changed_property c name e =
    option_and_then (λ n. property_value (properties_at c n) name) (revision_of e.last)

-- What an entry is to be told by the entry property of this name: nothing, or that it has this
-- value or none. These tell of the revision of its last change, of that revision's date and author,
-- of the repository, and that a token is stale.
abbrev pub entry_property : RepoState → Bool → Entry → List ℕ → Option (Option (List ℕ))
entry_property c stale e name =
    if is_name name (codes "svn:entry:committed-rev")
    then Some (option_map decimal (revision_of e.last))
    else if is_name name (codes "svn:entry:committed-date")
    then Some (changed_property c (codes "svn:date") e)
    else if is_name name (codes "svn:entry:last-author")
    then Some (changed_property c (codes "svn:author") e)
    else if is_name name (codes "svn:entry:uuid") then Some (Some (uuid_text c.uuid))
    else if is_name name (codes "svn:entry:lock-token") && stale then Some None
    else None

-- what is said of a property of a path, after one step more
abbrev pub told_by : PathValue → List ℕ → Option (Option (List ℕ)) → Step
    → Option (Option (List ℕ))
told_by q name before (PropertyAt p other value) =
    if same_path p q && is_name other name then Some value else before
told_by q name before _ = before

-- what is said last of a property of a path
abbrev pub told : PathValue → List ℕ → List Step → Option (Option (List ℕ))
told q name cs = fold (told_by q name) None cs
