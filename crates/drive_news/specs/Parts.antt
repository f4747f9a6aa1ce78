-- The parts of what an entry is told.
use Rattle.std.specs.Prelude.{ℕ, Bool, true, false, List, [], ◌∷◌, Option, Some, None, option_map, option_and_then, map, filter, codes, decimal}
use Rattle.repo_api.specs.{Kinds.properties_at, Properties.{property_value, PropertyList}, States.RepoState}
use Rattle.wire_replies.specs.Replies.{uuid_text}
use Rattle.drive_visits.specs.Own.{Change}
use Rattle.drive_news.specs.News.{is_told}

-- what becomes of the properties of these names
abbrev pub changes_named : PropertyList → PropertyList → List (List ℕ) → List Change
changes_named old new names =
    map (λ name. (name, property_value new name)) (filter (is_told old new) names)

-- the value of a property of a revision, if there is a revision
abbrev pub revision_property : RepoState → List ℕ → Option ℕ → Option (List ℕ)
revision_property c name created =
    option_and_then (λ n. property_value (properties_at c n) name) created

-- a stale token is taken out
abbrev pub stale_changes : Bool → List Change
stale_changes true = (codes "svn:entry:lock-token", None) ∷ []
stale_changes false = []

-- what is told of the revision of the last change, of the repository, and of a stale token
abbrev pub last_changes : RepoState → Bool → Option ℕ → List Change
last_changes c stale created =
    (codes "svn:entry:committed-rev", option_map decimal created)
    ∷ (codes "svn:entry:committed-date", revision_property c (codes "svn:date") created)
    ∷ (codes "svn:entry:last-author", revision_property c (codes "svn:author") created)
    ∷ (codes "svn:entry:uuid", Some (uuid_text c.uuid)) ∷ stale_changes stale
