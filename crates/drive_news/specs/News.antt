-- What an entry that a drive opens or adds is told of itself: its entry properties, what becomes of
-- its other properties, and its text.
use Rattle.std.specs.Prelude.{ℕ, Bool, true, false, not, ◌&&◌, List, [], ◌∷◌, ◌++◌, Option, Some, None, option_map, map, filter, fold, codes, if◌then◌else◌}
use Rattle.std.specs.List.{filter_map}
use Rattle.svnpath.specs.Paths.{PathValue}
use Rattle.repo_api.specs.{Kinds.{node_properties, or_empty}, Properties.{is_same_value, property_value, PropertyList, with_property}, States.RepoState}
use Rattle.repo_api.specs.{Trees.{content_text, text_of, Tree}, declared.entry.Entry.Entry}
use Rattle.wire_forms.specs.Forms.{is_name}
use Rattle.drive_rules.specs.Steps.{is_entry_property, Step}
use Rattle.drive_visits.specs.{Own.{Change, property_steps, text_steps}, Visits.OwnSteps}
use Rattle.reporter.specs.{Targets.{WholeReport, old_tree, new_tree, stale_in}, declared.ask.Purpose.Purpose}
use Rattle.reporter.specs.{declared.ask.Purpose.TheVariants.{Update, Switch, Status, Diff, Summary}, EntryProperties.entry_property}
use Rattle.drive_news.specs.declared.news.News.{News}

-- ---- properties

-- the names of the entry properties, in the order in which they are told
abbrev pub entry_property_names : List (List ℕ)
entry_property_names =
    codes "svn:entry:committed-rev" ∷ codes "svn:entry:committed-date"
    ∷ codes "svn:entry:last-author" ∷ codes "svn:entry:uuid" ∷ codes "svn:entry:lock-token" ∷ []

-- the entry properties that are due
abbrev pub entry_changes : RepoState → Bool → Entry → List Change
entry_changes c stale e =
    filter_map (λ name. option_map (λ value. (name, value)) (entry_property c stale e name))
    entry_property_names

-- the names that stand in one list or the other, by their bytes
abbrev pub names_in_both : PropertyList → PropertyList → List (List ℕ)
names_in_both old new = map (λ p. p.0) (fold (λ ps p. with_property ps p.0 p.1) old new)

-- a property is told where it has another value now; entry properties are told apart
abbrev pub is_told : PropertyList → PropertyList → List ℕ → Bool
is_told old new name =
    not (is_entry_property name)
    && not (is_same_value (property_value old name) (property_value new name))

-- what becomes of the properties, by their names' bytes
abbrev pub property_changes : PropertyList → PropertyList → List Change
property_changes old new =
    map (λ name. (name, property_value new name))
    (filter (is_told old new) (names_in_both old new))

-- ---- the text

-- a status and a summary send no texts
abbrev pub text_sent : Purpose → List ℕ → List ℕ
text_sent Update text = text
text_sent Switch text = text
text_sent Status text = []
text_sent Diff text = text
text_sent Summary text = []

-- the text of a file, unless it is the one that the client has
abbrev pub other_text : Option (List ℕ) → Option (List ℕ) → Option (List ℕ)
other_text old None = None
other_text None (Some new) = Some new
other_text (Some old) (Some new) = if is_name old new then None else Some new

-- ---- both

abbrev pub news_of : RepoState → Purpose → Bool → Option Entry → Entry → News
news_of c purpose stale old e = record {
  changes = entry_changes c stale e
      ++ property_changes (or_empty (node_properties old)) e.properties;
  text = option_map (text_sent purpose) (other_text (text_of old) (content_text e.content));
}

-- as steps of the entry's path
abbrev pub news_steps : PathValue → News → List Step
news_steps p news = property_steps p news.changes ++ text_steps p news.text

-- ---- in a drive

-- what stood there, or nothing where the entry comes anew
abbrev pub old_entry : Bool → Tree → PathValue → Option Entry
old_entry true old p = None
old_entry false old p = old p

-- what an entry of the target is told, opened or anew
abbrev pub news_at : RepoState → WholeReport → PathValue → Bool → Entry → News
news_at c report p anew e =
    news_of c report.ask.purpose (stale_in c report p) (old_entry anew (old_tree c report) p) e

abbrev pub steps_if : PathValue → Option News → List Step
steps_if p None = []
steps_if p (Some news) = news_steps p news

-- the steps of what each entry is told
abbrev pub own_steps_of : RepoState → WholeReport → OwnSteps
own_steps_of c report p anew =
    steps_if p (option_map (news_at c report p anew) (new_tree c report p))
