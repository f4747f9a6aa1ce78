-- Entries at their places.
use Rattle.std.specs.Prelude.{◌≡◌, Bool, true, false, IsTrue, Option, option_map, option_and_then}
use Rattle.repo_api.specs.{States.{RepoState, trees_in}, Trees.revision_of, declared.entry.Content.Content, declared.entry.Entry.Entry}
use Rattle.drive_rules.specs.Steps.{node_of}
use Rattle.reporter.specs.Reported.{top_entry}
use Rattle.drive_news.specs.{News.news_of, declared.news.Had.Had, declared.news.News.News, declared.news.Place.Place, declared.news.Sight.Sight}

-- what stands at a place
abbrev pub entry_at : RepoState → Place → Option Entry
entry_at c place = trees_in c.revisions place.revision place.path.now

-- what a client has of an entry
abbrev pub entry_had : RepoState → Had → Option Entry
entry_had c had = option_map (top_entry had.starts_empty) (entry_at c had.place)

-- what the client has of an entry that is told, if it has any
abbrev pub old_seen : RepoState → Sight → Option Entry
old_seen c sight = option_and_then (entry_had c) sight.old

-- what an entry is told of itself
abbrev pub news_seen : RepoState → Sight → Option News
news_seen c sight =
    option_map (news_of c sight.purpose sight.is_stale (old_seen c sight)) (entry_at c sight.new)

-- a directory, or a file with its text, where something stands
abbrev pub entry_content : Option Entry → Option Content
entry_content e = option_map (λ (x : Entry). x.content) e

-- presence, kind, text, properties or, where it counts, the last change differ
abbrev pub AreUnlike : Bool → Option Entry → Option Entry → Type 0
AreUnlike changes e f =
    (option_map node_of e ≡ option_map node_of f)
    × (IsTrue changes
    → option_map (λ (x : Entry). x.last) e ≡ option_map (λ (x : Entry). x.last) f) → ⊥

-- presence, kind, text, properties and, where it counts, the revision of the last change are the same
abbrev pub AreLike : Bool → Option Entry → Option Entry → Type 0
AreLike changes e f =
    (option_map node_of e ≡ option_map node_of f)
    × (IsTrue changes
    → option_map (λ x. revision_of x.last) e ≡ option_map (λ x. revision_of x.last) f)

-- an answer to whether two entries differ, where the last change counts or not
abbrev pub Compares : Bool → Bool → Option Entry → Option Entry → Type 0
Compares changes true e f = AreUnlike changes e f
Compares changes false e f = AreLike changes e f
