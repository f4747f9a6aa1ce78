-- What is held, as the state of a repository.
use Rattle.std.specs.{Prelude.{◌≡◌, List, [], ◌∷◌, ◌++◌, map}, FinMap.empty, declared.sync.Arc.Arc}
use Rattle.repo_api.specs.{Properties.PropertyList, States.{RepoState, Revision}}
use Rattle.flat_commits.specs.{declared.flat_content.FlatRevision.FlatRevision, declared.flat_content.FlatContent.FlatContent}

abbrev pub fixed_of : FlatRevision → Revision
fixed_of r = record { tree = r.tree; changes = r.changes }

-- what the shared pointers point to
abbrev pub values : {X Z : Type 0} → List (Arc X Z) → List X
values = map (λ a. a.value)

abbrev pub revisions_of : FlatContent → List Revision
revisions_of c = map fixed_of (values c.revisions.items)

abbrev pub properties_of : FlatContent → List PropertyList
properties_of c = values c.properties.items

-- what is held, with no locks
abbrev pub flat_state : FlatContent → RepoState
flat_state c =
    record {
      uuid = c.uuid;
      revisions = revisions_of c;
      properties = properties_of c;
      locks = empty;
    }

-- one revision more, with these properties, and nothing else, has come after what is held
abbrev pub HasRevision : FlatContent → FlatContent → Revision → PropertyList → Type 0
HasRevision before after revision properties =
    (revisions_of after ≡ revisions_of before ++ revision ∷ [])
    × (properties_of after ≡ properties_of before ++ properties ∷ [])
    × (after.uuid ≡ before.uuid)
