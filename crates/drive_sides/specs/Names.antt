-- Names of what stands straight beneath a path.
use Rattle.std.specs.Prelude.{◌≡◌, ◌⊎◌, ◌||◌, true, false, List, [], ◌∷◌, ◌++◌, is_some, map}
use Rattle.svnpath.specs.Paths.{Component, is_at_or_under, PathValue}
use Rattle.repo_api.specs.{Readings.{is_name_among, names_among}, States.RepoState}
use Rattle.reporter.specs.{Targets.{WholeReport, client_tree, new_tree, target_entries}, declared.graft.Graft.Graft}

-- these names were put among others
abbrev pub ArePut : List Component → List Component → List Component → Type 0
ArePut more old new =
    (c : Component) → is_name_among new c ≡ (is_name_among old c || is_name_among more c)

-- no name is there twice
abbrev pub AreDistinct : List Component → Type 0
AreDistinct [] = Unit {0}
AreDistinct (c ∷ names) = (is_name_among names c ≡ false) × AreDistinct names

-- the names of the grafts that stand straight beneath a path
abbrev pub graft_names : PathValue → List Graft → List Component
graft_names p grafts = names_among p (map (λ g. g.path) grafts)

-- the paths of these names beneath a path
abbrev pub children_of : PathValue → List Component → List PathValue
children_of p names = map (λ c. p ++ c ∷ []) names

-- each child of a directory that is to stand there, in scope or not, has one of these names, or the
-- client has it already
abbrev pub NameTarget : List Component → RepoState → WholeReport → PathValue → Type 0
NameTarget names c report p =
    (x : Component) → is_at_or_under p report.ask.target ≡ true
    → is_some (target_entries c report (p ++ x ∷ [])) ≡ true
    → (is_name_among names x ≡ true) ⊎ (is_some (client_tree c report (p ++ x ∷ [])) ≡ true)

-- each child of a directory that the client is to have has one of these names, or the client has it
-- already
abbrev pub NameNew : List Component → RepoState → WholeReport → PathValue → Type 0
NameNew names c report p =
    (x : Component) → is_at_or_under p report.ask.target ≡ true
    → is_some (new_tree c report (p ++ x ∷ [])) ≡ true
    → (is_name_among names x ≡ true) ⊎ (is_some (client_tree c report (p ++ x ∷ [])) ≡ true)
