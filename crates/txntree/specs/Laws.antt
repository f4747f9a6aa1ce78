-- The edits of the definitions, as changes at the node of a path.
use Rattle.std.specs.Prelude.{◌≡◌, [], ◌∷◌, ◌++◌, Some, None}
use Rattle.svnpath.specs.Paths.{Component, PathValue}
use Rattle.repo_api.specs.{Edits.{added, grafted, new_entry, revised}, Trees.Tree, declared.entry.Entry.Entry, declared.entry.Content.Content}
use Rattle.txntree.specs.Walks.{down, at_path, here}

-- a new entry with nothing beneath it
abbrev pub leaf : Content → Tree
leaf content [] = Some (new_entry content)
leaf content (name ∷ q) = None

-- nothing lies beneath a path
abbrev pub IsBare : Tree → PathValue → Type 0
IsBare t p = (name : Component) (q : PathValue) → t (p ++ name ∷ q) ≡ None

abbrev pub GraftsAreChanges : Type 0
GraftsAreChanges =
    (t : Tree) (p : PathValue) (name : Component) (part : Tree) (q : PathValue)
    → at_path p (down name (λ _. part)) t q ≡ grafted t (p ++ name ∷ []) part q

abbrev pub RevisionsAreChanges : Type 0
RevisionsAreChanges = (t : Tree) (p : PathValue) (f : Entry → Entry) (q : PathValue) → at_path p (here f) t q ≡ revised t p f q

abbrev pub AddsAreGrafts : Type 0
AddsAreGrafts = (t : Tree) (p : PathValue) (content : Content) (q : PathValue) → IsBare t p → grafted t p (leaf content) q ≡ added t p content q
