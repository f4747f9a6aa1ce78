-- The drives that lead from a reported tree to its target.
use Rattle.std.specs.Prelude.{◌≡◌, ℕ, Bool, false, List, [], Option, option_map, IsTrue, IsSome, IsSomeAnd, ◌⊎◌}
use Rattle.svnpath.specs.Paths.{is_at_or_under, PathValue}
use Rattle.repo_api.specs.{Trees.{HasFile, is_directory, revision_of, Tree}, declared.entry.Content.Content, declared.entry.Entry.Entry}
use Rattle.repo_api.specs.declared.entry.Mark.{Mark}
use Rattle.drive_rules.specs.Steps.{Step, Node, node_at, after_steps, all_meet, has_step, is_named, is_opening, is_adding, adds_or_deletes, is_text}

-- the mark of the last change at or under a path, where something stands
abbrev pub last_mark : Tree → PathValue → Option Mark
last_mark t q = option_map (λ (e : Entry). e.last) (t q)

-- the revision of the last change at or under a path, where something stands
abbrev pub created_revision : Tree → PathValue → Option (Option ℕ)
created_revision t q = option_map (λ e. revision_of e.last) (t q)

-- a directory, or a file with its text, where something stands
abbrev pub content_at : Tree → PathValue → Option Content
content_at t q = option_map (λ (n : Node). n.0) (node_at t q)

-- What counts in a drive: what is seen of an entry, and whether its last change counts by itself.
pub record Counts : Type 0 where
  pub seen : Node → Node
  pub changes : Bool

-- presence, kind, text, properties or, where it counts, the last change differ
abbrev pub Differs : Bool → Tree → Tree → PathValue → Type 0
Differs changes old new q =
    (node_at old q ≡ node_at new q) × (IsTrue changes → last_mark old q ≡ last_mark new q) → ⊥

-- something stands there in both trees
abbrev pub IsInBoth : Tree → Tree → PathValue → Type 0
IsInBoth old new q = IsSome (old q) × IsSome (new q)

-- a directory stands there in both trees, or a file in both
abbrev pub IsOfOneKind : Tree → Tree → PathValue → Type 0
IsOfOneKind old new q =
    IsSomeAnd (old q) (λ e. IsSomeAnd (new q) (λ f. is_directory e ≡ is_directory f))

-- the path is the root, or something at or under it differs, is due, or is apart
abbrev pub HasReason : Bool → (PathValue → Bool) → (PathValue → Bool) → Tree → Tree → PathValue
    → Type 0
HasReason changes due apart old new q =
    (q ≡ []) ⊎ ((p : PathValue) × IsTrue (is_at_or_under p q)
    × (Differs changes old new p ⊎ (IsTrue (due p) ⊎ (IsInBoth old new p × IsTrue (apart p)))))

-- a file that is apart, or where nothing stood, or a directory, or a file of another text
abbrev pub HasOtherText : (PathValue → Bool) → Tree → Tree → PathValue → Type 0
HasOtherText apart old new q =
    HasFile new q × (IsTrue (apart q) ⊎ (content_at old q ≡ content_at new q → ⊥))

-- the created revision is another, where the last change counts, or the entry is due
abbrev pub MustBeNamed : Bool → (PathValue → Bool) → Tree → Tree → PathValue → Type 0
MustBeNamed changes due old new q =
    (IsTrue changes × (created_revision old q ≡ created_revision new q → ⊥)) ⊎ IsTrue (due q)

-- A right drive from one tree to another, of the paths in scope, by what counts of an entry. An
-- entry that is due is named though it may not differ. One that is apart is another than the one
-- that stood there, and comes in its place though it may not differ.
pub record IsRight (counts : Counts) (scope due apart : PathValue → Bool) (old new : Tree)
    (cs : List Step) : Type 0 where
  -- it ends at the new tree
  pub ends : (q : PathValue) → IsTrue (scope q)
      → option_map counts.seen (after_steps q (node_at old q) cs)
      ≡ option_map counts.seen (node_at new q)
  -- it names what stands in both trees where its created revision is another and counts, or it is due
  pub names : (q : PathValue) → IsTrue (scope q) → IsInBoth old new q
      → MustBeNamed counts.changes due old new q → IsTrue (is_named q cs)
  -- it says the text of a file that is new, is apart or has another text
  pub texts : (q : PathValue) → IsTrue (scope q) → HasOtherText apart old new q
      → IsTrue (has_step is_text q cs)
  -- it names nothing outside the scope
  pub within : (q : PathValue) → IsTrue (is_named q cs) → IsTrue (scope q)
  -- it names nothing without a reason
  pub reasons : (q : PathValue) → IsTrue (is_named q cs)
      → HasReason counts.changes due apart old new q
  -- what keeps its kind and is not apart is opened, and neither added nor deleted
  pub opens : (q : PathValue) → IsOfOneKind old new q → apart q ≡ false → IsTrue (is_named q cs)
      → IsTrue (has_step is_opening q cs) × (has_step adds_or_deletes q cs ≡ false)
  -- what stands in both trees and is apart is added, so what stood there was deleted before
  pub replaces : (q : PathValue) → IsTrue (scope q) → IsInBoth old new q → IsTrue (apart q)
      → IsTrue (has_step is_adding q cs)
  -- each step finds what it needs
  pub meets : (q : PathValue) → IsTrue (scope q) → IsTrue (all_meet q (node_at old q) cs)
