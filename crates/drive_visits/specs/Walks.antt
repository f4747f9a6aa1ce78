-- What a walk over two trees needs to know of them.
use Rattle.std.specs.Prelude.{◌≡◌, ◌<◌, ◌&&◌, ◌||◌, ℕ, Bool, true, false, not, is_some, List, [], ◌∷◌, ◌++◌, Option, Some, None, IsSome, IsTrue, ◌⊎◌, length}
use Rattle.std.specs.{Prelude.{All, option_map, filter, map}, List.list_any}
use Rattle.svnpath.specs.Paths.{Component, is_at_or_under, PathValue}
use Rattle.repo_api.specs.{Kinds.kind_of, Trees.{HasFile, is_directory_there, Tree}, declared.entry.Entry.Entry}
use Rattle.drive_rules.specs.Drives.{content_at, Counts, created_revision, Differs, HasReason, IsInBoth, IsOfOneKind}
use Rattle.drive_rules.specs.Scopes.{below, HoldsTogether, tree_without}
use Rattle.drive_rules.specs.Steps.{after_steps, all_meet, empty_content, has_step, is_text, IsOwn, no_properties, Node, node_at}
use Rattle.drive_visits.specs.{declared.kinds.Kinds.Kinds, Visits.{OwnSteps, Visit, entry_kind}, Visits.Visit.Delete}

-- ---- both trees

-- Two trees side by side: what the client has, and what it is to have; which entries are due, and
-- which are apart; what counts of an entry; and what an entry is told.
pub record WalkedTrees : Type 0 where
  pub old : Tree
  pub new : Tree
  pub due : PathValue → Bool
  pub apart : PathValue → Bool
  pub counts : Counts
  pub own : OwnSteps

-- what stands at a path on both sides, and whether it is apart
pub record AreKindsAt (t : WalkedTrees) (p : PathValue) (kinds : Kinds) : Type 0 where
  pub old : kinds.old ≡ kind_of (t.old p)
  pub new : kinds.new ≡ kind_of (t.new p)
  pub apart : kinds.is_apart ≡ t.apart p

-- ---- lists of paths

-- q is at or under one of the paths
abbrev pub any_under : List PathValue → PathValue → Bool
any_under ps q = list_any (λ p. is_at_or_under q p) ps

-- none of the paths is at or under another
abbrev pub AreDisjoint : List PathValue → Type 0
AreDisjoint [] = Unit {0}
AreDisjoint (x ∷ xs) =
    ((q : PathValue) → is_at_or_under q x ≡ true → any_under xs q ≡ false) × AreDisjoint xs

-- x is p and one name more
abbrev pub IsChild : PathValue → PathValue → Type 0
IsChild p x = (c : Component) × (x ≡ p ++ c ∷ [])

-- the paths are each one name longer than p, and each is there once
pub record AreChildren (p : PathValue) (xs : List PathValue) : Type 0 where
  pub each : All (IsChild p) xs
  pub disjoint : AreDisjoint xs

-- what stands below p is at or under one of the paths
abbrev pub AreAll : Tree → PathValue → List PathValue → Type 0
AreAll t p xs = (q : PathValue) → below p q ≡ true → any_under xs q ≡ false → t q ≡ None

-- the paths are those of what a directory has on either side
pub record IsListed (t : WalkedTrees) (p : PathValue) (xs : List PathValue) : Type 0 where
  pub children : AreChildren p xs
  pub all_old : HoldsTogether p t.old → AreAll t.old p xs
  pub all_new : HoldsTogether p t.new → AreAll t.new p xs

-- no entry has a path this long
abbrev pub IsShorter : Tree → ℕ → Type 0
IsShorter t bound = (q : PathValue) → is_some (t q) ≡ true → length q < bound

-- ---- what goes

-- an entry that stands there goes: nothing is to stand there, or it is apart
abbrev pub goes : Bool → Option Entry → Option Entry → Bool
goes apart old new = is_some old && (not (is_some new) || apart)

-- so it does at a path
abbrev pub goes_at : WalkedTrees → PathValue → Bool
goes_at t p = goes (t.apart p) (t.old p) (t.new p)

-- the paths of what goes
abbrev pub going : (PathValue → Bool) → Tree → Tree → List PathValue → List PathValue
going apart old new ps = filter (λ p. goes (apart p) (old p) (new p)) ps

-- the tree with nothing at or under any of the paths
abbrev pub without_all : List PathValue → Tree → Tree
without_all [] t = t
without_all (p ∷ ps) t = without_all ps (tree_without p t)

-- what is left of the old tree: nothing, where the entry comes anew
abbrev pub old_side : Bool → Tree → Tree
old_side true old = λ _. None
old_side false old = old

-- what is left of the old tree once what goes among these paths was taken out
abbrev pub left_of : Bool → (PathValue → Bool) → Tree → Tree → List PathValue → Tree
left_of true apart old new ps = λ _. None
left_of false apart old new ps = without_all (going apart old new ps) old

-- the visits of what goes
abbrev pub deletes_of : Bool → (PathValue → Bool) → Tree → Tree → List PathValue → List Visit
deletes_of true apart old new ps = []
deletes_of false apart old new ps = map Delete (going apart old new ps)

-- ---- what stays

-- From the path on, what stands in either tree stands in a directory of it; what stands in both keeps
-- its kind, or is apart; and what stands in both under an entry that is apart is apart too.
pub record BothHold (apart : PathValue → Bool) (old new : Tree) (p : PathValue) : Type 0 where
  pub old_holds : HoldsTogether p old
  pub new_holds : HoldsTogether p new
  pub of_one_kind : (q : PathValue) → is_at_or_under q p ≡ true → IsInBoth old new q
      → apart q ≡ false → IsOfOneKind old new q
  pub all_apart : (q x : PathValue) → is_at_or_under q p ≡ true → apart q ≡ true
      → is_at_or_under x q ≡ true → IsInBoth old new x → apart x ≡ true

-- nothing that counts has changed at the path itself
pub record IsSame (t : WalkedTrees) (p : PathValue) : Type 0 where
  pub node : node_at t.old p ≡ node_at t.new p
  pub created : IsTrue t.counts.changes → created_revision t.old p ≡ created_revision t.new p
  pub quiet : t.due p ≡ false

-- at the path and under it both trees have the same, and nothing is due or apart
abbrev pub AreAlike : WalkedTrees → PathValue → Type 0
AreAlike t p =
    (q : PathValue) → is_at_or_under q p ≡ true
    → (t.old q ≡ t.new q) × (t.due q ≡ false) × (IsInBoth t.old t.new q → t.apart q ≡ false)

-- these are left of the paths: at and under each that is left out all is alike
abbrev pub LeavesUnlike : WalkedTrees → List PathValue → List PathValue → Type 0
LeavesUnlike t [] left = left ≡ []
LeavesUnlike t (p ∷ ps) left =
    (AreAlike t p × LeavesUnlike t ps left)
    ⊎ ((rest : List PathValue) × (left ≡ p ∷ rest) × LeavesUnlike t ps rest)

-- the paths are those of what a directory has on either side, but for such that are alike
pub record AreUnlikeListed (t : WalkedTrees) (p : PathValue) (left : List PathValue) : Type 0 where
  pub all : List PathValue
  pub listed : IsListed t p all
  pub unlike : LeavesUnlike t all left

-- the pairs of entries at both paths are one: on each side all is the same at and under them, the
-- same is apart, and nothing is due at or under the second
abbrev pub IsSamePair : WalkedTrees → PathValue → PathValue → Type 0
IsSamePair t p q =
    (rest : PathValue) → (t.old (p ++ rest) ≡ t.old (q ++ rest))
    × (t.new (p ++ rest) ≡ t.new (q ++ rest)) × (t.apart (p ++ rest) ≡ t.apart (q ++ rest))
    × (t.due (q ++ rest) ≡ false)

-- something is to be said of the entry itself: it differs, or is due
abbrev pub IsDue : WalkedTrees → PathValue → Type 0
IsDue t p = Differs t.counts.changes t.old t.new p ⊎ (t.due p ≡ true)

-- the path may be named
abbrev pub HasReasonAt : WalkedTrees → PathValue → Type 0
HasReasonAt t p = HasReason t.counts.changes t.due t.apart t.old t.new p

-- an entry is to stand there as a directory or a file, and stays unless it comes anew
pub record MayEnter (t : WalkedTrees) (anew directory : Bool) (p : PathValue) : Type 0 where
  pub stands : is_some (t.new p) ≡ true
  pub kind : directory ≡ is_directory_there (t.new p)
  pub stays : anew ≡ false → goes_at t p ≡ false

-- the path is named: it is the root, or something below it is, or something is to be said of the
-- entry itself
abbrev pub IsNeeded : {X : Type 0} → Bool → List X → Tree → Tree → (PathValue → Bool) → PathValue
    → Type 0
IsNeeded changes rest old new due p =
    (p ≡ []) ⊎ ((rest ≡ [] → ⊥) ⊎ (Differs changes old new p ⊎ (due p ≡ true)))

-- ---- an entry's own steps

-- a new entry, of the kind of what is to stand there
abbrev pub blank : Option Entry → Option Node
blank e = Some (empty_content (entry_kind e), no_properties)

-- Own steps lead an entry that is opened from what it was, and one that is added from a new entry,
-- to what it is to be; they find what they need, and say the text where it is another.
pub record LeadsOver (seen : Node → Node) (old new : Tree) (own : OwnSteps) : Type 0 where
  pub here : (p : PathValue) (anew : Bool) → IsOwn p (own p anew)
  pub open_meets : (p : PathValue) → IsOfOneKind old new p
      → all_meet p (node_at old p) (own p false) ≡ true
  pub open_leads : (p : PathValue) → IsOfOneKind old new p
      → option_map seen (after_steps p (node_at old p) (own p false))
      ≡ option_map seen (node_at new p)
  pub open_text : (p : PathValue) → HasFile new p → (content_at old p ≡ content_at new p → ⊥)
      → has_step is_text p (own p false) ≡ true
  pub add_meets : (p : PathValue) → IsSome (new p) → all_meet p (blank (new p)) (own p true) ≡ true
  pub add_text : (p : PathValue) → HasFile new p → has_step is_text p (own p true) ≡ true
  pub add_leads : (p : PathValue) → IsSome (new p)
      → option_map seen (after_steps p (blank (new p)) (own p true))
      ≡ option_map seen (node_at new p)
