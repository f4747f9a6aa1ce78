-- What a commit does: it is refused, or adds one revision.
use Rattle.std.specs.{Prelude.{◌≡◌, ℕ, List, [], ◌∷◌, ◌++◌, length, Option, Some, None, nat_le, if◌then◌else◌, codes}, Option.option_or}
use Rattle.svnpath.specs.Paths.{PathValue}
use Rattle.refusals.specs.declared.Refusal.{Refusal}
use Rattle.refusals.specs.declared.Refusal.TheVariants as refusals
use Rattle.repo_api.specs.{Properties.{PropertyList, with_property, without_property}, States.{TreeMap, RepoState, TxnState, tree_at, youngest}}
use Rattle.repo_api.specs.{MergedMaps.{has_conflict, IsConflict, merged_map}, Locking.{check_refusal, refusing_path}}
use Rattle.repo_api.specs.{declared.limits.TheConstants.REVISION_LIMIT, declared.ask.CommitAsk.CommitAsk}

-- no number is left for a further revision
abbrev pub limit_refusal : RepoState → Option Refusal
limit_refusal c =
    if nat_le REVISION_LIMIT (length c.revisions) then Some refusals.NotSupported else None

-- why a commit that asks for this is refused, if it is: it conflicts with what others have changed
-- since it began, or a lock is in its way, or there is no number left
abbrev pub commit_refusal : RepoState → CommitAsk → TxnState → Option Refusal
commit_refusal c ask t =
    if has_conflict (tree_at c t.base) t.tree (tree_at c (youngest c)) then Some refusals.Conflict
    else option_or (check_refusal c.locks t.changes ask.author ask.tokens) (limit_refusal c)

-- a path at which others have changed what the transaction has changed, or none where they have not
abbrev pub IsConflictOf : RepoState → TxnState → Option PathValue → Type 0
IsConflictOf c t o = IsConflict (tree_at c t.base) t.tree (tree_at c (youngest c)) o

-- a path at which a commit that asks for this is refused, if it is at one: one in conflict,
-- whichever, or where none is, that of the first lock in the way that refuses
abbrev pub IsRefusedAt : RepoState → CommitAsk → TxnState → Option PathValue → Type 0
IsRefusedAt c ask t path =
    (conflict : Option PathValue) × IsConflictOf c t conflict
    × (path ≡ option_or conflict (refusing_path c.locks t.changes ask.author ask.tokens))

-- the tree of the revision that a commit adds
abbrev pub next_tree : RepoState → TxnState → TreeMap
next_tree c t = merged_map (length c.revisions) (tree_at c t.base) t.tree (tree_at c (youngest c))

-- the list that was asked for, or the message alone
abbrev pub asked_properties : Option PropertyList → List ℕ → PropertyList
asked_properties None message = (codes "svn:log", message) ∷ []
asked_properties (Some list) message = list

abbrev pub with_author : Option (List ℕ) → PropertyList → PropertyList
with_author None ps = without_property ps (codes "svn:author")
with_author (Some user) ps = with_property ps (codes "svn:author") user

-- the properties of the new revision
abbrev pub revision_properties : CommitAsk → PropertyList
revision_properties ask =
    with_author ask.author (with_property (asked_properties ask.properties ask.message)
    (codes "svn:date") ask.date)

-- the repository after an accepted commit
abbrev pub committed : RepoState → CommitAsk → TxnState → RepoState
committed c ask t = record {
  uuid = c.uuid;
  revisions = c.revisions ++ record { tree = next_tree c t; changes = t.changes } ∷ [];
  properties = c.properties ++ revision_properties ask ∷ [];
  locks = c.locks;
}
