-- What a repository is made of stays sound, and what a commit rests on.
use Rattle.std.proofs.{Common.{◌≡◌, ◌<◌, length, refl, sym, ap, subst}, Math.Logic.{∥∥₁_elim, ∥∥₁_map₂}}
use Rattle.std.specs.{Coded.{codes, Coded, Coded-set, Π_prop}, FinMap.get, Prelude.{slice_get, None, Option}}
use Rattle.svnpath.specs.Paths.{PathValue}
use Rattle.repo_api.specs.{Accepted.Accepted.Commits, Commits.{commit_refusal, committed}, Histories.changes_in, Soundness.AreSound}
use Rattle.repo_api.specs.{States.{IsBeginning, LockMap, RepoState, trees_in, TxnState}, Trees.Tree, declared.ask.CommitAsk.CommitAsk}
use Rattle.repo_api.specs.declared.entry.Entry.{Entry}
use Rattle.history_marks.specs.{Quiet.IsMarkedBy, Sound.{IsSoundRepo, IsSoundTxn}}
use Rattle.history_marks.proofs.Staying.{changed_sound}
use Rattle.noderevs.specs.Held.{trees_of}
use Rattle.treemerge.specs.Merges.{IsTold}
use Rattle.shared_revisions.specs.{Contents.{held_state, revisions_of, state_of}, declared.held.Held.Held}
use Rattle.shared_revisions.proofs.Telling.{sound_told}

-- soundness is of the revisions alone
pub same_revisions : (c d : RepoState) → d.revisions ≡ c.revisions → IsSoundRepo c → IsSoundRepo d
same_revisions c d same s = record {
  begun = subst (λ rs. 0 < length rs) (sym same) s.begun;
  revisions = subst AreSound (sym same) s.revisions;
  marked = subst (λ rs. IsMarkedBy (trees_in rs) (λ n. changes_in (slice_get rs n))) (sym same)
      s.marked;
}

pub commit_keeps : (old new : Held) (locks : LockMap) (ask : CommitAsk) (t : TxnState)
    → IsBeginning t.shown (revisions_of old) → commit_refusal (state_of old locks) ask t ≡ None
    → held_state new ≡ committed (held_state old) ask t
    → ∥ IsSoundTxn t ∥₁ → ∥ IsSoundRepo (held_state old) ∥₁ → ∥ IsSoundRepo (held_state new) ∥₁
commit_keeps old new locks ask t begins accepted is txn held = ∥∥₁_map₂ txn held (λ x s.
    same_revisions (committed (state_of old locks) ask t) (held_state new)
    (ap (λ c. c.revisions) is)
    (changed_sound (state_of old locks) (Commits ask t)
    (same_revisions (held_state old) (state_of old locks) refl s) accepted (begins, x)))

-- ---- what a merge rests on

entries_coded : Coded (Option Entry)
entries_coded = hlevel codes

told_prop : (a s : Tree) → IsProp (IsTold a s)
told_prop a s = Π_prop (λ q. Π_prop (λ h. Coded-set entries_coded _ _))

pub told_here : (h : Held) (t : TxnState) (s : Tree) → ∥ IsSoundRepo (held_state h) ∥₁
    → IsBeginning t.shown (revisions_of h) → ∥ IsSoundTxn t ∥₁
    → ((q : PathValue) → get t.tree q ≡ s q) → IsTold (trees_of h.nodes t.base) s
told_here h t s sound begins txn same =
    ∥∥₁_elim sound (told_prop (trees_of h.nodes t.base) s) (λ r.
    ∥∥₁_elim txn (told_prop (trees_of h.nodes t.base) s) (λ x.
    sound_told h t s r begins x same))
