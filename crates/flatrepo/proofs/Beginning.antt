-- A transaction as it begins.
use Rattle.std.proofs.Common.{◌≡◌, ◌-◌, ℕ, length, ap, ◌∙◌}
use Rattle.std.specs.FinMap.{get, empty, get-empty}
use Rattle.svnpath.specs.Paths.{path_cmp, PathValue}
use Rattle.repo_api.specs.{Edits.begun, States.{ChangeMap, IsBegun, LockMap, tree_at, tree_of, TreeMap}}
use Rattle.flat_commits.specs.{Contents.{flat_state, revisions_of}, declared.flat_content.FlatContent.FlatContent, Open.txn_of, Whole.state_of}

pub begun_is : (held shown : FlatContent) (locks : LockMap) (base : ℕ) (found tree : TreeMap) (changes : ChangeMap)
    → shown ≡ held → base ≡ length (revisions_of held) - 1 → found ≡ tree_at (flat_state held) base
    → ((q : PathValue) → get tree q ≡ begun (tree_of found) q) → changes ≡ empty
    → IsBegun (state_of held locks) (txn_of shown base tree changes)
begun_is held shown locks base found tree changes same base_is found_is tree_is changes_are = record {
  shown = ap revisions_of same;
  base = base_is;
  tree = λ q. tree_is q ∙ ap (λ (m : TreeMap). begun (tree_of m) q) (found_is ∙ ap (tree_at (flat_state held)) base_is);
  changes = λ q. ap (λ (m : ChangeMap). get m q) changes_are ∙ get-empty path_cmp q;
}
