-- A copy as the trees of maps have it.
use Rattle.std.proofs.Common.{◌≡◌, Bool, true, false, [], ◌∷◌, ◌++◌, length, drop, Option, Some, None, option_map, refl, ap}
use Rattle.std.specs.{Prelude.if◌then◌else◌, Option.option_or}
use Rattle.svnpath.specs.Paths.{is_at_or_under, PathValue}
use Rattle.repo_api.specs.{Edits.{copied, copy_of, deleted, touched_above, with_open_mark}, Trees.Tree, declared.entry.Entry.Entry}
use Rattle.flat_trees.specs.EntryChanges.{landed}

copy_of_same : (s t : Tree) (from r : PathValue) → ((p : PathValue) → s p ≡ t p) → copy_of s from r ≡ copy_of t from r
copy_of_same s t from [] same = ap (option_map with_open_mark) (same from)
copy_of_same s t from (c ∷ r) same = same (from ++ c ∷ r)

pub landed_same : (s t : Tree) (from to q : PathValue) → ((p : PathValue) → s p ≡ t p) → landed s from to q ≡ landed t from to q
landed_same s t from to q same = ap (λ o. if is_at_or_under q to then o else None) (copy_of_same s t from (drop (length to) q) same)

-- what lands over what is left by a delete is the copy
pub copied_over : (s t : Tree) (from to q : PathValue) → option_or (landed s from to q) (deleted t to q) ≡ copied s from t to q
copied_over s t from to q = by (is_at_or_under q to) (copy_of s from (drop (length to) q))
  where
    by : (b : Bool) (l : Option Entry) → option_or (if b then l else None) (if b then None else touched_above to t q) ≡ (if b then l else touched_above to t q)
    by true None = refl
    by true (Some e) = refl
    by false l = refl
