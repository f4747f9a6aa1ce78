use Rattle.std.proofs.Common.{◌≡◌, None}
use Rattle.std.specs.{Prelude.if◌then◌else◌, Option.option_or, List.list_any, BTreeMap.is_at}
use Rattle.svnpath.specs.Paths.{path_cmp, PathValue}
use Rattle.revision_data.specs.Found.{found}
use Rattle.flat_trees.specs.Merging.{merged_at, put_over}
use Rattle.flat_trees.proofs.flat_tree.FlatTree.put_merged.Given as goal

-- what is put at the paths that are left makes the whole
abbrev pub invariant-loop-path : goal.invariant-loop-path
invariant-loop-path l =
    let t = merged_at l.revision l.base l.self l.youngest in
    (q : PathValue)
    → option_or (if list_any (is_at (path_cmp q)) l.path-iterator then t q else None) (found l.entries.entries q)
    ≡ put_over l.paths t (found l.initial.entries.entries) q
