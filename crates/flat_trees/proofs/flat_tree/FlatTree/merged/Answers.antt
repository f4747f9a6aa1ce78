use Rattle.std.proofs.Common.{None, is_some, sym, ap, ◌∙◌}
use Rattle.std.specs.{Prelude.if◌then◌else◌, Option.option_or, FinMap.{get, from_entries}}
use Rattle.svnpath.specs.Paths.{path_cmp}
use Rattle.repo_api.specs.{Merge.merged, MergeLaws.get_merged_map, MergedMaps.merged_map, StateLaws.{get_path, same_tree}, States.tree_of}
use Rattle.revision_data.specs.Found.{found}
use Rattle.flat_trees.proofs.Merged.{put_both}
use Rattle.flat_trees.proofs.flat_tree.FlatTree.merged.Goals as goal

pub returns : goal.returns
returns c =
    let n = c.args.revision in
    let base = c.args.base.now in
    let txn = c.args.self.now in
    let youngest = c.args.youngest.now in
    same_tree (from_entries {R = path_cmp} c.put_merged-2.new.entries.entries) (merged_map n base txn youngest) (λ q.
    get_path c.put_merged-2.new.entries.entries q ∙ c.in_ok-put_merged-2.ensures q
    ∙ ap (option_or (if is_some (get youngest q) then merged n (tree_of base) (tree_of txn) (tree_of youngest) q else None))
    (c.in_ok-put_merged.ensures q
    ∙ ap (λ es. option_or (if is_some (get txn q) then merged n (tree_of base) (tree_of txn) (tree_of youngest) q else None) (found es q)) c.new-entries.ensures.empty)
    ∙ put_both n q (get base q) (get txn q) (get youngest q)
    ∙ sym (get_merged_map n base txn youngest q))
