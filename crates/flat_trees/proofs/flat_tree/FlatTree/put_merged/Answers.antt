use Rattle.std.proofs.{Common.{None, is_some, sym, ap, ◌∙◌}, lemmas.Map.Iter.rest_more}
use Rattle.std.specs.{Prelude.if◌then◌else◌, Option.option_or, List.list_any, BTreeMap.is_at, Map.Iter.deref}
use Rattle.svnpath.specs.Paths.{path_cmp}
use Rattle.revision_data.specs.Found.{found}
use Rattle.flat_trees.specs.Merging.{merged_at}
use Rattle.flat_trees.proofs.{Anys.found_key, Merged.put_more}
use Rattle.revision_data.proofs.Seen.{seen_at}
use Rattle.flat_trees.proofs.flat_tree.FlatTree.put_merged.Goals as goal

pub loop-path-init : goal.loop-path-init
loop-path-init c = λ q.
    let t = merged_at c.args.revision c.args.base.now c.args.self.now c.args.youngest.now in
    let es = c.paths.inside.entries.entries in
    ap (λ b. option_or (if b then t q else None) (found c.args.entries.now.entries q))
    (ap (list_any (is_at (path_cmp q))) (c.into_iter-path-iterator.ensures.into_iter_gives ∙ c.keys-path-items.ensures.rest)
    ∙ sym (found_key es q) ∙ ap is_some (sym (seen_at es c.args.paths.now q c.paths.view_is)))

pub loop-path-preserved : goal.loop-path-preserved
loop-path-preserved c = λ q.
    let t = merged_at c.args.revision c.args.base.now c.args.self.now c.args.youngest.now in
    let out = found c.loop-path.entries.entries q in
    let left = c.next.new.self in
    put_more t c.in-Some.path.now q (list_any (is_at (path_cmp q)) left) c.in_ok-entry.entry out (found c.put_optional.new.entries.entries q)
    c.in_ok-entry.ensures (c.in_ok-put_optional.ensures q)
    ∙ ap (λ ks. option_or (if list_any (is_at (path_cmp q)) ks then t q else None) out)
    (sym (rest_more deref c.loop-path.path-iterator left c.next.result c.in-Some.path c.in-Some.is c.next.ensures.steps))
    ∙ c.loop-path.invariant q
