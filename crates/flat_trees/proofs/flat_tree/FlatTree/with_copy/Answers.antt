use Rattle.std.proofs.{Common.{None, option_map, sym, ap, ◌∙◌}, lemmas.Map.Entries.entries_from_clone}
use Rattle.std.specs.{Prelude.if◌then◌else◌, Option.option_or}
use Rattle.svnpath.specs.Paths.{is_at_or_under}
use Rattle.repo_api.specs.{Edits.{deleted, touched}, StateLaws.get_path, States.tree_of}
use Rattle.revision_data.specs.Found.{found}
use Rattle.flat_trees.specs.EntryChanges.{landed}
use Rattle.flat_trees.proofs.Landed.{copied_over, landed_same}
use Rattle.revision_data.proofs.Seen.{seen_at}
use Rattle.flat_trees.proofs.flat_tree.FlatTree.with_copy.Goals as goal

pub returns : goal.returns
returns c = λ q.
    let source = tree_of c.args.source.now in
    let from = c.args.from.now in
    let to = c.args.to.now in
    let left = found c.cut_subtree.new.entries.entries q in
    get_path c.put_copies.new.entries.entries q ∙ c.in_ok-put_copies.ensures q
    ∙ ap (λ o. option_or o left) (landed_same (found c.source.inside.entries.entries) source from to q
    (λ p. sym (seen_at c.source.inside.entries.entries c.args.source.now p c.source.view_is)))
    ∙ ap (option_or (landed source from to q)) (c.cut_subtree.ensures q
    ∙ ap (λ es. deleted (found es) to q) (entries_from_clone _ _ (λ x y e. e) (λ x y e. e) _ _ c.in_ok-entries.ensures.cases)
    ∙ ap (λ o. if is_at_or_under q to then None else (if is_at_or_under to q then option_map touched o else o)) (sym (seen_at c.self.inside.entries.entries c.args.self.now q c.self.view_is)))
    ∙ copied_over source (tree_of c.args.self.now) from to q
