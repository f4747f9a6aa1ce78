use Rattle.std.proofs.{Common.{[], ap, ◌∙◌}, lemmas.Map.Entries.entries_from_clone}
use Rattle.repo_api.specs.Edits.{touched_above}
use Rattle.revision_data.specs.Found.{found}
use Rattle.flat_trees.proofs.MapEdits.{touch_seen}
use Rattle.flat_trees.proofs.flat_tree.FlatTree.begun.Goals as goal

pub returns : goal.returns
returns c = λ q.
    touch_seen c.args.self.now c.self.inside.entries.entries c.touch_above.new.entries.entries [] q c.self.view_is
    (c.touch_above.ensures q
    ∙ ap (λ p. touched_above p (found c.in_ok-entries.entries.entries) q) c.root.ensures
    ∙ ap (λ es. touched_above [] (found es) q) (entries_from_clone _ _ (λ x y e. e) (λ x y e. e) _ _ c.in_ok-entries.ensures.cases))
