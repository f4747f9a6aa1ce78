use Rattle.std.proofs.Common.{◌≡◌, sym, ap, ◌∙◌}
use Rattle.std.specs.{FinMap.{get, from_entries}, Option.option_copied}
use Rattle.svnpath.specs.Paths.{path_cmp}
use Rattle.repo_api.specs.States.{tree_of}
use Rattle.revision_data.proofs.Seen.{seen_at}
use Rattle.flat_trees.specs.EntryChanges.{with_change, with_properties}
use Rattle.flat_trees.proofs.{MapEdits.part_seen, Parts.{changed_as, not_there}, Rules.revised_as}
use Rattle.flat_trees.proofs.flat_tree.FlatTree.change_property.Goals.{in-None, in-Some+in_ok-properties-in-Some}
use Rattle.flat_trees.proofs.flat_tree.FlatTree.change_property.Goals as goal

pub returns : goal.returns
returns c = λ q.
    let m = c.args.self.now in
    let p = c.args.path.now in
    let es = c.self.inside.entries.entries in
    let seen : from_entries {R = path_cmp} c.match-get.self-inside.entries.entries ≡ m =
    elim c.match-get.branch [
      | in-None w ↦ ap (λ s. from_entries {R = path_cmp} s.entries.entries) w.self-inside-is ∙ c.self.view_is
      | in-Some+in_ok-properties-in-Some w ↦ ap (λ s. from_entries {R = path_cmp} s.entries.entries) w.self-inside-is ∙ c.self.view_is
    ] in
    part_seen m c.match-get.self-inside.entries.entries c.put_properties.new.entries.entries c.touch_above.new.entries.entries p q
    (with_properties c.match-get.properties) seen
    c.put_properties.ensures (c.touch_above.ensures q)
    ∙ revised_as (tree_of m) p q (with_properties c.match-get.properties) (with_change c.args.name c.args.value) (λ e here.
    let there = c.get.ensures.value ∙ sym (seen_at es m p c.self.view_is) in
    elim c.match-get.branch [
      | in-None w ↦ not_there (get m p) e (sym (ap option_copied w.in-None.is) ∙ there) here
      | in-Some+in_ok-properties-in-Some w ↦
          changed_as c.match-get.properties c.args.name c.args.value (get m p) w.in-Some.entry.now e
          (w.properties-is ∙ w.in_ok-properties-in-Some.ensures) (sym (ap option_copied w.in-Some.is) ∙ there) here
    ])
