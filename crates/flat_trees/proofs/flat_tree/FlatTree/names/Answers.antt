use Rattle.std.proofs.Common.{map, sym, ap, ◌∙◌}
use Rattle.repo_api.specs.{Readings.{names_among, names_in}, StateLaws.entries_of}
use Rattle.flat_trees.proofs.flat_tree.FlatTree.names.Goals as goal

pub returns-in-Ok : goal.returns-in-Ok
returns-in-Ok c =
    c.in-Ok.ensures.names
    ∙ ap (λ es. names_among c.args.path.now (map (λ e. e.0) es)) (sym (entries_of c.self.inside.entries.entries c.in-Ok.ensures.ordered))
    ∙ ap (λ m. names_in m c.args.path.now) c.self.view_is
