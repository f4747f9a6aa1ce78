use Rattle.std.proofs.Common.{sym, ap, ◌∙◌}
use Rattle.std.specs.FinMap.{entries}
use Rattle.repo_api.specs.StateLaws.{entries_of}
use Rattle.revision_data.proofs.change_list.ChangeList.as_slice.Goals as goal

pub returns : goal.returns
returns c =
    c.as_slice.ensures.value
    ∙ sym (entries_of c.self.inside.changes.items c.self.invariant)
    ∙ ap entries c.self.view_is
