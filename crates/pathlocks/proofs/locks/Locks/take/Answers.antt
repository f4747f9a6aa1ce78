use Rattle.std.proofs.Common.{sym, ap, ◌∙◌}
use Rattle.std.specs.FinMap.{remove}
use Rattle.pathlocks.proofs.Maps.{removed, seen_at, taken_of}
use Rattle.pathlocks.proofs.locks.Locks.take.Goals as goal

pub returns-clause-taken : goal.returns-clause-taken
returns-clause-taken c =
    taken_of c.remove_entry.result c.args.path.now _ c.remove_entry.ensures.same_key
    (c.remove_entry.ensures.value ∙ sym (seen_at c.self.inside.locks.entries c.args.self.now c.args.path.now c.self.view_is))

pub returns-clause-left : goal.returns-clause-left
returns-clause-left c =
    removed c.self.inside.locks.entries _ c.args.path.now c.remove_entry.ensures.updates.0
    ∙ ap (λ m. remove m c.args.path.now) c.self.view_is
