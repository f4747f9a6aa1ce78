use Rattle.std.proofs.Common.{sym, ◌∙◌}
use Rattle.shared_revisions.proofs.Seen.{held_many}
use Rattle.shared_revisions.proofs.held.Held.count.Goals as goal

pub returns : goal.returns
returns c = c.len.ensures.length ∙ sym (held_many c.args.self.now)
