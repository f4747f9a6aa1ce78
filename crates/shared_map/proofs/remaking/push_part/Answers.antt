use Rattle.shared_map.proofs.Rows.{more_entries, more_filled}
use Rattle.shared_map.proofs.remaking.push_part.Goals as goal

pub returns-clause-entries : goal.returns-clause-entries
returns-clause-entries g c = more_entries c.args.parts.now.items c.push.new.self.items c.args.part c.in_ok-push.ensures.items

pub returns-clause-filled : goal.returns-clause-filled
returns-clause-filled g c = more_filled c.args.parts.now.items c.push.new.self.items c.args.part c.in_ok-push.ensures.items c.requires.filled c.requires.part
