use Rattle.edit_rules.proofs.Places.{placed_others}
use Rattle.edit_rules.proofs.open_tokens.close_in.Goals as goal

pub returns-in-Some-clause-placed : goal.returns-in-Some-clause-placed
returns-in-Some-clause-placed c =
    placed_others c.args.places.now.entries c.forget_place.new.places.entries c.args.opened.now.entries c.remove.new.self.entries c.args.token.now c.path.result.now
    c.requires c.forget_place.ensures c.remove.ensures.updates.0
