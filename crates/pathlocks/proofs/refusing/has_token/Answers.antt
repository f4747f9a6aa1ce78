use Rattle.std.proofs.Common.{ap, ◌∙◌}
use Rattle.pathlocks.specs.Handed.{is_lent}
use Rattle.pathlocks.proofs.Handed.{found_among}
use Rattle.pathlocks.proofs.refusing.has_token.Goals as goal

pub returns : goal.returns
returns c =
    c.contains.ensures ∙ found_among c.args.set.now.keys c.as_slice.result.now ∙ ap (is_lent c.args.set.now.keys) c.as_slice.ensures
