use Rattle.std.proofs.Common.{sym}
use Rattle.flat_commits.specs.Contents.{flat_state}
use Rattle.flatrepo.proofs.repository.refusal_of.Goals as goal

pub returns : goal.returns
returns c = c.property_refusal.ensures (flat_state c.args.content.now) (sym c.youngest.ensures) (sym c.properties.ensures)
