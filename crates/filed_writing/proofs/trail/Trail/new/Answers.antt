use Rattle.filed_writing.specs.Trails.{made_at}
use Rattle.filed_writing.proofs.trail.Trail.new.Goals as goal

pub returns : goal.returns
returns c r = c.new-way.ensures (made_at r)
