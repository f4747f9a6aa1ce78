use Rattle.file_histories.proofs.Cutting.{opened}
use Rattle.file_histories.proofs.segments.Segments.open.Goals as goal

pub returns : goal.returns
returns c h = opened h c.args.low c.args.high c.args.place
