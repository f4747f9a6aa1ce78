use Rattle.std.proofs.Common.{ap}
use Rattle.published.specs.Events.{point_of}
use Rattle.serving.proofs.Served.{from_same}
use Rattle.serving.proofs.desks.serve_callers.Goals as goal

pub returns : goal.returns
returns g c =
    from_same c.requires.options (ap point_of c.into_parts.ensures.seat) c.into_parts.ensures.envs c.serve_at.ensures
