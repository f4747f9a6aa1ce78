use Rattle.std.proofs.Common.{arith}
use Rattle.shared_map.proofs.Unlike.{stands}
use Rattle.shared_map.proofs.comparing.stands_at.Goals as goal

pub returns : goal.returns
returns g c = λ yes.
    stands c.args.entries.now c.args.place c.index-entries-place.result c.args.entry.now (omega arith) c.index-entries-place.is
    (c.is_entry.ensures.0 yes)
