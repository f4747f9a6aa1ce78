use Rattle.mergeinfo.proofs.Sweeping.{all_written}
use Rattle.mergeinfo.proofs.sweep.Sweep.finish.Goals as goal

pub returns : goal.returns
returns c = λ ranges s.
    let t = c.in_ok-go_to.ensures ranges s.place_within s in
    all_written _ _ _ ranges _ t.inheritable_within t.other_within t.is_open t.is_written
