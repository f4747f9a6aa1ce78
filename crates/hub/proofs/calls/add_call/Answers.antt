use Rattle.hub.proofs.calls.add_call.Goals as goal
use Rattle.hub.proofs.calls.add_call.Goals.{in-Ok, in-Err}

pub returns : goal.returns
returns g c = elim c.match-push.branch [
  | in-Ok w ↦ rw w.result-is (c.make_call.result, c.make_call.ensures, w.in-Ok.ensures.items)
  | in-Err w ↦ rw w.result-is (c.make_call.result, c.make_call.ensures, tt)
]
