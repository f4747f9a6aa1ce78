use Rattle.std.proofs.Common.{ap, arith}
use Rattle.history.proofs.{Once.{located_some, located_none}, locating.located.Goals.{in-Some+in_ok-push, in_default}}
use Rattle.history.proofs.locating.located.Goals as goal

pub loop-revision-preserved : goal.loop-revision-preserved
loop-revision-preserved g c =
    elim c.match-branch-3.branch [
      | in-Some+in_ok-push w ↦
          located_some (g.R.Repository.content c.args.repository.now) c.args.place.now c.args.revisions.now c.loop-revision.revision-index (omega arith)
          c.loop-revision.found.items w.push.new.self.items c.match-branch-3.found.items c.in_ok-path.field-0 w.in-Some.path (ap (λ v. v.items) w.found-is)
          w.in_ok-push.ensures.items c.loop-revision.invariant c.in_ok-path.ensures w.in-Some.is
      | in_default w ↦
          located_none (g.R.Repository.content c.args.repository.now) c.args.place.now c.args.revisions.now c.loop-revision.revision-index (omega arith)
          c.loop-revision.found.items c.match-branch-3.found.items c.in_ok-path.field-0 (ap (λ v. v.items) w.found-is) c.loop-revision.invariant
          c.in_ok-path.ensures w.in_default.is
    ]
