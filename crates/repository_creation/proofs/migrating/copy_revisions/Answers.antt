use Rattle.std.proofs.Common.{◌+◌, sym, subst, rules}
use Rattle.store_files.specs.Folders.{Folder}
use Rattle.repostore.specs.Saving.{Stands}
use Rattle.repository_creation.specs.Migrating.{HasSome, IsFree}
use Rattle.repostore.proofs.Reaching.{are_one}
use Rattle.repository_creation.proofs.Copying.{both, failed_as, step_then}
use Rattle.repository_creation.proofs.migrating.copy_revisions.Goals as goal

pub returns-in_err-copy_revision-clause-step : goal.returns-in_err-copy_revision-clause-step
returns-in_err-copy_revision-clause-step g c =
    step_then g.S.Store g.T.Store c.args.from.now c.loop-number.from c.copy_revision.new.from c.args.to.now c.loop-number.to c.copy_revision.new.to _ c.from_residual.result
    c.loop-number.invariant.step (failed_as g.S.Store g.T.Store _ _ _ _ (search rules) c.copy_revision.ensures.step)

pub returns-in_err-copy_revision-clause-going : goal.returns-in_err-copy_revision-clause-going
returns-in_err-copy_revision-clause-going g c = λ honest there here.
    let s = g.T.Store in
    let was = c.loop-number.invariant in
    let l = c.args.course in
    let n = c.loop-number.number in
    let d = g.S.Store.holds c.args.from.now in
    let early = c.copy_revision.ensures.step.reads.honest honest in
    let one = are_one d (g.S.Store.holds c.loop-number.from) (was.step.reads.same early) in
    let so_far = was.moves early there here in
    let now = subst (λ (e : Folder). Stands s c.loop-number.to (HasSome there l.from e l.to n)) (sym one) so_far.stands in
    let step = c.copy_revision.ensures.going honest there now in
    record { stands = step.stands; run = both s c.args.to.now c.loop-number.to c.copy_revision.new.to IsFree so_far.run step.run }

pub loop-number-preserved : goal.loop-number-preserved
loop-number-preserved g c = record {
  step =
      step_then g.S.Store g.T.Store c.args.from.now c.loop-number.from c.copy_revision.new.from c.args.to.now c.loop-number.to c.copy_revision.new.to _ _
      c.loop-number.invariant.step c.in_ok-copy_revision.ensures.step;
  moves = λ honest there here.
      let s = g.T.Store in
      let was = c.loop-number.invariant in
      let l = c.args.course in
      let n = c.loop-number.number in
      let d = g.S.Store.holds c.args.from.now in
      let early = c.copy_revision.ensures.step.reads.honest honest in
      let one = are_one d (g.S.Store.holds c.loop-number.from) (was.step.reads.same early) in
      let so_far = was.moves early there here in
      let now = subst (λ (e : Folder). Stands s c.loop-number.to (HasSome there l.from e l.to n)) (sym one) so_far.stands in
      let step = c.copy_revision.ensures.going honest there now in
      record {
        stands = subst (λ (e : Folder). Stands s c.copy_revision.new.to (HasSome there l.from e l.to (n + 1))) one (c.in_ok-copy_revision.ensures.made honest there now);
        run = both s c.args.to.now c.loop-number.to c.copy_revision.new.to IsFree so_far.run step.run;
      };
}
