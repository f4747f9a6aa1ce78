use Rattle.std.proofs.Common.{◌≡◌, ℕ, ap, subst, ◌∙◌, [], ◌∷◌}
use Rattle.access.specs.Points.{Point, content_of}
use Rattle.published.specs.{Events.Known, Moments.content_added}
use Rattle.repo_api.specs.Accepted.Accepted.{Commits, Releases}
use Rattle.keepers.specs.Standing.{HappensAt, now_of}
use Rattle.keepers.proofs.Stopping.{still}
use Rattle.seat_calls.specs.Releasing.{ReleasesHanded}
use Rattle.seat_calls.proofs.{Stopping.{committed_and_released, not_released}, Changing.released}
use Rattle.seat_calls.proofs.changes.make_commit.Goals as goal

pub returns-in-Ok-make_revision-clause-point : goal.returns-in-Ok-make_revision-clause-point
returns-in-Ok-make_revision-clause-point g c =
    let r = c.in-Ok-make_revision.ensures.point in
    let f = c.release_handed in
    let mid = c.make_revision.new.keeper in
    let n : c.make_revision.new.seat.number ≡ c.args.seat.now.number = ap (λ (k : Known). k.number) c.in-Ok-make_revision.ensures.told in
    let then = subst (λ (m : ℕ). HappensAt (ReleasesHanded c.in-Ok.handed) m mid f.result f.new.keeper) n f.ensures.point in (
      r.0,
      r.1,
      (
        r.2.0,
        (now_of c.args.seat.now.number mid, r.2.1, released c.args.ask c.in-Ok.handed _ _ f.result c.in-Ok.ensures then),
      ),
    )

pub returns-in-Ok-make_revision-clause-stop : goal.returns-in-Ok-make_revision-clause-stop
returns-in-Ok-make_revision-clause-stop g c =
    let t = g.R.Repository.txn_state c.args.txn in
    let r = c.in-Ok-make_revision.ensures.point in
    let running = c.archive-archive.ensures.steady.agrees.halted ∙ r.0 in
    let goes_on = c.archive-archive-in-Ok-make_revision.ensures.steady.agrees.halted ∙ (ap (λ (p : Point). p.halted) r.2.1 ∙ r.0) in
    committed_and_released g.S.Files.kept g.S.Archive.leaves g.met.S.Archive.joins g.met.S.Archive.among
    c.args.keeper.now c.make_revision.new.keeper c.release_handed.new.keeper c.args.ask t c.in-Ok.handed c.in-Ok.ensures
    running goes_on r.1 (ap (λ (p : Point). content_of p) r.2.1 ∙ content_added (now_of c.args.seat.now.number c.args.keeper.now) (Commits c.args.ask t))
    c.in-Ok-make_revision.ensures.stop c.release_handed.ensures.stop

pub returns-in-Err-make_revision-clause-stop : goal.returns-in-Err-make_revision-clause-stop
returns-in-Err-make_revision-clause-stop g c =
    not_released g.S.Files.kept g.S.Archive.leaves c.args.keeper.now c.make_revision.new.keeper c.args.ask (g.R.Repository.txn_state c.args.txn) c.in-Err-make_revision.ensures.stop

pub returns-in-Err-clause-stop : goal.returns-in-Err-clause-stop
returns-in-Err-clause-stop g c =
    still g.S.Files.kept g.S.Archive.leaves g.S.Archive.stands g.met.S.Archive.stays c.args.keeper.now c.archive-archive.ensures.steady (Commits c.args.ask (g.R.Repository.txn_state c.args.txn) ∷ Releases c.args.ask.author c.args.ask.tokens ∷ [])

pub release_handed-requires-clause-running : goal.release_handed-requires-clause-running
release_handed-requires-clause-running g c =
    let r = c.in-Ok-make_revision.ensures.point in
    ap (λ (p : Point). p.halted) r.2.1 ∙ r.0
