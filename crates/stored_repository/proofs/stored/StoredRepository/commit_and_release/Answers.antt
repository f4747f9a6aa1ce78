use Rattle.std.proofs.Common.{◌≡◌, [], ◌∷◌, ap, ◌∙◌, length}
use Rattle.repo_api.specs.{Accepted.Accepted.{Commits, Releases}, Commits.committed, States.RepoState}
use Rattle.access.specs.Points.{content_of, Point}
use Rattle.stored_repository.specs.Stored.{stored_at, point_in}
use Rattle.stored_repository.proofs.{Changes.released, Leaving.{call_still, committed_and_released, not_released}}
use Rattle.stored_repository.proofs.stored.StoredRepository.commit_and_release.Goals as goal

pub returns-in-Ok-settle_revision-clause-point : goal.returns-in-Ok-settle_revision-clause-point
returns-in-Ok-settle_revision-clause-point g c =
    let old = (g.F.Repository.content c.args.self.now.repository) in
    let r = g.F.Repository in
    let start = c.args.self.now in
    let at : Point = point_in r.content g.S.Store.failed r.txn_state start.repository start.saves start.pending in
    let middle = c.settle_revision.new.self in
    let mid : Point = point_in r.content g.S.Store.failed r.txn_state middle.repository middle.saves middle.pending in
    let end = c.release_handed.new.self in
    let q : Point = point_in r.content g.S.Store.failed r.txn_state end.repository end.saves end.pending in
    let is : r.content c.in-Ok.next ≡ committed old c.args.ask (r.txn_state c.args.txn) = cc c.in-Ok.ensures.ok in
    let number : c.in-Ok.new.number ≡ length old.revisions = cc c.in-Ok.ensures.number in
    let saved : mid ≡ stored_at (r.content c.in-Ok.next) at.halted at.failures at.pending = c.in-Ok-settle_revision.ensures.point in (
      c.requires.goes_on,
      c.in-Ok.ensures.judged.0,
      (
        number,
        (
          mid,
          saved ∙ ap (λ (x : RepoState). stored_at x at.halted at.failures at.pending) is,
          released c.args.ask c.args.handed mid c.release_handed.result q c.requires.handed_in c.release_handed.ensures.point,
        ),
      ),
    )

pub returns-in-Ok-settle_revision-clause-stop : goal.returns-in-Ok-settle_revision-clause-stop
returns-in-Ok-settle_revision-clause-stop g c =
    let r = g.F.Repository in
    let start = c.args.self.now in
    let middle = c.settle_revision.new.self in
    let end = c.release_handed.new.self in
    let is : r.content c.in-Ok.next ≡ committed (r.content start.repository) c.args.ask (r.txn_state c.args.txn) = cc c.in-Ok.ensures.ok in
    committed_and_released r.content g.F.Filed.is_of g.S.Store (start.repository, start.saves) (middle.repository, middle.saves) (end.repository, end.saves)
    c.args.ask (r.txn_state c.args.txn) c.args.handed c.requires.handed_in c.requires.goes_on
    (ap (λ (p : Point). p.halted) c.in-Ok-settle_revision.ensures.point ∙ c.requires.goes_on) c.in-Ok.ensures.judged.0
    (ap content_of c.in-Ok-settle_revision.ensures.point ∙ is) c.in-Ok-settle_revision.ensures.stop c.release_handed.ensures.stop

pub returns-in-Ok-clause-stop : goal.returns-in-Ok-clause-stop
returns-in-Ok-clause-stop g c =
    let start = c.args.self.now in
    let middle = c.settle_revision.new.self in
    not_released g.F.Repository.content g.F.Filed.is_of g.S.Store (start.repository, start.saves) (middle.repository, middle.saves)
    c.args.ask (g.F.Repository.txn_state c.args.txn) c.settle_revision.ensures.stop

pub returns-clause-stop : goal.returns-clause-stop
returns-clause-stop g c =
    call_still g.F.Repository.content g.F.Filed.is_of g.S.Store (λ store folder. g.met.S.Store.only_now store folder)
    c.args.self.now.saves c.args.self.now.repository (Commits c.args.ask (g.F.Repository.txn_state c.args.txn) ∷ Releases c.args.ask.author c.args.ask.tokens ∷ []) c.args.self.now.kept
