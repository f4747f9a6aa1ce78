use Rattle.repo_api.specs.{Accepted.Accepted.Commits, Commits.commit_refusal}
use Rattle.access.specs.{Changing.IsCommitted, Points.{content_of, Point}, Sole.sole_rules}
use Rattle.access.proofs.Telling.{told_as}
use Rattle.stored_repository.specs.Stored.{point_in}
use Rattle.stored_repository.proofs.stored.StoredRepository.refuse_commit.Goals as goal

pub returns-clause-point : goal.returns-clause-point
returns-clause-point g c =
    let r = g.F.Repository in
    let d = c.args.self.now in
    let ask = c.args.ask.now in
    let t = r.txn_state c.args.txn.now in
    let at : Point = point_in r.content g.S.Store.failed r.txn_state d.repository d.saves d.pending in
    told_as (commit_refusal (content_of at) ask t) (Commits ask t) (IsCommitted sole_rules ask t at) at at
    c.args.fault c.refused_commit.result.fault c.refused_commit.ensures.fault c.requires.came
