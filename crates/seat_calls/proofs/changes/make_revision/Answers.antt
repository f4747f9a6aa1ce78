use Rattle.keepers.proofs.Stopping.{still}
use Rattle.std.proofs.Common.{◌≡◌, [], ◌∷◌, ◌∙◌, None, sym, subst, Err}
use Rattle.access.specs.{Points.content_of, Refused.IfRefusal}
use Rattle.access.proofs.Telling.{told_as}
use Rattle.published.specs.Moments.{added}
use Rattle.repo_api.specs.{Transactions.MayCommit, Accepted.{Accepted, IsJudged, refusal_of}, Accepted.Accepted.Commits, Commits.{IsRefusedAt, commit_refusal}}
use Rattle.repo_api.specs.States.{IsBeginning, RepoState}
use Rattle.archives.specs.Archives.{IsMade}
use Rattle.keepers.specs.{Settling.SettlesTo, Standing.{StopLeaves, now_of}}
use Rattle.seat_calls.proofs.Changing.{next_by, accepted_now, commit_fails, number_is, refused, not_begun, unbegun_unrefused, unsaved_unrefused}
use Rattle.seat_calls.proofs.changes.make_revision.Goals as goal

pub settle-requires-clause-next : goal.settle-requires-clause-next
settle-requires-clause-next g c =
    let kept = g.S.Files.kept in
    let t = g.R.Repository.txn_state c.args.txn in
    let e = Commits c.args.ask t in
    let made = subst (λ (a : g.row.S.Denot). IsMade (kept a).content e (g.R.Repository.content c.in-Ok-committed.made.0)) c.archive.ensures.archive c.in-Ok-committed.ensures.1.0 in
    next_by kept g.S.Archive.stands c.args.keeper.now c.args.seat.now.number c.readiness.ensures.0 c.in-Ok.ensures.1.0 e _ (g.R.Repository.content c.in-Ok-committed.made.0) made
    (λ i. Commits (c.of.ensures i) (g.R.Repository.txn_state (c.of-in-Ok.ensures i)))
    (λ s a. c.commits_are_right.ensures _ c.args.ask t s c.requires.may a)

pub settle-requires-clause-writes : goal.settle-requires-clause-writes
settle-requires-clause-writes g c =
    let t = g.R.Repository.txn_state c.args.txn in
    let e = Commits c.args.ask t in
    let is : Commits c.of.result.value (g.R.Repository.txn_state c.of-in-Ok.result.value) ≡ e = λ i. Commits (c.of.ensures i) (g.R.Repository.txn_state (c.of-in-Ok.ensures i)) in
    subst (λ (x : Accepted). g.S.Archive.writes c.args.keeper.now.archive c.in-Ok-committed.made.1 x) (sym is)
    (subst (λ (a : g.row.S.Denot). g.S.Archive.writes a c.in-Ok-committed.made.1 e) c.archive.ensures.archive c.in-Ok-committed.ensures.1.1)

pub returns-in-Ok-settle-clause-point : goal.returns-in-Ok-settle-clause-point
returns-in-Ok-settle-clause-point g c =
    let kept = g.S.Files.kept in
    let t = g.R.Repository.txn_state c.args.txn in
    let e = Commits c.args.ask t in
    let p = now_of c.args.seat.now.number c.args.keeper.now in
    let made = subst (λ (a : g.row.S.Denot). IsMade (kept a).content e (g.R.Repository.content c.in-Ok-committed.made.0)) c.archive.ensures.archive c.in-Ok-committed.ensures.1.0 in
    let is : Commits c.of.result.value (g.R.Repository.txn_state c.of-in-Ok.result.value) ≡ e = λ i. Commits (c.of.ensures i) (g.R.Repository.txn_state (c.of-in-Ok.ensures i)) in (
      sym c.readiness.ensures.0.agrees.halted ∙ c.in-Ok.ensures.1.0,
      accepted_now kept g.S.Archive.stands c.args.keeper.now c.args.seat.now.number c.readiness.ensures.0 c.in-Ok.ensures.1.0 e _ made,
      (
        c.youngest-revision.ensures ∙ number_is _ c.args.ask t (content_of p) _ (c.readiness.ensures.0.agrees.content c.in-Ok.ensures.1.0) made.made,
        subst (λ (x : Accepted). now_of c.args.seat.now.number c.settle.new.self ≡ added p x) is c.in-Ok-settle.ensures.point,
      ),
    )

pub returns-in-Err-settle-clause-point : goal.returns-in-Err-settle-clause-point
returns-in-Err-settle-clause-point g c =
    let kept = g.S.Files.kept in
    let t = g.R.Repository.txn_state c.args.txn in
    let e = Commits c.args.ask t in
    let p = now_of c.args.seat.now.number c.args.keeper.now in
    let made = subst (λ (a : g.row.S.Denot). IsMade (kept a).content e (g.R.Repository.content c.in-Ok-committed.made.0)) c.archive.ensures.archive c.in-Ok-committed.ensures.1.0 in
    let is : Commits c.of.result.value (g.R.Repository.txn_state c.of-in-Ok.result.value) ≡ e = λ i. Commits (c.of.ensures i) (g.R.Repository.txn_state (c.of-in-Ok.ensures i)) in
    commit_fails {T = Unit {0}} p (now_of c.args.seat.now.number c.settle.new.self) (commit_refusal (content_of p) c.args.ask t) e (λ x q. Unit {0}) c.in-Err-settle.fault (sym c.readiness.ensures.0.agrees.halted ∙ c.in-Ok.ensures.1.0)
    (accepted_now kept g.S.Archive.stands c.args.keeper.now c.args.seat.now.number c.readiness.ensures.0 c.in-Ok.ensures.1.0 e _ made)
    (subst (λ (x : Accepted). SettlesTo x p (Err c.in-Err-settle.fault) (now_of c.args.seat.now.number c.settle.new.self)) is c.in-Err-settle.ensures.point)

pub returns-in-Err-clause-point : goal.returns-in-Err-clause-point
returns-in-Err-clause-point g c =
    let p = now_of c.args.seat.now.number c.args.keeper.now in
    let t = g.R.Repository.txn_state c.args.txn in
    not_begun g.S.Files.kept g.S.Archive.stands c.args.keeper.now c.args.seat.now.number c.readiness.ensures.0 {T = Unit {0}} (commit_refusal (content_of p) c.args.ask t) (Commits c.args.ask t) (λ x q. Unit {0}) c.in-Err.fault c.in-Err.ensures.1

pub returns-in-Err-committed-clause-point : goal.returns-in-Err-committed-clause-point
returns-in-Err-committed-clause-point g c =
    let kept = g.S.Files.kept in
    let t = g.R.Repository.txn_state c.args.txn in
    let p = now_of c.args.seat.now.number c.args.keeper.now in
    let told = c.refused_commit-refused in
    told_as {T = Unit {0}} (commit_refusal (content_of p) c.args.ask t) (Commits c.args.ask t) (λ x q. Unit {0}) p p
    c.in-Err-committed.fault told.result.fault told.ensures.fault
    (refused kept g.S.Archive.stands c.args.keeper.now c.args.seat.now.number c.readiness.ensures.0 c.in-Ok.ensures.1.0 (Unit {0}) {T = Unit {0}} (Commits c.args.ask t) (λ x q. Unit {0}) c.in-Err-committed.fault
    (subst (λ (a : g.row.S.Denot). IsJudged {T = Unit {0}} (Err c.in-Err-committed.fault) (refusal_of (kept a).content (Commits c.args.ask t))) c.archive.ensures.archive c.in-Err-committed.ensures.0))

pub refused_commit-refused-requires : goal.refused_commit-refused-requires
refused_commit-refused-requires g c =
    let t = g.R.Repository.txn_state c.args.txn in
    subst (λ (x : RepoState). IsBeginning t.shown x.revisions) (sym (c.repository.ensures.repository ∙ c.readiness.ensures.0.content)) c.requires.may.0

pub returns-in-Err-committed-clause-path : goal.returns-in-Err-committed-clause-path
returns-in-Err-committed-clause-path g c =
    let t = g.R.Repository.txn_state c.args.txn in
    let told = c.refused_commit-refused in
    subst (λ (x : RepoState). IfRefusal told.result.fault (IsRefusedAt x c.args.ask t told.result.path)) (c.repository.ensures.repository ∙ c.readiness.ensures.0.content) told.ensures.path

pub returns-in-Err-settle-clause-path : goal.returns-in-Err-settle-clause-path
returns-in-Err-settle-clause-path g c =
    let t = g.R.Repository.txn_state c.args.txn in
    let p = now_of c.args.seat.now.number c.args.keeper.now in
    let q = now_of c.args.seat.now.number c.settle.new.self in
    unsaved_unrefused p q (Commits c.of.result.value (g.R.Repository.txn_state c.of-in-Ok.result.value)) (IsRefusedAt (content_of q) c.args.ask t None)
    c.in-Err-settle.fault c.in-Err-settle.ensures.point

pub returns-in-Err-clause-path : goal.returns-in-Err-clause-path
returns-in-Err-clause-path g c =
    let t = g.R.Repository.txn_state c.args.txn in
    let p = now_of c.args.seat.now.number c.args.keeper.now in
    unbegun_unrefused g.S.Files.kept c.args.keeper.now (IsRefusedAt (content_of p) c.args.ask t None) c.in-Err.fault c.in-Err.ensures.1

pub committed-requires : goal.committed-requires
committed-requires g c =
    let kept = g.S.Files.kept in
    let t = g.R.Repository.txn_state c.args.txn in
    let there : (kept c.args.keeper.now.archive).content ≡ content_of (now_of c.args.seat.now.number c.args.keeper.now) = c.readiness.ensures.0.agrees.content c.in-Ok.ensures.1.0 in
    subst (λ (a : g.row.S.Denot). MayCommit (kept a).content t) (sym c.archive.ensures.archive)
    (subst (λ (x : RepoState). MayCommit x t) (sym there) c.requires.may)

pub returns-in-Ok-settle-clause-stop : goal.returns-in-Ok-settle-clause-stop
returns-in-Ok-settle-clause-stop g c =
    let is : Commits c.of.result.value (g.R.Repository.txn_state c.of-in-Ok.result.value) ≡ Commits c.args.ask (g.R.Repository.txn_state c.args.txn) = λ i. Commits (c.of.ensures i) (g.R.Repository.txn_state (c.of-in-Ok.ensures i)) in
    subst (λ (x : Accepted). StopLeaves g.S.Files.kept g.S.Archive.leaves (x ∷ []) c.args.keeper.now c.settle.new.self) is c.in-Ok-settle.ensures.stop

pub returns-in-Err-settle-clause-stop : goal.returns-in-Err-settle-clause-stop
returns-in-Err-settle-clause-stop g c =
    let is : Commits c.of.result.value (g.R.Repository.txn_state c.of-in-Ok.result.value) ≡ Commits c.args.ask (g.R.Repository.txn_state c.args.txn) = λ i. Commits (c.of.ensures i) (g.R.Repository.txn_state (c.of-in-Ok.ensures i)) in
    subst (λ (x : Accepted). StopLeaves g.S.Files.kept g.S.Archive.leaves (x ∷ []) c.args.keeper.now c.settle.new.self) is c.in-Err-settle.ensures.stop

pub returns-in-Err-clause-stop : goal.returns-in-Err-clause-stop
returns-in-Err-clause-stop g c =
    still g.S.Files.kept g.S.Archive.leaves g.S.Archive.stands g.met.S.Archive.stays c.args.keeper.now c.readiness.ensures.0 (Commits c.args.ask (g.R.Repository.txn_state c.args.txn) ∷ [])

pub returns-in-Err-committed-clause-stop : goal.returns-in-Err-committed-clause-stop
returns-in-Err-committed-clause-stop g c =
    still g.S.Files.kept g.S.Archive.leaves g.S.Archive.stands g.met.S.Archive.stays c.args.keeper.now c.readiness.ensures.0 (Commits c.args.ask (g.R.Repository.txn_state c.args.txn) ∷ [])
