use Rattle.keepers.proofs.Stopping.{still}
use Rattle.std.proofs.Common.{◌≡◌, [], ◌∷◌, Err, refl, ap, sym, subst}
use Rattle.access.specs.Points.{content_of}
use Rattle.published.specs.Moments.{added}
use Rattle.repo_api.specs.{Accepted.{Accepted, IsJudged, refusal_of}, Accepted.Accepted.Locks, Locking.lock_refusal}
use Rattle.archives.specs.Archives.{IsMade}
use Rattle.keepers.specs.Standing.{StopLeaves, now_of}
use Rattle.seat_calls.proofs.Changing.{quiet_right, next_by, settled_by, refused, not_begun}
use Rattle.seat_calls.proofs.changes.make_lock.Goals as goal

pub settle-requires-clause-next : goal.settle-requires-clause-next
settle-requires-clause-next g c =
    let kept = g.S.Files.kept in
    let made = subst (λ (a : g.row.S.Denot). IsMade (kept a).content (Locks c.args.ask) (g.R.Repository.content c.in-Ok-locked.made.0)) c.archive.ensures.archive c.in-Ok-locked.ensures.1.0 in
    next_by kept g.S.Archive.stands c.args.keeper.now c.args.seat.now.number c.readiness.ensures.0 c.in-Ok.ensures.1.0 (Locks c.args.ask) _ (g.R.Repository.content c.in-Ok-locked.made.0) made (ap (λ a. Locks a) c.of.ensures) (quiet_right _ (Locks c.args.ask) refl)

pub settle-requires-clause-writes : goal.settle-requires-clause-writes
settle-requires-clause-writes g c =
    subst (λ (x : Accepted). g.S.Archive.writes c.args.keeper.now.archive c.in-Ok-locked.made.1 x) (sym (ap (λ a. Locks a) c.of.ensures))
    (subst (λ (a : g.row.S.Denot). g.S.Archive.writes a c.in-Ok-locked.made.1 (Locks c.args.ask)) c.archive.ensures.archive c.in-Ok-locked.ensures.1.1)

pub returns-in-Ok-locked-clause-point : goal.returns-in-Ok-locked-clause-point
returns-in-Ok-locked-clause-point g c =
    let kept = g.S.Files.kept in
    let made = subst (λ (a : g.row.S.Denot). IsMade (kept a).content (Locks c.args.ask) (g.R.Repository.content c.in-Ok-locked.made.0)) c.archive.ensures.archive c.in-Ok-locked.ensures.1.0 in
    settled_by kept g.S.Archive.stands c.args.keeper.now c.args.seat.now.number c.readiness.ensures.0 c.in-Ok.ensures.1.0 (now_of c.args.seat.now.number c.settle.new.self) (Locks c.args.ask) _ (g.R.Repository.content c.in-Ok-locked.made.0) (lock_refusal (content_of (now_of c.args.seat.now.number c.args.keeper.now)) c.args.ask) c.settle.result made (ap (λ a. Locks a) c.of.ensures) (λ a. a) c.settle.ensures.point

pub returns-in-Err-clause-point : goal.returns-in-Err-clause-point
returns-in-Err-clause-point g c =
    let p = now_of c.args.seat.now.number c.args.keeper.now in
    not_begun g.S.Files.kept g.S.Archive.stands c.args.keeper.now c.args.seat.now.number c.readiness.ensures.0 {T = Unit {0}} (lock_refusal (content_of p) c.args.ask) (Locks c.args.ask) (λ (_ : Unit {0}) q. q ≡ added p (Locks c.args.ask)) c.in-Err.fault c.in-Err.ensures.1

pub returns-in-Err-locked-clause-point : goal.returns-in-Err-locked-clause-point
returns-in-Err-locked-clause-point g c =
    let kept = g.S.Files.kept in
    let p = now_of c.args.seat.now.number c.args.keeper.now in
    refused kept g.S.Archive.stands c.args.keeper.now c.args.seat.now.number c.readiness.ensures.0 c.in-Ok.ensures.1.0 (Unit {0}) {T = Unit {0}} (Locks c.args.ask) (λ (_ : Unit {0}) q. q ≡ added p (Locks c.args.ask)) c.in-Err-locked.fault
    (subst (λ (a : g.row.S.Denot). IsJudged {T = Unit {0}} (Err c.in-Err-locked.fault) (refusal_of (kept a).content (Locks c.args.ask))) c.archive.ensures.archive c.in-Err-locked.ensures.0)

pub returns-in-Ok-locked-clause-stop : goal.returns-in-Ok-locked-clause-stop
returns-in-Ok-locked-clause-stop g c =
    subst (λ (x : Accepted). StopLeaves g.S.Files.kept g.S.Archive.leaves (x ∷ []) c.args.keeper.now c.settle.new.self) (ap (λ a. Locks a) c.of.ensures) c.settle.ensures.stop

pub returns-in-Err-clause-stop : goal.returns-in-Err-clause-stop
returns-in-Err-clause-stop g c =
    still g.S.Files.kept g.S.Archive.leaves g.S.Archive.stands g.met.S.Archive.stays c.args.keeper.now c.readiness.ensures.0 (Locks c.args.ask ∷ [])

pub returns-in-Err-locked-clause-stop : goal.returns-in-Err-locked-clause-stop
returns-in-Err-locked-clause-stop g c =
    still g.S.Files.kept g.S.Archive.leaves g.S.Archive.stands g.met.S.Archive.stays c.args.keeper.now c.readiness.ensures.0 (Locks c.args.ask ∷ [])
