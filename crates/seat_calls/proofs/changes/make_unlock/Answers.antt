use Rattle.keepers.proofs.Stopping.{still}
use Rattle.std.proofs.Common.{◌≡◌, [], ◌∷◌, Err, refl, ap, sym, subst}
use Rattle.access.specs.Points.{content_of}
use Rattle.published.specs.Moments.{added}
use Rattle.repo_api.specs.{Accepted.{Accepted, IsJudged, refusal_of}, Accepted.Accepted.Unlocks, Locking.unlock_refusal}
use Rattle.archives.specs.Archives.{IsMade}
use Rattle.keepers.specs.Standing.{StopLeaves, now_of}
use Rattle.seat_calls.proofs.Changing.{quiet_right, next_by, settled_by, refused, not_begun}
use Rattle.seat_calls.proofs.changes.make_unlock.Goals as goal

pub settle-requires-clause-next : goal.settle-requires-clause-next
settle-requires-clause-next g c =
    let kept = g.S.Files.kept in
    let made = subst (λ (a : g.row.S.Denot). IsMade (kept a).content (Unlocks c.args.ask.now) (g.R.Repository.content c.in-Ok-unlocked.made.0)) c.archive.ensures.archive c.in-Ok-unlocked.ensures.1.0 in
    next_by kept g.S.Archive.stands c.args.keeper.now c.args.seat.now.number c.readiness.ensures.0 c.in-Ok.ensures.1.0 (Unlocks c.args.ask.now) _ (g.R.Repository.content c.in-Ok-unlocked.made.0) made (ap (λ a. Unlocks a) c.of.ensures) (quiet_right _ (Unlocks c.args.ask.now) refl)

pub settle-requires-clause-writes : goal.settle-requires-clause-writes
settle-requires-clause-writes g c =
    subst (λ (x : Accepted). g.S.Archive.writes c.args.keeper.now.archive c.in-Ok-unlocked.made.1 x) (sym (ap (λ a. Unlocks a) c.of.ensures))
    (subst (λ (a : g.row.S.Denot). g.S.Archive.writes a c.in-Ok-unlocked.made.1 (Unlocks c.args.ask.now)) c.archive.ensures.archive c.in-Ok-unlocked.ensures.1.1)

pub returns-in-Ok-unlocked-clause-point : goal.returns-in-Ok-unlocked-clause-point
returns-in-Ok-unlocked-clause-point g c =
    let kept = g.S.Files.kept in
    let made = subst (λ (a : g.row.S.Denot). IsMade (kept a).content (Unlocks c.args.ask.now) (g.R.Repository.content c.in-Ok-unlocked.made.0)) c.archive.ensures.archive c.in-Ok-unlocked.ensures.1.0 in
    settled_by kept g.S.Archive.stands c.args.keeper.now c.args.seat.now.number c.readiness.ensures.0 c.in-Ok.ensures.1.0 (now_of c.args.seat.now.number c.settle.new.self) (Unlocks c.args.ask.now) _ (g.R.Repository.content c.in-Ok-unlocked.made.0) (unlock_refusal (content_of (now_of c.args.seat.now.number c.args.keeper.now)) c.args.ask.now) c.settle.result made (ap (λ a. Unlocks a) c.of.ensures) (λ a. a) c.settle.ensures.point

pub returns-in-Err-clause-point : goal.returns-in-Err-clause-point
returns-in-Err-clause-point g c =
    let p = now_of c.args.seat.now.number c.args.keeper.now in
    not_begun g.S.Files.kept g.S.Archive.stands c.args.keeper.now c.args.seat.now.number c.readiness.ensures.0 {T = Unit {0}} (unlock_refusal (content_of p) c.args.ask.now) (Unlocks c.args.ask.now) (λ (_ : Unit {0}) q. q ≡ added p (Unlocks c.args.ask.now)) c.in-Err.fault c.in-Err.ensures.1

pub returns-in-Err-unlocked-clause-point : goal.returns-in-Err-unlocked-clause-point
returns-in-Err-unlocked-clause-point g c =
    let kept = g.S.Files.kept in
    let p = now_of c.args.seat.now.number c.args.keeper.now in
    refused kept g.S.Archive.stands c.args.keeper.now c.args.seat.now.number c.readiness.ensures.0 c.in-Ok.ensures.1.0 (Unit {0}) {T = Unit {0}} (Unlocks c.args.ask.now) (λ (_ : Unit {0}) q. q ≡ added p (Unlocks c.args.ask.now)) c.in-Err-unlocked.fault
    (subst (λ (a : g.row.S.Denot). IsJudged {T = Unit {0}} (Err c.in-Err-unlocked.fault) (refusal_of (kept a).content (Unlocks c.args.ask.now))) c.archive.ensures.archive c.in-Err-unlocked.ensures.0)

pub returns-in-Ok-unlocked-clause-stop : goal.returns-in-Ok-unlocked-clause-stop
returns-in-Ok-unlocked-clause-stop g c =
    subst (λ (x : Accepted). StopLeaves g.S.Files.kept g.S.Archive.leaves (x ∷ []) c.args.keeper.now c.settle.new.self) (ap (λ a. Unlocks a) c.of.ensures) c.settle.ensures.stop

pub returns-in-Err-clause-stop : goal.returns-in-Err-clause-stop
returns-in-Err-clause-stop g c =
    still g.S.Files.kept g.S.Archive.leaves g.S.Archive.stands g.met.S.Archive.stays c.args.keeper.now c.readiness.ensures.0 (Unlocks c.args.ask.now ∷ [])

pub returns-in-Err-unlocked-clause-stop : goal.returns-in-Err-unlocked-clause-stop
returns-in-Err-unlocked-clause-stop g c =
    still g.S.Files.kept g.S.Archive.leaves g.S.Archive.stands g.met.S.Archive.stays c.args.keeper.now c.readiness.ensures.0 (Unlocks c.args.ask.now ∷ [])
