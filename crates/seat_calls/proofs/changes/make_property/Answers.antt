use Rattle.keepers.proofs.Stopping.{still}
use Rattle.std.proofs.Common.{◌≡◌, [], ◌∷◌, Err, refl, sym, subst}
use Rattle.access.specs.Points.{content_of}
use Rattle.published.specs.Moments.{added}
use Rattle.repo_api.specs.{Accepted.{Accepted, IsJudged, refusal_of}, Accepted.Accepted.ChangesProperty, RevisionProperties.property_refusal}
use Rattle.archives.specs.Archives.{IsMade}
use Rattle.keepers.specs.Standing.{StopLeaves, now_of}
use Rattle.seat_calls.proofs.Changing.{quiet_right, next_by, settled_by, refused, not_begun}
use Rattle.seat_calls.proofs.changes.make_property.Goals as goal

pub settle-requires-clause-next : goal.settle-requires-clause-next
settle-requires-clause-next g c =
    let kept = g.S.Files.kept in
    let made = subst (λ (a : g.row.S.Denot). IsMade (kept a).content (ChangesProperty c.args.ask) (g.R.Repository.content c.in-Ok-property_changed.made.0)) c.archive.ensures.archive c.in-Ok-property_changed.ensures.1.0 in
    next_by kept g.S.Archive.stands c.args.keeper.now c.args.seat.now.number c.readiness.ensures.0 c.in-Ok.ensures.1.0 (ChangesProperty c.args.ask) _ (g.R.Repository.content c.in-Ok-property_changed.made.0) made (λ i. ChangesProperty (c.of.ensures i)) (quiet_right _ (ChangesProperty c.args.ask) refl)

pub settle-requires-clause-writes : goal.settle-requires-clause-writes
settle-requires-clause-writes g c =
    subst (λ (x : Accepted). g.S.Archive.writes c.args.keeper.now.archive c.in-Ok-property_changed.made.1 x) (sym (λ i. ChangesProperty (c.of.ensures i)))
    (subst (λ (a : g.row.S.Denot). g.S.Archive.writes a c.in-Ok-property_changed.made.1 (ChangesProperty c.args.ask)) c.archive.ensures.archive c.in-Ok-property_changed.ensures.1.1)

pub returns-in-Ok-property_changed-clause-point : goal.returns-in-Ok-property_changed-clause-point
returns-in-Ok-property_changed-clause-point g c =
    let kept = g.S.Files.kept in
    let made = subst (λ (a : g.row.S.Denot). IsMade (kept a).content (ChangesProperty c.args.ask) (g.R.Repository.content c.in-Ok-property_changed.made.0)) c.archive.ensures.archive c.in-Ok-property_changed.ensures.1.0 in
    settled_by kept g.S.Archive.stands c.args.keeper.now c.args.seat.now.number c.readiness.ensures.0 c.in-Ok.ensures.1.0 (now_of c.args.seat.now.number c.settle.new.self) (ChangesProperty c.args.ask) _ (g.R.Repository.content c.in-Ok-property_changed.made.0) (property_refusal (content_of (now_of c.args.seat.now.number c.args.keeper.now)) c.args.ask) c.settle.result made (λ i. ChangesProperty (c.of.ensures i)) (λ a. a) c.settle.ensures.point

pub returns-in-Err-clause-point : goal.returns-in-Err-clause-point
returns-in-Err-clause-point g c =
    let p = now_of c.args.seat.now.number c.args.keeper.now in
    not_begun g.S.Files.kept g.S.Archive.stands c.args.keeper.now c.args.seat.now.number c.readiness.ensures.0 {T = Unit {0}} (property_refusal (content_of p) c.args.ask) (ChangesProperty c.args.ask) (λ (_ : Unit {0}) q. q ≡ added p (ChangesProperty c.args.ask)) c.in-Err.fault c.in-Err.ensures.1

pub returns-in-Err-property_changed-clause-point : goal.returns-in-Err-property_changed-clause-point
returns-in-Err-property_changed-clause-point g c =
    let kept = g.S.Files.kept in
    let p = now_of c.args.seat.now.number c.args.keeper.now in
    refused kept g.S.Archive.stands c.args.keeper.now c.args.seat.now.number c.readiness.ensures.0 c.in-Ok.ensures.1.0 (Unit {0}) {T = Unit {0}} (ChangesProperty c.args.ask) (λ (_ : Unit {0}) q. q ≡ added p (ChangesProperty c.args.ask)) c.in-Err-property_changed.fault
    (subst (λ (a : g.row.S.Denot). IsJudged {T = Unit {0}} (Err c.in-Err-property_changed.fault) (refusal_of (kept a).content (ChangesProperty c.args.ask))) c.archive.ensures.archive c.in-Err-property_changed.ensures.0)

pub returns-in-Ok-property_changed-clause-stop : goal.returns-in-Ok-property_changed-clause-stop
returns-in-Ok-property_changed-clause-stop g c =
    subst (λ (x : Accepted). StopLeaves g.S.Files.kept g.S.Archive.leaves (x ∷ []) c.args.keeper.now c.settle.new.self) (λ i. ChangesProperty (c.of.ensures i)) c.settle.ensures.stop

pub returns-in-Err-clause-stop : goal.returns-in-Err-clause-stop
returns-in-Err-clause-stop g c =
    still g.S.Files.kept g.S.Archive.leaves g.S.Archive.stands g.met.S.Archive.stays c.args.keeper.now c.readiness.ensures.0 (ChangesProperty c.args.ask ∷ [])

pub returns-in-Err-property_changed-clause-stop : goal.returns-in-Err-property_changed-clause-stop
returns-in-Err-property_changed-clause-stop g c =
    still g.S.Files.kept g.S.Archive.leaves g.S.Archive.stands g.met.S.Archive.stays c.args.keeper.now c.readiness.ensures.0 (ChangesProperty c.args.ask ∷ [])
