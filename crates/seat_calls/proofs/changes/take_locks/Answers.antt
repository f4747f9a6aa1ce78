use Rattle.keepers.proofs.Stopping.{still}
use Rattle.std.proofs.Common.{◌≡◌, [], ◌∷◌, true, None, Err, refl, ap, sym, subst}
use Rattle.access.specs.Points.{content_of}
use Rattle.published.specs.Moments.{added}
use Rattle.repo_api.specs.{Accepted.{Accepted, IsJudged, refusal_of}, Accepted.Accepted.Releases, Locking.releases, States.RepoState}
use Rattle.archives.specs.Archives.{IsMade}
use Rattle.keepers.specs.Standing.{StopLeaves, now_of}
use Rattle.seat_calls.proofs.Changing.{quiet_right, next_by, settled_by, refused, not_begun}
use Rattle.seat_calls.proofs.changes.take_locks.Goals as goal

pub settle-requires-clause-next : goal.settle-requires-clause-next
settle-requires-clause-next g c =
    let kept = g.S.Files.kept in
    let made = subst (λ (a : g.row.S.Denot). IsMade (kept a).content (Releases c.args.handed.now.user c.args.handed.now.tokens) (g.R.Repository.content c.in-Ok-released.made.0)) c.archive.ensures.archive c.in-Ok-released.ensures.1.0 in
    next_by kept g.S.Archive.stands c.args.keeper.now c.args.seat.now.number c.readiness.ensures.0 c.in-Ok.ensures.1.0 (Releases c.args.handed.now.user c.args.handed.now.tokens) _ (g.R.Repository.content c.in-Ok-released.made.0) made (ap (λ h. Releases h.user h.tokens) c.of.ensures) (quiet_right _ (Releases c.args.handed.now.user c.args.handed.now.tokens) refl)

pub settle-requires-clause-writes : goal.settle-requires-clause-writes
settle-requires-clause-writes g c =
    subst (λ (x : Accepted). g.S.Archive.writes c.args.keeper.now.archive c.in-Ok-released.made.1 x) (sym (ap (λ h. Releases h.user h.tokens) c.of.ensures))
    (subst (λ (a : g.row.S.Denot). g.S.Archive.writes a c.in-Ok-released.made.1 (Releases c.args.handed.now.user c.args.handed.now.tokens)) c.archive.ensures.archive c.in-Ok-released.ensures.1.1)

pub returns-in-Ok-released-clause-point : goal.returns-in-Ok-released-clause-point
returns-in-Ok-released-clause-point g c =
    let kept = g.S.Files.kept in
    let made = subst (λ (a : g.row.S.Denot). IsMade (kept a).content (Releases c.args.handed.now.user c.args.handed.now.tokens) (g.R.Repository.content c.in-Ok-released.made.0)) c.archive.ensures.archive c.in-Ok-released.ensures.1.0 in
    settled_by kept g.S.Archive.stands c.args.keeper.now c.args.seat.now.number c.readiness.ensures.0 c.in-Ok.ensures.1.0 (now_of c.args.seat.now.number c.settle.new.self) (Releases c.args.handed.now.user c.args.handed.now.tokens) _ (g.R.Repository.content c.in-Ok-released.made.0) (None) c.settle.result made (ap (λ h. Releases h.user h.tokens) c.of.ensures) (λ a. refl) c.settle.ensures.point

pub returns-in-Err-clause-point : goal.returns-in-Err-clause-point
returns-in-Err-clause-point g c =
    let p = now_of c.args.seat.now.number c.args.keeper.now in
    not_begun g.S.Files.kept g.S.Archive.stands c.args.keeper.now c.args.seat.now.number c.readiness.ensures.0 {T = Unit {0}} (None) (Releases c.args.handed.now.user c.args.handed.now.tokens) (λ (_ : Unit {0}) q. q ≡ added p (Releases c.args.handed.now.user c.args.handed.now.tokens)) c.in-Err.fault c.in-Err.ensures.1

pub returns-in-Err-released-clause-point : goal.returns-in-Err-released-clause-point
returns-in-Err-released-clause-point g c =
    let kept = g.S.Files.kept in
    let p = now_of c.args.seat.now.number c.args.keeper.now in
    refused kept g.S.Archive.stands c.args.keeper.now c.args.seat.now.number c.readiness.ensures.0 c.in-Ok.ensures.1.0 (Unit {0}) {T = Unit {0}} (Releases c.args.handed.now.user c.args.handed.now.tokens) (λ (_ : Unit {0}) q. q ≡ added p (Releases c.args.handed.now.user c.args.handed.now.tokens)) c.in-Err-released.fault
    (subst (λ (a : g.row.S.Denot). IsJudged {T = Unit {0}} (Err c.in-Err-released.fault) (refusal_of (kept a).content (Releases c.args.handed.now.user c.args.handed.now.tokens))) c.archive.ensures.archive c.in-Err-released.ensures.0)

pub released-requires : goal.released-requires
released-requires g c =
    let kept = g.S.Files.kept in
    let h = c.args.handed.now in
    let there : (kept c.args.keeper.now.archive).content ≡ content_of (now_of c.args.seat.now.number c.args.keeper.now) = c.readiness.ensures.0.agrees.content c.in-Ok.ensures.1.0 in
    subst (λ (a : g.row.S.Denot). releases h.user h.tokens (kept a).content.locks ≡ true) (sym c.archive.ensures.archive)
    (subst (λ (x : RepoState). releases h.user h.tokens x.locks ≡ true) (sym there) c.requires.wanted)

pub returns-in-Ok-released-clause-stop : goal.returns-in-Ok-released-clause-stop
returns-in-Ok-released-clause-stop g c =
    subst (λ (x : Accepted). StopLeaves g.S.Files.kept g.S.Archive.leaves (x ∷ []) c.args.keeper.now c.settle.new.self) (ap (λ h. Releases h.user h.tokens) c.of.ensures) c.settle.ensures.stop

pub returns-in-Err-clause-stop : goal.returns-in-Err-clause-stop
returns-in-Err-clause-stop g c =
    still g.S.Files.kept g.S.Archive.leaves g.S.Archive.stands g.met.S.Archive.stays c.args.keeper.now c.readiness.ensures.0 (Releases c.args.handed.now.user c.args.handed.now.tokens ∷ [])

pub returns-in-Err-released-clause-stop : goal.returns-in-Err-released-clause-stop
returns-in-Err-released-clause-stop g c =
    still g.S.Files.kept g.S.Archive.leaves g.S.Archive.stands g.met.S.Archive.stays c.args.keeper.now c.readiness.ensures.0 (Releases c.args.handed.now.user c.args.handed.now.tokens ∷ [])
