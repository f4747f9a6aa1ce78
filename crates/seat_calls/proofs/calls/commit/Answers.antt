use Rattle.std.proofs.Common.{[], ◌∷◌, inl, refl, sym, subst, ◌∙◌}
use Rattle.access.specs.{Changing.CommitsAt, Points.content_of, Refused.{HasPath, without_path}}
use Rattle.published.specs.{Events.{Known, point_of}, Moments.{begins_through, keeps, shared_rules}}
use Rattle.repo_api.specs.{Accepted.Accepted.{Commits, Releases}, Commits.IsRefusedAt}
use Rattle.keepers.proofs.Stopping.{still}
use Rattle.seat_calls.proofs.Calling.{called, given_up, turned_away}
use Rattle.seat_calls.proofs.calls.commit.Goals as goal

pub make_commit-answer-requires-clause-may : goal.make_commit-answer-requires-clause-may
make_commit-answer-requires-clause-may g c = (begins_through _ _ _ c.requires.0 (keeps _ _ c.if-not-meet.ensures.meets.later), c.requires.1, c.requires.2)

pub returns-clause-calls : goal.returns-clause-calls
returns-clause-calls g c =
    let a = c.make_commit-answer in
    called g.S.Files.kept g.S.Archive.stands (CommitsAt shared_rules c.args.ask (g.R.Repository.txn_state c.args.txn)) c.args.seat.now c.args.keeper.now c.meet.new.seat a.new.seat a.new.keeper (without_path a.result)
    (sym c.turns_away.ensures.0 ∙ c.if-turns_away.false) c.if-not-meet.ensures.meets a.ensures.point a.ensures.told c.archive-archive.ensures.steady

pub returns-clause-path : goal.returns-clause-path
returns-clause-path g c =
    let a = c.make_commit-answer in
    subst (λ (s : Known). HasPath a.result (IsRefusedAt (content_of (point_of s)) c.args.ask (g.R.Repository.txn_state c.args.txn))) (sym a.ensures.told) a.ensures.path

pub returns-then-turns_away-clause-calls : goal.returns-then-turns_away-clause-calls
returns-then-turns_away-clause-calls g c =
    let halted = sym c.turns_away.ensures.0 ∙ c.if-turns_away.true in
    turned_away g.S.Files.kept g.S.Archive.stands (CommitsAt shared_rules c.args.ask (g.R.Repository.txn_state c.args.txn)) c.args.seat.now c.args.keeper.now halted (inl (halted, refl)) c.turns_away.ensures.1

pub returns-then-turns_away-clause-stop : goal.returns-then-turns_away-clause-stop
returns-then-turns_away-clause-stop g c =
    still g.S.Files.kept g.S.Archive.leaves g.S.Archive.stands g.met.S.Archive.stays c.args.keeper.now c.turns_away.ensures.1 (Commits c.args.ask (g.R.Repository.txn_state c.args.txn) ∷ Releases c.args.ask.author c.args.ask.tokens ∷ [])

pub returns-then-not-meet-clause-calls : goal.returns-then-not-meet-clause-calls
returns-then-not-meet-clause-calls g c =
    given_up g.S.Files.kept g.S.Archive.stands (CommitsAt shared_rules c.args.ask (g.R.Repository.txn_state c.args.txn)) c.args.seat.now c.args.keeper.now c.meet.new.seat c.if-not-meet.ensures.meets
    (sym c.turns_away.ensures.0 ∙ c.if-turns_away.false) refl c.turns_away.ensures.1

pub returns-then-not-meet-clause-stop : goal.returns-then-not-meet-clause-stop
returns-then-not-meet-clause-stop g c =
    still g.S.Files.kept g.S.Archive.leaves g.S.Archive.stands g.met.S.Archive.stays c.args.keeper.now c.turns_away.ensures.1 (Commits c.args.ask (g.R.Repository.txn_state c.args.txn) ∷ Releases c.args.ask.author c.args.ask.tokens ∷ [])
