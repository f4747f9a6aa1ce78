use Rattle.std.proofs.Common.{[], ◌∷◌, inl, refl, sym, ◌∙◌}
use Rattle.access.specs.Changing.{ChangesPropertyAt}
use Rattle.published.specs.Moments.{shared_rules}
use Rattle.repo_api.specs.Accepted.Accepted.{ChangesProperty}
use Rattle.keepers.proofs.Stopping.{still}
use Rattle.seat_calls.proofs.Calling.{called, given_up, turned_away}
use Rattle.seat_calls.proofs.calls.set_rev_prop.Goals as goal

pub returns-clause-calls : goal.returns-clause-calls
returns-clause-calls g c =
    let a = c.make_property-answer in
    called g.S.Files.kept g.S.Archive.stands (ChangesPropertyAt shared_rules c.args.ask) c.args.seat.now c.args.keeper.now c.meet.new.seat a.new.seat a.new.keeper a.result
    (sym c.turns_away.ensures.0 ∙ c.if-turns_away.false) c.if-not-meet.ensures.meets a.ensures.point a.ensures.told c.archive-archive.ensures.steady

pub returns-then-turns_away-clause-calls : goal.returns-then-turns_away-clause-calls
returns-then-turns_away-clause-calls g c =
    let halted = sym c.turns_away.ensures.0 ∙ c.if-turns_away.true in
    turned_away g.S.Files.kept g.S.Archive.stands (ChangesPropertyAt shared_rules c.args.ask) c.args.seat.now c.args.keeper.now halted (inl (halted, refl)) c.turns_away.ensures.1

pub returns-then-turns_away-clause-stop : goal.returns-then-turns_away-clause-stop
returns-then-turns_away-clause-stop g c =
    still g.S.Files.kept g.S.Archive.leaves g.S.Archive.stands g.met.S.Archive.stays c.args.keeper.now c.turns_away.ensures.1 (ChangesProperty c.args.ask ∷ [])

pub returns-then-not-meet-clause-calls : goal.returns-then-not-meet-clause-calls
returns-then-not-meet-clause-calls g c =
    given_up g.S.Files.kept g.S.Archive.stands (ChangesPropertyAt shared_rules c.args.ask) c.args.seat.now c.args.keeper.now c.meet.new.seat c.if-not-meet.ensures.meets
    (sym c.turns_away.ensures.0 ∙ c.if-turns_away.false) refl c.turns_away.ensures.1

pub returns-then-not-meet-clause-stop : goal.returns-then-not-meet-clause-stop
returns-then-not-meet-clause-stop g c =
    still g.S.Files.kept g.S.Archive.leaves g.S.Archive.stands g.met.S.Archive.stays c.args.keeper.now c.turns_away.ensures.1 (ChangesProperty c.args.ask ∷ [])
