use Rattle.std.proofs.Common.{refl, sym, subst}
use Rattle.drive_visits.proofs.{Knowing.held_more, Remembering.silent_noted}
use Rattle.drive_visits.proofs.memory.Memory.note_silent.Goals as goal
use Rattle.drive_visits.specs.Left.{IsSilent}

pub returns-clause-kept : goal.returns-clause-kept
returns-clause-kept g c = λ t silent so.
    silent_noted t c.make_room.new.self (record { silent = c.push.new.self; news = c.make_room.new.self.news }) (record { key = c.args.key; place = c.in_ok-place.place }) c.in_ok-push.ensures.items refl
    (subst (IsSilent t) (sym c.in_ok-place.ensures.0) silent) (c.make_room.ensures.kept t so)

pub returns-clause-held : goal.returns-clause-held
returns-clause-held g c =
    held_more (g.S.Sides.knows c.args.sides.now) c.args.self.now c.make_room.new.self (record { silent = c.push.new.self; news = c.make_room.new.self.news }) (record { key = c.args.key; place = c.in_ok-place.place })
    c.make_room.ensures.held c.in_ok-push.ensures.items c.in_ok-place.ensures.1 c.requires.held
