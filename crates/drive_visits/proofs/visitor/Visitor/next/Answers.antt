use Rattle.std.proofs.Common.{◌∷◌, ◌∙◌, ap}
use Rattle.drive_visits.proofs.{Knowing.{holds_rest, left_again}, Leaving.{closed_next, entered_next, single_next}}
use Rattle.drive_visits.specs.Remembered.{Remembers}
use Rattle.drive_visits.proofs.visitor.Visitor.next.Goals as goal

pub returns-in-Nothing-clause-next : goal.returns-in-Nothing-clause-next
returns-in-Nothing-clause-next g c =
    closed_next (g.S.Sides.trees c.args.sides.now) c.in-Some.here c.pop_front.new.self.items c.args.self.now.open.items c.closed.result
    (Remembers (g.S.Sides.trees c.args.sides.now) c.args.self.now.memory) (Remembers (g.S.Sides.trees c.args.sides.now) c.next_found.new.memory)
    c.in-Some.ensures.items (λ so. ((c.in_ok-next_found.ensures.next so).0, (c.in_ok-next_found.ensures.next so).1.end c.in-Nothing.is)) c.closed.ensures.end

pub returns-in_ok-push_front-in-Single-clause-next : goal.returns-in_ok-push_front-in-Single-clause-next
returns-in_ok-push_front-in-Single-clause-next g c =
    single_next (g.S.Sides.trees c.args.sides.now) c.in-Some.here c.next_found.new.here c.pop_front.new.self.items c.args.self.now.open.items _ c.in_ok-next_found.field-0 c.in-Single.visit
    (Remembers (g.S.Sides.trees c.args.sides.now) c.args.self.now.memory) (Remembers (g.S.Sides.trees c.args.sides.now) c.next_found.new.memory)
    c.in-Some.ensures.items c.in_ok-push_front-in-Single.ensures.items c.in-Single.is c.in_ok-next_found.ensures.next

pub returns-in_ok-push_front-in-Entered-2-clause-next : goal.returns-in_ok-push_front-in-Entered-2-clause-next
returns-in_ok-push_front-in-Entered-2-clause-next g c =
    entered_next (g.S.Sides.trees c.args.sides.now) c.in-Some.here c.next_found.new.here c.in-Entered.below c.pop_front.new.self.items c.args.self.now.open.items _ c.in_ok-next_found.field-0 c.in-Entered.visit
    (Remembers (g.S.Sides.trees c.args.sides.now) c.args.self.now.memory) (Remembers (g.S.Sides.trees c.args.sides.now) c.next_found.new.memory)
    c.in-Some.ensures.items (c.in_ok-push_front-in-Entered-2.ensures.items ∙ ap (λ ds. c.in-Entered.below ∷ ds) c.in_ok-push_front-in-Entered.ensures.items)
    c.in-Entered.is c.in_ok-next_found.ensures.next

pub returns-in-Nothing-clause-known : goal.returns-in-Nothing-clause-known
returns-in-Nothing-clause-known g c = record { left = holds_rest (g.S.Sides.knows c.args.sides.now) c.args.self.now c.in-Some.here c.pop_front.new.self.items c.in-Some.ensures.items c.requires; memory = c.in_ok-next_found.ensures.held }

pub returns-in_ok-push_front-in-Single-clause-known : goal.returns-in_ok-push_front-in-Single-clause-known
returns-in_ok-push_front-in-Single-clause-known g c = record {
  left = left_again (g.S.Sides.knows c.args.sides.now) c.pop_front.new.self.items c.push_front.new.self.items c.next_found.new.here c.in_ok-push_front-in-Single.ensures.items c.in_ok-next_found.ensures.left
      (holds_rest (g.S.Sides.knows c.args.sides.now) c.args.self.now c.in-Some.here c.pop_front.new.self.items c.in-Some.ensures.items c.requires);
  memory = c.in_ok-next_found.ensures.held;
}

pub returns-in_ok-push_front-in-Entered-2-clause-known : goal.returns-in_ok-push_front-in-Entered-2-clause-known
returns-in_ok-push_front-in-Entered-2-clause-known g c = record {
  left = left_again (g.S.Sides.knows c.args.sides.now) c.push_front-in-Entered.new.self.items c.push_front-in-Entered-2.new.self.items c.in-Entered.below c.in_ok-push_front-in-Entered-2.ensures.items (rw c.in-Entered.is at c.in_ok-next_found.ensures.known).1
      (left_again (g.S.Sides.knows c.args.sides.now) c.pop_front.new.self.items c.push_front-in-Entered.new.self.items c.next_found.new.here c.in_ok-push_front-in-Entered.ensures.items c.in_ok-next_found.ensures.left
      (holds_rest (g.S.Sides.knows c.args.sides.now) c.args.self.now c.in-Some.here c.pop_front.new.self.items c.in-Some.ensures.items c.requires));
  memory = c.in_ok-next_found.ensures.held;
}
