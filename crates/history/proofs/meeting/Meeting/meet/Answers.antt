use Rattle.std.proofs.{Common.{◌≡◌, ◌∷◌, ◌++◌, [], Some, sym, ◌∙◌, subst}, lemmas.List.Elements.{All-push, All-same}}
use Rattle.history.specs.{Locations.location_on, Logs.place_at, Meeting.IsTraceOf}
use Rattle.history.proofs.Together.{placed, same_where_met}
use Rattle.history.proofs.meeting.Meeting.meet.Goals as goal

pub returns-in_ok-push : goal.returns-in_ok-push
returns-in_ok-push c = λ h place are trace. record {
  places = placed (λ at n. IsTraceOf h place n (Some (place_at at.0 at.1))) (c.in-Some.field-0.revision, c.in-Some.field-0.path) c.args.begun c.args.self.now.places.entries c.insert.new.self.entries
      c.in_ok-other.ensures.updates.0 (subst (IsTraceOf h place c.args.begun) c.in-Some.is trace) are.places;
  met =
      All-same (λ pair. location_on h place pair.0 ≡ location_on h place pair.1) c.push.new.self.items (c.args.self.now.met.items ++ (c.in-Some-2.other, c.args.begun) ∷ []) c.in_ok-push.ensures.items
      (All-push (λ pair. location_on h place pair.0 ≡ location_on h place pair.1) c.args.self.now.met.items (c.in-Some-2.other, c.args.begun) are.met
      (same_where_met h place c.in-Some-2.other c.args.begun (Some (place_at c.in-Some.field-0.revision c.in-Some.field-0.path))
      (are.places (c.in-Some.field-0.revision, c.in-Some.field-0.path) c.in-Some-2.other (sym c.in_ok-other.ensures.old ∙ c.in-Some-2.is))
      (subst (IsTraceOf h place c.args.begun) c.in-Some.is trace)));
  found = are.found;
}

pub returns-in_default-2 : goal.returns-in_default-2
returns-in_default-2 c = λ h place are trace. record {
  places = placed (λ at n. IsTraceOf h place n (Some (place_at at.0 at.1))) (c.in-Some.field-0.revision, c.in-Some.field-0.path) c.args.begun c.args.self.now.places.entries c.insert.new.self.entries
      c.in_ok-other.ensures.updates.0 (subst (IsTraceOf h place c.args.begun) c.in-Some.is trace) are.places;
  met = are.met;
  found = are.found;
}
