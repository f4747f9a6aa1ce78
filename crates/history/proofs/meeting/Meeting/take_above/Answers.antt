use Rattle.std.proofs.Common.{Some}
use Rattle.history.specs.{Logs.place_at, Meeting.IsTraceOf}
use Rattle.history.proofs.Together.{taken}
use Rattle.history.proofs.meeting.Meeting.take_above.Goals as goal

pub returns-clause-above : goal.returns-clause-above
returns-clause-above c =
    c.has_above.ensures c.if-not-has_above.false c.pop_last.new.self.entries c.in-Some.entry c.in-Some.ensures.removal

pub returns-clause-meeting : goal.returns-clause-meeting
returns-clause-meeting c = λ h place are. record {
  places = taken (λ at n. IsTraceOf h place n (Some (place_at at.0 at.1))) c.in-Some.entry.0 c.args.self.now.places.entries c.pop_last.new.self.entries
      c.in-Some.ensures.updates.0 are.places;
  met = are.met;
  found = are.found;
}

pub returns-clause-trace : goal.returns-clause-trace
returns-clause-trace c = λ h place are.
    are.places c.in-Some.entry.0 c.in-Some.entry.1 c.in-Some.ensures.value
