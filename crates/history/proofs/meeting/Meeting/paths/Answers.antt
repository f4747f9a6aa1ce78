use Rattle.std.proofs.{Common.{◌≡◌, ◌++◌, ◌∷◌, [], sym, ◌∙◌}, lemmas.List.Elements.All-same}
use Rattle.history.specs.Locations.{location_on}
use Rattle.history.proofs.{Along.known_more, Together.all_parts}
use Rattle.history.proofs.meeting.Meeting.paths.Goals as goal

pub loop-pair-preserved : goal.loop-pair-preserved
loop-pair-preserved c = record {
  met = λ h place are.
      (all_parts (λ pair. location_on h place pair.0 ≡ location_on h place pair.1) c.pop.new.self.items c.in-Some.pair
      (All-same (λ pair. location_on h place pair.0 ≡ location_on h place pair.1) (c.pop.new.self.items ++ c.in-Some.pair ∷ []) c.loop-pair.left.items (sym c.in-Some.ensures.items) (c.loop-pair.invariant.met h place are))).0;
  found = c.loop-pair.invariant.found;
}

pub loop-pair-preserved-in-Continue-branch-2 : goal.loop-pair-preserved-in-Continue-branch-2
loop-pair-preserved-in-Continue-branch-2 c = record {
  met = λ h place are.
      (all_parts (λ pair. location_on h place pair.0 ≡ location_on h place pair.1) c.pop.new.self.items c.in-Some.pair
      (All-same (λ pair. location_on h place pair.0 ≡ location_on h place pair.1) (c.pop.new.self.items ++ c.in-Some.pair ∷ []) c.loop-pair.left.items (sym c.in-Some.ensures.items) (c.loop-pair.invariant.met h place are))).0;
  found = λ h place are.
      known_more (λ n o. o ≡ location_on h place n) c.loop-pair.paths.entries c.note.new.found.entries c.in-Some.pair.0 c.in_ok-path.path c.in_ok-note.ensures
      (c.in_ok-path.ensures
      ∙ c.loop-pair.invariant.found h place are c.in-Some.pair.1 c.in-Some-get.path.now (sym c.in-Some-get.ensures.value)
      ∙ sym (all_parts (λ pair. location_on h place pair.0 ≡ location_on h place pair.1) c.pop.new.self.items c.in-Some.pair
      (All-same (λ pair. location_on h place pair.0 ≡ location_on h place pair.1) (c.pop.new.self.items ++ c.in-Some.pair ∷ []) c.loop-pair.left.items (sym c.in-Some.ensures.items) (c.loop-pair.invariant.met h place are))).1)
      (c.loop-pair.invariant.found h place are);
}
