-- A call of a seat.
use Rattle.std.proofs.Common.{◌≡◌, List, true, false, true≢false, Err, inl, inr, refl, sym, ap, subst, ◌∙◌}
use Rattle.std.specs.Prelude.{Result}
use Rattle.repo_api.specs.{States.RepoState, declared.fault.ChangeFault.ChangeFault}
use Rattle.repo_api.specs.declared.fault.ChangeFault.TheVariants as faults
use Rattle.access.specs.Points.{Point}
use Rattle.published.specs.{Events.{Known, knowing, own_in, point_of}, Files.Kept, Moments.stays}
use Rattle.keepers.specs.Standing.{HappensAt, IsSteady, Meets, Standing, now_of}
use Rattle.seat_calls.specs.Calls.{Calls}

module _ {S : Type 0} (kept : S → Kept) (stands : S → List RepoState → Type 0) {R : Type 0} (change : Point → Result R ChangeFault → Point → Type 0) (seat : Known) (k : Standing S) where
  -- it is turned away
  pub turned_away : (point_of seat).halted ≡ true → change (point_of seat) (Err faults.Halted) (point_of seat) → IsSteady kept stands k → Calls kept stands change seat k (Err faults.Halted) seat k
  turned_away halted away steady = record {
    turned_away = λ h. (refl, refl, refl);
    made = λ h. absurd (true≢false (sym halted ∙ h));
    answers = record {
      happens = (point_of seat, stays (point_of seat), away);
      number = refl;
      own = λ h. absurd (true≢false (sym halted ∙ h));
    };
    steady = steady;
  }

  -- it is given up
  pub given_up : (seat' : Known) → seat' ≡ seat → (point_of seat).halted ≡ false → change (point_of seat) (Err faults.NoMemory) (point_of seat) → IsSteady kept stands k
      → Calls kept stands change seat k (Err faults.NoMemory) seat' k
  given_up seat' same goes away steady = record {
    turned_away = λ h. absurd (true≢false (sym h ∙ goes));
    made = λ h. inl (record { why = refl; seat_stays = same; keeper_stays = refl });
    answers = record {
      happens = (point_of seat, stays (point_of seat), subst (λ (s : Known). change (point_of seat) (Err faults.NoMemory) (point_of s)) (sym same) away);
      number = ap (λ (s : Known). s.number) same;
      own = λ h. inl same;
    };
    steady = steady;
  }

  -- it is made
  pub called : (met seat' : Known) (k' : Standing S) (result : Result R ChangeFault) → (point_of seat).halted ≡ false → Meets seat k met
      → HappensAt change met.number k result k' → seat' ≡ knowing met.number k'.list → IsSteady kept stands k'
      → Calls kept stands change seat k result seat' k'
  called met seat' k' result goes meets there told steady =
      let n : met.number ≡ seat.number = ap (λ (s : Known). s.number) meets.told in
      let happens = subst (λ m. HappensAt change m k result k') n there in
      let shown : seat' ≡ knowing seat.number k'.list = told ∙ ap (λ m. knowing m k'.list) n in
      record {
        turned_away = λ h. absurd (true≢false (sym h ∙ goes));
        made = λ h. inr (record { later = meets.later; begins = meets.begins; alone = meets.alone; happens = happens; shown = shown });
        answers = record {
          happens = (now_of seat.number k, meets.later, subst (λ (x : Known). change (now_of seat.number k) result (point_of x)) (sym shown) happens);
          number = ap (λ (x : Known). x.number) shown;
          own = λ h. inr (ap (λ (x : Known). x.own) shown ∙ ap (own_in seat.number) (sym (ap (λ (x : Known). x.list) shown)));
        };
        steady = steady;
      }
