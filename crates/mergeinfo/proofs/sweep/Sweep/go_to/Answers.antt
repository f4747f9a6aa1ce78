use Rattle.std.proofs.Common.{◌≡◌, ◌≤◌, ◌^◌, min, refl, sym, ap, ◌∙◌, subst}
use Rattle.mergeinfo.specs.Sweeps.{IsOpenFrom}
use Rattle.mergeinfo.proofs.Sweeping.{both_written, open_on}
use Rattle.mergeinfo.proofs.sweep.Sweep.go_to.Goals as goal

pub returns : goal.returns
returns c = λ ranges up s.
    let old = c.args.self.now in
    let last = c.write-2.new.self in
    let place = c.args.place in
    let one : last.inheritable_end ≡ old.inheritable_end = c.in_ok-write-2.ensures.inheritable_end ∙ c.in_ok-write.ensures.inheritable_end in
    let other : last.other_end ≡ old.other_end = c.in_ok-write-2.ensures.other_end ∙ c.in_ok-write.ensures.other_end in
    record {
      at_place = refl;
      place_within = c.requires;
      is_written =
          both_written old.place place old.inheritable_end old.other_end c.min.result c.min-2.result _ _ ranges _ _ _
          c.min.ensures (c.min-2.ensures ∙ ap (λ n. min n place) c.in_ok-write.ensures.other_end)
          c.in_ok-write.ensures.place c.in_ok-write-2.ensures.place c.in_ok-write.ensures.written c.in_ok-write-2.ensures.written
          up s.is_open s.is_written;
      is_open =
          subst (λ n. IsOpenFrom place n last.other_end ranges) (sym one)
          (subst (λ n. IsOpenFrom place old.inheritable_end n ranges) (sym other) (open_on old.place place old.inheritable_end old.other_end ranges up s.is_open));
      inheritable_within = subst (λ n. n ≤ 2 ^ 32) (sym one) s.inheritable_within;
      other_within = subst (λ n. n ≤ 2 ^ 32) (sym other) s.other_within;
    }
