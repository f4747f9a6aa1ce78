use Rattle.std.proofs.Common.{ap, sym, subst, ◌∙◌}
use Rattle.mergeinfo.specs.{Sources.SourceValue, Sweeps.IsInOrderOf}
use Rattle.mergeinfo.proofs.Gathering.{IsNormalTo, as_sources, start_normal, normal_more, normal_without, all_normal, left_as_sources, none_left, some_ranges}
use Rattle.mergeinfo.proofs.Gathering.{no_ranges}
use Rattle.mergeinfo.proofs.info.MergeInfo.from_gathered.Goals as goal

pub loop-path-init : goal.loop-path-init
loop-path-init c =
    let gives = c.into_iter-path-iterator.ensures.into_iter_gives in
    record {
      sorted = gives.5;
      normal = subst (λ xs. IsNormalTo (as_sources c.args.gathered.entries) xs (as_sources c.into_iter-path-iterator.result)) (sym c.new-sources.ensures.items) (start_normal c.args.gathered.entries c.into_iter-path-iterator.result gives.0 gives.5);
    }

pub loop-path-preserved-then-not-is_empty : goal.loop-path-preserved-then-not-is_empty
loop-path-preserved-then-not-is_empty c =
    let turn = left_as_sources c.loop-path.path-iterator c.next.new.self c.next.result (c.in-Some.path, c.in-Some.ranges) c.in-Some.is c.next.ensures.steps in
    let order = subst (λ xs. IsInOrderOf xs c.in_ok-ranges.ranges.items) c.as_slice.ensures.value c.in_ok-ranges.ensures in
    record {
      sorted = c.loop-path.invariant.sorted;
      normal =
          normal_more _ _ _ _ _ _ c.new.result turn c.in_ok-push.ensures.items (ap (λ (s : SourceValue). s.path) c.new.ensures)
          (subst (λ ws. IsInOrderOf c.in-Some.ranges.items ws) (sym (ap (λ (s : SourceValue). s.ranges) c.new.ensures)) order)
          (some_ranges c.is_empty.result c.as_slice-in-loop-path.result.now c.new.result.ranges (c.as_slice-in-loop-path.ensures.value ∙ sym (ap (λ (s : SourceValue). s.ranges) c.new.ensures)) c.is_empty.ensures c.if-not-is_empty.true)
          c.loop-path.invariant.normal;
    }

pub loop-path-preserved : goal.loop-path-preserved
loop-path-preserved c =
    let turn = left_as_sources c.loop-path.path-iterator c.next.new.self c.next.result (c.in-Some.path, c.in-Some.ranges) c.in-Some.is c.next.ensures.steps in
    let order = subst (λ xs. IsInOrderOf xs c.in_ok-ranges.ranges.items) c.as_slice.ensures.value c.in_ok-ranges.ensures in
    record {
      sorted = c.loop-path.invariant.sorted;
      normal =
          normal_without _ _ _ _ _ _ turn order
          (no_ranges c.is_empty.result _ _ c.as_slice-in-loop-path.ensures.value c.is_empty.ensures c.if-not-is_empty.false)
          c.loop-path.invariant.normal;
    }

pub returns : goal.returns
returns c = λ sources gathered.
    all_normal sources c.loop-path.sources.items c.args.gathered.entries c.loop-path.path-iterator
    (none_left c.loop-path.path-iterator c.next.new.self c.next.result c.in-None.is c.next.ensures.steps) c.loop-path.invariant.sorted gathered c.loop-path.invariant.normal
