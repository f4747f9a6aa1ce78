use Rattle.std.specs.{Map.Iter.deref_pair, List.filter}
use Rattle.std.proofs.Common.{◌≡◌, ◌++◌, map, sym, ap, subst, ◌∙◌}
use Rattle.svnpath.specs.Paths.{is_at_or_under}
use Rattle.pathlocks.proofs.Runs.{Ends, from, ends_from, under_from, kept, ended, ends_rest}
use Rattle.pathlocks.proofs.finding.append_under.Goals as goal

pub loop-key-init : goal.loop-key-init
loop-key-init c =
    let gives = c.into_iter-key-iterator.ensures.into_iter_gives in
    let between = c.range-key-items.ensures.between tt in
    let is : c.into_iter-key-iterator.result ≡ filter (λ e. from c.args.path.now e.0) c.args.locks.now.entries = cc in (
      ap (λ xs. map deref_pair c.args.found.now.items ++ filter (λ e. is_at_or_under e.0 c.args.path.now) xs) is
          ∙ ap (λ xs. map deref_pair c.args.found.now.items ++ xs) (under_from c.args.path.now c.args.locks.now.entries),
      subst (Ends c.args.path.now) (sym is) (ends_from c.args.path.now c.args.locks.now.entries c.range-key-items.ensures.ordered),
    )

pub loop-key-preserved : goal.loop-key-preserved
loop-key-preserved c =
    let under = sym c.if-not-is_at_or_under.ensures.value in (
      ap (λ ys. map deref_pair ys ++ filter (λ e. is_at_or_under e.0 c.args.path.now) c.next.new.self) c.in_ok-push.ensures.items
          ∙ kept deref_pair c.loop-key.found.items (c.in-Some.key, c.in-Some.lock) c.args.path.now c.loop-key.key-iterator c.next.new.self _ c.in-Some.ensures.steps under c.loop-key.invariant.0,
      ends_rest c.args.path.now c.loop-key.key-iterator (c.in-Some.key.now, c.in-Some.lock.now) c.next.new.self c.in-Some.ensures.steps c.loop-key.invariant.1,
    )

pub returns-then-not-is_at_or_under-clause-ok : goal.returns-then-not-is_at_or_under-clause-ok
returns-then-not-is_at_or_under-clause-ok c =
    ended (map deref_pair c.loop-key.found.items) c.args.path.now c.loop-key.key-iterator (c.in-Some.key.now, c.in-Some.lock.now) c.next.new.self _ c.in-Some.ensures.steps
    (sym c.if-not-is_at_or_under.ensures.value) c.loop-key.invariant.1 c.loop-key.invariant.0
