use Rattle.std.proofs.Common.{sym, refl, ◌∙◌}
use Rattle.mergeinfo.proofs.Pushes.{pushed_on, pushed_apart}
use Rattle.mergeinfo.proofs.sweep.push.Goals as goal

pub returns-then-goes_on : goal.returns-then-goes_on
returns-then-goes_on c =
    pushed_on _ _ _ c.in-Some.last c.args.range _ c.in-Some.ensures.items c.in_ok-push-2.ensures.items refl refl refl (sym c.goes_on.ensures ∙ c.if-goes_on.true)

pub returns : goal.returns
returns c =
    pushed_apart _ _ _ _ c.in-Some.last c.args.range c.in-Some.ensures.items c.in_ok-push-3.ensures.items c.in_ok-push-4.ensures.items (sym c.goes_on.ensures ∙ c.if-goes_on.false)
