use Rattle.std.proofs.Common.{◌+◌, drop, ap, sym, ◌∙◌}
use Rattle.svnpath.specs.Texts.{joined}
use Rattle.machine.specs.Histories.{all_joined, path_before}
use Rattle.session_reads.proofs.{Each.next_left, Joined.{in_front, one_more}}
use Rattle.session_reads.proofs.paths.all_joined.Goals as goal

pub loop-path-preserved : goal.loop-path-preserved
loop-path-preserved c =
    let base = c.args.base.now in
    let before = c.loop-path.joined.items in
    let rest = all_joined base (drop (c.loop-path.path-index + 1) c.args.paths.now) in
    c.loop-path.invariant
    ∙ ap (λ l. in_front before (all_joined base l)) (next_left c.args.paths.now c.loop-path.path-index c.path-item.result c.loop-path-test.true c.path-item.is)
    ∙ ap (λ r. in_front before (path_before r rest)) (ap (joined base) (sym c.as_slice.ensures) ∙ c.in_ok-join.ensures.value)
    ∙ one_more before c.in_ok-join.field-0 rest
    ∙ ap (λ l. in_front l rest) (sym c.in_ok-push.ensures.items)
