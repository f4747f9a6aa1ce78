use Rattle.std.proofs.Common.{◌∙◌}
use Rattle.repo_api.proofs.Ordered.{put_next, read}
use Rattle.repo_api.proofs.rows.tree_of.Goals as goal

pub loop-name-preserved : goal.loop-name-preserved
loop-name-preserved c =
    let rows = c.args.rows.now in
    let row = c.loop-name-item.result in
    c.in_ok-insert.ensures.entries
    ∙ put_next rows c.requires c.loop-name.name-index row (read rows c.loop-name.name-index row c.loop-name-test.true c.loop-name-item.is)
    c.loop-name.tree.entries c.loop-name.invariant c.in_ok-clone.field-0 c.in_ok-clone-2.field-0 c.in_ok-clone.ensures.cases c.in_ok-clone-2.ensures.cases
