use Rattle.std.proofs.Common.{◌++◌, ap, ◌∙◌}
use Rattle.mergeinfo.specs.Gathered.{items_of}
use Rattle.mergeinfo.proofs.Gathering.{put_again}
use Rattle.mergeinfo.proofs.info.add.Goals as goal

pub returns : goal.returns
returns c =
    put_again c.args.path c.args.ranges.items _ _ _ _
    (c.in_ok-all.ensures ∙ ap (λ o. items_of o ++ c.args.ranges.items) c.remove-before.ensures.value)
    c.remove-before.ensures.updates.0 c.in_ok-insert.ensures.updates.0
