use Rattle.std.proofs.{Common.{◌++◌, length, drop, ap, ◌∙◌}, lemmas.Result.IfOk-weaker}
use Rattle.std.specs.List.{filter}
use Rattle.mergeinfo.proofs.{Gathering.{nothing_inherited, inherited_more, all_inherited}, Rights.{inherited_ranges, inherited_right}}
use Rattle.mergeinfo.specs.declared.range.Range.{Range}
use Rattle.svnpath.specs.Paths.{PathValue}
use Rattle.mergeinfo.proofs.info.MergeInfo.inherited.Goals as goal

pub loop-source-init : goal.loop-source-init
loop-source-init c = nothing_inherited c.args.rest.now c.sources-source-items.result.now _ c.new-gathered.ensures.empty

pub loop-source-preserved : goal.loop-source-preserved
loop-source-preserved c =
    let rest = c.args.rest.now in
    let s = c.source-item.result in
    inherited_more rest c.sources-source-items.result.now c.loop-source.source-index s s c.in_ok-path.path c.in_ok-inheritable.field-0.items _ _ c.loop-source-test.true c.source-item.is
    (c.in_ok-path.ensures ∙ ap (λ (to : PathValue). to ++ drop (length c.root.result) rest) c.path.ensures
    ∙ ap (λ (root : PathValue). s.path ++ drop (length root) rest) c.root.ensures)
    (c.in_ok-inheritable.ensures ∙ ap (filter (λ (range : Range). range.is_inheritable)) c.ranges-in-loop-source.ensures)
    c.in_ok-add.ensures c.loop-source.invariant

pub returns-clause-value : goal.returns-clause-value
returns-clause-value c =
    c.from_gathered.ensures _
    (all_inherited c.args.rest.now c.sources-source-items.result.now c.args.self.now c.loop-source.source-index _ c.sources-source-items.ensures c.loop-source-test.false c.loop-source.invariant)

pub returns-clause-ranges : goal.returns-clause-ranges
returns-clause-ranges c = λ right.
    IfOk-weaker c.from_gathered.result _ _ (λ v form. inherited_ranges c.args.rest.now c.args.self.now _ form right)
    (c.from_gathered.ensures _
    (all_inherited c.args.rest.now c.sources-source-items.result.now c.args.self.now c.loop-source.source-index _ c.sources-source-items.ensures c.loop-source-test.false c.loop-source.invariant))

pub returns-clause-right : goal.returns-clause-right
returns-clause-right c = λ right components short.
    IfOk-weaker c.from_gathered.result _ _ (λ v form. inherited_right c.args.rest.now c.args.self.now _ form right components short)
    (c.from_gathered.ensures _
    (all_inherited c.args.rest.now c.sources-source-items.result.now c.args.self.now c.loop-source.source-index _ c.sources-source-items.ensures c.loop-source-test.false c.loop-source.invariant))
