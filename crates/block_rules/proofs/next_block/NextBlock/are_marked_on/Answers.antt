use Rattle.std.proofs.{Common.{take, refl, sym, subst, ◌∙◌}, lemmas.Bool.false≢true, lemmas.List.take_all}
use Rattle.std.proofs.lemmas.List.Elements.{All-contains, All-more, All-same}
use Rattle.repo_api.specs.Histories.{Changed}
use Rattle.block_rules.specs.Rules.{IsMarked, past_of}
use Rattle.block_rules.proofs.next_block.NextBlock.are_marked_on.Goals as goal

pub loop-change-preserved : goal.loop-change-preserved
loop-change-preserved c =
    let marked = λ (e : Changed). IsMarked (past_of c.args.self.nodes.now) c.args.self.block.now e.0 in (
      c.is_marked.ensures.way,
      All-more marked c.args.self.changes.now c.loop-change.change-index c.change-item.result c.loop-change-test.true
          c.loop-change.invariant.1 (subst marked c.change-item.is (c.in_ok-is_marked.ensures.marked.0 c.if-not-branch.false)),
    )

pub returns : goal.returns
returns c = (
  λ yes e there.
      let marked = λ (e : Changed). IsMarked (past_of c.args.self.nodes.now) c.args.self.block.now e.0 in
      let changes = c.args.self.changes.now in
      All-contains marked changes e
      (All-same marked changes (take c.loop-change.change-index changes) (sym (take_all _ changes c.loop-change-test.false)) c.loop-change.invariant.1)
      there,
  λ right. refl,
)

pub returns-then-not-branch : goal.returns-then-not-branch
returns-then-not-branch c = (
  λ yes. absurd (false≢true yes),
  λ right.
      sym c.if-not-branch.true ∙ c.in_ok-is_marked.ensures.marked.1
      (right c.change-item.result (c.loop-change.change-index, c.loop-change-test.true, sym c.change-item.is)),
)
