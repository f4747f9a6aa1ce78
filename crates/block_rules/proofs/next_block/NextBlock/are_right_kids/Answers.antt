use Rattle.std.proofs.{Common.{◌≡◌, Some, ◌∷◌, ◌++◌, [], ◌+◌, map, take, sym, subst, ◌∙◌}, lemmas.Bool.false≢true, lemmas.List.take_all}
use Rattle.std.proofs.lemmas.List.Elements.{All-contains, All-push, All-same}
use Rattle.std.specs.{List.All, Map.Iter.deref}
use Rattle.svnpath.specs.Paths.{Component}
use Rattle.noderevs.specs.{Nodes.kid_named, declared.node_rev.NodeId.NodeId}
use Rattle.block_rules.specs.Rules.{IsRightKid, past_of}
use Rattle.block_rules.proofs.News.{stands, turn, decided, right_kid}
use Rattle.block_rules.proofs.next_block.NextBlock.are_right_kids.Goals as goal

pub loop-entry-preserved : goal.loop-entry-preserved
loop-entry-preserved c =
    let right = λ (e : Component × NodeId). IsRightKid (past_of c.args.self.nodes.now) c.args.self.block.now
    c.args.self.changes.now c.args.place c.args.node.now.path e.0 e.1 in
    let es = c.args.new.now in
    let i = c.loop-entry.entry-index in
    let e = c.entry-item.result in
    All-same right (map deref (take (i + 1) es)) (map deref (take i es) ++ e.now ∷ []) (turn es i e c.loop-entry-test.true c.entry-item.is)
    (All-push right (map deref (take i es)) e.now c.loop-entry.invariant (c.in_ok-is_right_kid.ensures.0 c.if-not-branch.false))

pub returns : goal.returns
returns c =
    let past = past_of c.args.self.nodes.now in
    let right = λ (e : Component × NodeId). IsRightKid past c.args.self.block.now c.args.self.changes.now c.args.place c.args.node.now.path e.0 e.1 in
    let es = c.args.new.now in
    let all = subst (λ l. All right (map deref l)) (take_all c.loop-entry.entry-index es c.loop-entry-test.false) c.loop-entry.invariant in
    decided c.are_components.result _ _
    (λ names name kid is. right_kid past c.args.self.nodes.now.kids c.args.self.changes.now c.args.node.now.path name kid c.args.self.block.now c.args.place
    (map deref es) all (names name kid is) (c.requires.new.others name kid is))
    (λ right name kid is. (right name kid is).component)
    c.are_components.ensures

pub returns-then-not-branch : goal.returns-then-not-branch
returns-then-not-branch c = (
  λ yes. absurd (false≢true yes),
  λ right.
      let e = c.entry-item.result in
      sym c.if-not-branch.true ∙ c.in_ok-is_right_kid.ensures.1
      (right e.now.0 e.now.1
      (All-contains (λ e. kid_named c.args.node.now.kids e.0 ≡ Some e.1) (map deref c.args.new.now) e.now c.requires.new.from
      (stands c.args.new.now c.loop-entry.entry-index e c.loop-entry-test.true c.entry-item.is))),
)
