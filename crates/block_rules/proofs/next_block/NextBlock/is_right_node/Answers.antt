use Rattle.std.proofs.{Common.{◌≡◌, map, sym, ap, subst, rules, ◌∙◌}, lemmas.Bool.false≢true}
use Rattle.std.specs.Map.Iter.{deref}
use Rattle.noderevs.specs.{Heights.AreNews, Held.node_at, Nodes.kid_at}
use Rattle.block_rules.specs.Rules.{id_before, past_of}
use Rattle.block_rules.proofs.next_block.NextBlock.is_right_node.Goals.{then-branch, else-branch}
use Rattle.block_rules.proofs.next_block.NextBlock.is_right_node.Goals as goal

pub has_its_height-requires-clause-new : goal.has_its_height-requires-clause-new
has_its_height-requires-clause-new c =
    subst (λ es. AreNews c.args.node.now.kids (kid_at (node_at c.args.self.nodes.now) c.find_before-before.result) (map deref es))
    (sym c.as_slice-new.ensures.value) c.in_ok-new.ensures

pub are_right_kids-requires-clause-new : goal.are_right_kids-requires-clause-new
are_right_kids-requires-clause-new c =
    let look = node_at c.args.self.nodes.now in
    let at : c.find_before-before.result ≡ id_before (past_of c.args.self.nodes.now) c.args.node.now.path = search rules in
    subst (λ o. AreNews c.args.node.now.kids (kid_at look o) (map deref c.as_slice-new.result.now)) at
    (subst (λ es. AreNews c.args.node.now.kids (kid_at look c.find_before-before.result) (map deref es))
    (sym c.as_slice-new.ensures.value) c.in_ok-new.ensures)

pub keeps_own-requires-clause-before : goal.keeps_own-requires-clause-before
keeps_own-requires-clause-before c =
    c.find_before-before.ensures ∙ ap (id_before (past_of c.args.self.nodes.now)) c.components.ensures

pub returns-clause-right : goal.returns-clause-right
returns-clause-right c = (
  λ yes. elim c.if-branch.branch [
    | then-branch w ↦ record {
      placed = c.in_ok-is_placed.ensures.placed.0 w.if-branch.true;
      kids = c.in_ok-are_right_kids.ensures.0 c.if-not-branch-4.false;
      height = c.in_ok-has_its_height.ensures.0 c.if-not-branch.false;
      file = c.in_ok-is_right_file.ensures.0 c.if-not-branch-2.false;
      own = c.in_ok-names_own.ensures.0 c.if-not-branch-3.false;
      keeps = w.keeps_own.ensures.0 (sym w.result-is ∙ yes);
    }
    | else-branch w ↦ absurd (false≢true (sym w.if-branch.false ∙ sym w.result-is ∙ yes))
  ],
  λ right. elim c.if-branch.branch [
    | then-branch w ↦ w.result-is ∙ w.keeps_own.ensures.1 right.keeps
    | else-branch w ↦ absurd (false≢true (sym w.if-branch.false ∙ c.in_ok-is_placed.ensures.placed.1 right.placed))
  ],
)
