use Rattle.std.proofs.{Common.{◌≡◌, Some, sym, subst, ◌∙◌, true}, lemmas.Bool.false≢true}
use Rattle.std.specs.Prelude.{All}
use Rattle.noderevs.specs.{Nodes.kid_of, declared.node_rev.NodeRev.NodeRev}
use Rattle.filed_trees.proofs.{Named.{same_kids, has_all, have_listed}, kids.are_same_kids.Goals.{then-are_kids_of, else-are_kids_of}}
use Rattle.svnpath.specs.Paths.{Component}
use Rattle.filed_trees.proofs.kids.are_same_kids.Goals as goal

pub returns : goal.returns
returns c = (yes_same, same_yes)
  where
    node : NodeRev
    node = c.args.node.now

    other : NodeRev
    other = c.args.other.now

    yes_same : c.if-are_kids_of.result ≡ true → (name : Component) → kid_of name node ≡ kid_of name other
    yes_same is =
        let into : All (λ k. kid_of k.now.0 other ≡ Some k.now.1) c.in_ok-kids.kids.items =
        elim c.if-are_kids_of.branch [
          | then-are_kids_of w ↦ subst (λ l. All (λ k. kid_of k.now.0 other ≡ Some k.now.1) l) c.as_slice.ensures.value
              (c.are_kids_of.ensures.0 w.if-are_kids_of.true)
          | else-are_kids_of w ↦ absurd (false≢true (sym w.if-are_kids_of.false ∙ sym w.result-is ∙ is))
        ] in
        let back : All (λ k. kid_of k.now.0 node ≡ Some k.now.1) c.in_ok-others.others.items =
        elim c.if-are_kids_of.branch [
          | then-are_kids_of w ↦ subst (λ l. All (λ k. kid_of k.now.0 node ≡ Some k.now.1) l) w.as_slice-then-are_kids_of.ensures.value
              (w.are_kids_of-then-are_kids_of.ensures.0 (sym w.result-is ∙ is))
          | else-are_kids_of w ↦ absurd (false≢true (sym w.if-are_kids_of.false ∙ sym w.result-is ∙ is))
        ] in
        same_kids (λ n. kid_of n node) (λ n. kid_of n other)
        (has_all (λ n. kid_of n node) (λ n. kid_of n other) c.in_ok-kids.kids.items c.in_ok-kids.ensures.others into)
        (has_all (λ n. kid_of n other) (λ n. kid_of n node) c.in_ok-others.others.items c.in_ok-others.ensures.others back)

    same_yes : ((name : Component) → kid_of name node ≡ kid_of name other) → c.if-are_kids_of.result ≡ true
    same_yes same =
        elim c.if-are_kids_of.branch [
          | then-are_kids_of w ↦ w.result-is ∙ w.are_kids_of-then-are_kids_of.ensures.1
              (subst (λ l. All (λ k. kid_of k.now.0 node ≡ Some k.now.1) l) (sym w.as_slice-then-are_kids_of.ensures.value)
              (have_listed (λ n. kid_of n other) (λ n. kid_of n node) c.in_ok-others.others.items c.in_ok-others.ensures.from (λ n. sym (same n))))
          | else-are_kids_of w ↦ absurd (false≢true (sym w.if-are_kids_of.false ∙ c.are_kids_of.ensures.1
              (subst (λ l. All (λ k. kid_of k.now.0 other ≡ Some k.now.1) l) (sym c.as_slice.ensures.value)
              (have_listed (λ n. kid_of n node) (λ n. kid_of n other) c.in_ok-kids.kids.items c.in_ok-kids.ensures.from same))))
        ]
