use Rattle.std.proofs.{Common.{rules, ◌≡◌, ◌≤◌, ◌+◌, [], ◌∷◌, ◌++◌, take, length, max, Some, refl, sym, ap, subst, ◌∙◌}, lemmas.List.take_more}
use Rattle.std.specs.Prelude.{IsSome}
use Rattle.svnpath.specs.Paths.{Component}
use Rattle.noderevs.specs.{Held.node_at, Nodes.kid_at, Views.{find_id, shared_tree}}
use Rattle.shared_revisions.specs.Settling.{IsSettledFrom}
use Rattle.shared_revisions.proofs.{Marks.{IsNoneLater, own_at, next_name, settled_end}, Seen.find_on}
use Rattle.shared_revisions.proofs.settling.newest_mark.Goals as goal

pub loop-name-preserved : goal.loop-name-preserved
loop-name-preserved c =
    let look = node_at c.args.nodes.now in
    let root = c.args.root in
    let path = c.args.path.now in
    let i = c.loop-name.name-index in
    let name = c.name-item.result in
    let id = c.in_ok-at-2.at in
    let node = c.in_ok-node.field-0.now in
    let child : take i path ++ name ∷ [] ≡ take (i + 1) path =
    ap (λ (x : Component). take i path ++ x ∷ []) c.name-item.is
    ∙ sym (take_more path i name c.loop-name-test.true) in
    let found : kid_at look (Some c.loop-name.at) name ≡ Some id = search rules in
    let here : look id ≡ Some node = search rules in
    let at : find_id look (take (i + 1) path) root ≡ Some id =
    ap (λ p. find_id look p root) (sym child) ∙ find_on look (take i path) (name ∷ []) root
    ∙ ap (λ o. kid_at look o name) c.loop-name.invariant.0 ∙ found in
    let newest : c.max-newest.result ≡ max c.loop-name.newest node.own.rev = search rules in (
      at,
      subst (λ o. IsSome o) (sym here) refl,
      subst (IsNoneLater (shared_tree look root) path (i + 1)) (sym newest)
          (next_name
          (shared_tree look root) path i c.loop-name.newest node.own.rev c.loop-name.invariant.2
          (own_at look root (take (i + 1) path) id node at here)),
      refl,
    )

pub returns : goal.returns
returns c =
    let look = node_at c.args.nodes.now in
    let path = c.args.path.now in
    let past : length path ≤ c.loop-name.name-index = search rules in
    let newest : c.max.result ≡ max c.loop-name.newest c.loop-name.last = search rules in
    subst (IsSettledFrom (shared_tree look c.args.root) path)
    (sym (newest ∙ ap (max c.loop-name.newest) c.loop-name.invariant.3))
    (settled_end look c.args.root path c.loop-name.name-index c.loop-name.at c.loop-name.newest
    c.loop-name.invariant.0 c.loop-name.invariant.1 c.loop-name.invariant.2 past)
