-- What stands where a node does, among other nodes.
use Rattle.std.proofs.Common.{◌≡◌, ℕ, false, is_some, List, [], ◌∷◌, ◌++◌, Option, Some, None, option_map, option_and_then, refl, sym, ap, subst, ◌∙◌}
use Rattle.std.proofs.lemmas.Bool.{false≢true}
use Rattle.std.specs.Prelude.{IsSome, IfSome}
use Rattle.repo_api.specs.{Trees.is_open_mark, declared.entry.Entry.Entry, declared.entry.Mark.Mark, declared.entry.Mark.TheVariants.{Open, Made}}
use Rattle.svnpath.specs.Paths.{Component, PathValue}
use Rattle.noderevs.specs.{Held.{node_at, root_at, trees_of}, Nodes.{IsThere, kid_at, kid_of, Look}, Soundness.{AreApart, AreKidsThere}}
use Rattle.noderevs.specs.{Views.{entry_at, find_id, shared_entry, shared_tree}, declared.node_rev.NodeId.NodeId, declared.node_rev.NodeRev.NodeRev}
use Rattle.noderevs.specs.declared.nodes.Nodes.{Nodes}
use Rattle.txntree.specs.{Bases.{IsBased, Stands}, Changes.{first_of, IsWalking}}
use Rattle.txntree.specs.{Spots.{change_spot, changed_at, entry, find, flat, open_entry, over, shared_spot, Spot, step}, Spots.Spot.{Nothing, Opened, Shared}}
use Rattle.txntree.specs.{declared.open.Change.Change, declared.open.OpenNode.OpenNode, declared.open.Change.TheVariants.{Gone, Is}}
use Rattle.txntree.proofs.{Bases.{shared_based, nothing_based}, Blocks.closed_is, Walking.{gone_spot, is_spot, nothing_there}}
use Rattle.txntree.proofs.Sharing.{shared_flat, find_append}
use Rattle.treemerge.specs.Moves.{HaveTwins, twin, IsTwin, IsMoved, IsMadeOf, IsMovedAt}

lost : (look : Look) (p : PathValue) → find_id look p None ≡ None
lost look [] = refl
lost look (c ∷ p) = lost look p

no_tree : (look : Look) (p : PathValue) → shared_tree look None p ≡ None
no_tree look p = ap (option_and_then (entry_at look)) (lost look p)

-- under an id that names no node there is nothing
dead : (look : Look) (id : NodeId) → look id ≡ None → (q : PathValue) → shared_tree look (Some id) q ≡ None
dead look id is [] = ap (option_map (shared_entry id)) is
dead look id is (c ∷ q) = ap (λ f. shared_tree look (option_and_then (kid_of c) f) q) is ∙ no_tree look q

shared_on : (look : Look) (p q : PathValue) (o : Option NodeId) → shared_tree look o (p ++ q) ≡ shared_tree look (find_id look p o) q
shared_on look p q o = ap (option_and_then (entry_at look)) (find_append look p q o)

pub twin_tree : (from to : Nodes) → HaveTwins from to → (o : Option NodeId) (q : PathValue) → shared_tree (node_at to) (twin from to o) q ≡ shared_tree (node_at from) o q
twin_tree from to have None q = no_tree (node_at to) q ∙ sym (no_tree (node_at from) q)
twin_tree from to have (Some id) q = by (node_at from id) refl
  where
    other : NodeRev → Option NodeId
    other node = find_id (node_at to) node.path (root_at to id.rev)

    by : (found : Option NodeRev) → node_at from id ≡ found → shared_tree (node_at to) (option_and_then other (node_at from id)) q ≡ shared_tree (node_at from) (Some id) q
    by None is = ap (λ f. shared_tree (node_at to) (option_and_then other f) q) is ∙ no_tree (node_at to) q ∙ sym (dead (node_at from) id is q)
    by (Some node) is =
        ap (λ f. shared_tree (node_at to) (option_and_then other f) q) is
        ∙ sym (shared_on (node_at to) node.path q (root_at to id.rev))
        ∙ have.same id (subst (λ f. IsSome f) (sym is) refl) (node.path ++ q)
        ∙ shared_on (node_at from) node.path q (root_at from id.rev)
        ∙ ap (λ o. shared_tree (node_at from) o q) (have.placed id node is)

-- ---- ids that show one entry are one

abbrev last_or : Option Entry → Mark
last_or None = Open
last_or (Some e) = e.last

abbrev mark_path : Mark → PathValue
mark_path Open = []
mark_path (Made r p) = p

abbrev mark_rev : Mark → ℕ
mark_rev Open = 0
mark_rev (Made r p) = r

same_ids : (look : Look) → AreApart look → (o p : Option NodeId) → IfSome o (IsThere look) → IfSome p (IsThere look)
    → shared_tree look o [] ≡ shared_tree look p [] → o ≡ p
same_ids look apart None None there_o there_p same = refl
same_ids look apart None (Some j) there_o there_p same = by (look j) there_p same
  where
    by : (n : Option NodeRev) → IsSome n → None ≡ option_map (shared_entry j) n → None ≡ Some j
    by None there is = absurd (false≢true there)
    by (Some n) there is = absurd (false≢true (ap is_some is))
same_ids look apart (Some i) None there_o there_p same = by (look i) there_o same
  where
    by : (n : Option NodeRev) → IsSome n → option_map (shared_entry i) n ≡ None → Some i ≡ None
    by None there is = absurd (false≢true there)
    by (Some n) there is = absurd (false≢true (sym (ap is_some is)))
same_ids look apart (Some i) (Some j) there_o there_p same = by (look i) (look j) refl refl there_o there_p same
  where
    one : (m n : NodeRev) → look i ≡ Some m → look j ≡ Some n → Made i.rev m.path ≡ Made j.rev n.path → Some i ≡ Some j
    one m n at_i at_j is =
        let rev = ap mark_rev is in
        let place = apart i j m n at_i at_j rev (ap mark_path is) in
        λ k. Some (record { rev = rev k; place = place k })

    by : (m n : Option NodeRev) → look i ≡ m → look j ≡ n → IsSome m → IsSome n
        → option_map (shared_entry i) m ≡ option_map (shared_entry j) n → Some i ≡ Some j
    by None n at_i at_j there_m there_n is = absurd (false≢true there_m)
    by (Some m) None at_i at_j there_m there_n is = absurd (false≢true there_n)
    by (Some m) (Some n) at_i at_j there_m there_n is = one m n at_i at_j (ap last_or is)

-- what is shown is there
shown_there : (look : Look) (o : Option NodeId) → IsSome (shared_tree look o []) → IfSome o (IsThere look)
shown_there look None shown = tt {0}
shown_there look (Some id) shown = by (look id) shown
  where
    by : (n : Option NodeRev) → IsSome (option_map (shared_entry id) n) → IsSome n
    by None is = absurd (false≢true is)
    by (Some n) is = refl

there_shown : (look : Look) (id : NodeId) → IsThere look id → IsSome (shared_tree look (Some id) [])
there_shown look id there = by (look id) there
  where
    by : (n : Option NodeRev) → IsSome n → IsSome (option_map (shared_entry id) n)
    by None is = absurd (false≢true is)
    by (Some n) is = refl

twin_there : (from to : Nodes) → HaveTwins from to → (o : Option NodeId) → IfSome o (IsThere (node_at from))
    → IfSome (twin from to o) (IsThere (node_at to))
twin_there from to have None there = tt {0}
twin_there from to have (Some id) there =
    shown_there (node_at to) (twin from to (Some id))
    (ap is_some (twin_tree from to have (Some id) []) ∙ there_shown (node_at from) id there)

pub twin_is : (from to : Nodes) → HaveTwins from to → (o : Option NodeId) → IfSome o (IsThere (node_at from))
    → IsTwin from to o (twin from to o)
twin_is from to have o there = record {
  same = twin_tree from to have o;
  there = twin_there from to have o there;
}

kid_there : (look : Look) → AreKidsThere look → (o : Option NodeId) (name : Component) → IfSome (kid_at look o name) (IsThere look)
kid_there look kids None name = tt {0}
kid_there look kids (Some id) name = closed_is look kids id name

-- the twin of an entry is the entry of a twin
twin_kid : (from to : Nodes) → HaveTwins from to → (o b : Option NodeId) → IsTwin from to o b → (name : Component)
    → twin from to (kid_at (node_at from) o name) ≡ kid_at (node_at to) b name
twin_kid from to have o b is name =
    same_ids (node_at to) to.apart (twin from to (kid_at (node_at from) o name)) (kid_at (node_at to) b name)
    (twin_there from to have (kid_at (node_at from) o name) (kid_there (node_at from) from.kids o name))
    (kid_there (node_at to) to.kids b name)
    (twin_tree from to have (kid_at (node_at from) o name) [] ∙ sym (is.same (name ∷ [])))

pub if_there : (look : Look) (o : Option NodeId) → ((id : NodeId) → o ≡ Some id → IsThere look id) → IfSome o (IsThere look)
if_there look None there = tt {0}
if_there look (Some id) there = there id refl

-- ---- what stands beneath a name

no_open : (o : Option NodeId) (n : OpenNode) → shared_spot o ≡ Opened n → ⊥
no_open None n is = cc
no_open (Some id) n is = cc

pub none_made : (from to : Nodes) (old : Spot) (o : Option NodeId) → IsMadeOf from to old (shared_spot o)
none_made from to old o n is = absurd (no_open o n is)

-- a name that was not changed
pub unchanged_moved : (from to : Nodes) (self : OpenNode) (base : Option NodeId) (n : Component)
    → changed_at self.changed n ≡ None → IsMovedAt from to self base n None
unchanged_moved from to self base n none = record {
  made = none_made from to (step (node_at from) n (Opened self)) (kid_at (node_at to) base n);
  moved = λ have based is. record {
    tree = λ q.
        shared_flat (node_at to) (kid_at (node_at to) base n) q
        ∙ is.same (n ∷ q)
        ∙ sym (shared_flat (node_at from) (kid_at (node_at from) self.base n) q)
        ∙ ap (λ o. flat (node_at from) (over o (shared_spot (kid_at (node_at from) self.base n))) q) (sym none);
    based = shared_based (node_at to) (kid_at (node_at to) base n);
  };
}

-- a name whose change was moved
pub change_moved : (from to : Nodes) (self : OpenNode) (base : Option NodeId) (n : Component) (change copy : Change)
    → changed_at self.changed n ≡ Some change → IsMadeOf from to (change_spot change) (change_spot copy)
    → (HaveTwins from to → IsBased (node_at from) (change_spot change) → IsMoved from to (change_spot change) (change_spot copy))
    → IsMovedAt from to self base n (Some copy)
change_moved from to self base n change copy at made moved = record {
  made = subst (λ o. IsMadeOf from to (below o) (change_spot copy)) (sym at) made;
  moved = λ have based is. subst (λ o. IsMoved from to (below o) (change_spot copy)) (sym at)
      (moved have (λ q m found. based (n ∷ q) m (ap (λ o. find (node_at from) q (below o)) at ∙ found)));
}
  where
    below : Option Change → Spot
    below o = over o (shared_spot (kid_at (node_at from) self.base n))

abbrev node_or : OpenNode → Spot → OpenNode
node_or n Nothing = n
node_or n (Shared id) = n
node_or n (Opened m) = m

-- the whole node
pub node_moved : (from to : Nodes) (self new : OpenNode) (base : Option NodeId) (left : List (Component × Change))
    → open_entry new ≡ open_entry self → new.base ≡ base → left ≡ []
    → IsWalking self left new.changed (IsMovedAt from to self base)
    → HaveTwins from to → IsBased (node_at from) (Opened self) → IsTwin from to self.base base
    → IsMoved from to (Opened self) (Opened new)
node_moved from to self new base left same over_base end so have based is = record {
  tree = tree;
  based = new_based;
}
  where
    at : (n : Component) → IsMovedAt from to self base n (changed_at new.changed n)
    at n = so.done n (ap (λ es. first_of es n) end)

    stepped : (n : Component) → step (node_at to) n (Opened new) ≡ over (changed_at new.changed n) (shared_spot (kid_at (node_at to) base n))
    stepped n = ap (λ b. over (changed_at new.changed n) (shared_spot (kid_at (node_at to) b n))) over_base

    tree : (q : PathValue) → flat (node_at to) (Opened new) q ≡ flat (node_at from) (Opened self) q
    tree [] = ap Some same
    tree (n ∷ q) = ap (λ s. entry (node_at to) (find (node_at to) q s)) (stepped n) ∙ ((at n).moved have based is).tree q

    shut : (m n : OpenNode) → n.own ≡ m.own → is_open_mark n.own ≡ false → is_open_mark m.own ≡ false
    shut m n own closed = ap is_open_mark (sym own) ∙ closed

    entries : (n : Component) (m : OpenNode) → step (node_at to) n (Opened new) ≡ Opened m
        → is_open_mark m.own ≡ false → m.base ≡ kid_at (node_at to) new.base n
    entries n m found closed =
        let made = (at n).made m (sym (stepped n) ∙ found) in
        made.3
        ∙ ap (twin from to) ((based [] self refl).entries n made.0 made.1 (shut made.0 m made.2 closed))
        ∙ twin_kid from to have self.base base is n
        ∙ ap (λ b. kid_at (node_at to) b n) (sym over_base)

    base_there : (id : NodeId) → new.base ≡ Some id → IsThere (node_at to) id
    base_there id at_base = subst (λ o. IfSome o (IsThere (node_at to))) (sym over_base ∙ at_base) is.there

    new_based : IsBased (node_at to) (Opened new)
    new_based [] m found = subst (Stands (node_at to)) (ap (node_or new) found) (record { base = base_there; entries = entries })
    new_based (n ∷ q) m found = ((at n).moved have based is).based q m (ap (find (node_at to) q) (sym (stepped n)) ∙ found)

-- ---- a change

pub gone_made : (from to : Nodes) (change : Change) → IsMadeOf from to (change_spot change) (change_spot Gone)
gone_made from to change n is = absurd (no_open None n (sym gone_spot ∙ is))

pub gone_moved : (from to : Nodes) (change : Change) → change_spot change ≡ Nothing → IsMoved from to (change_spot change) (change_spot Gone)
gone_moved from to change gone = record {
  tree = λ q.
      ap (λ s. flat (node_at to) s q) gone_spot ∙ nothing_there (node_at to) q
      ∙ sym (ap (λ s. flat (node_at from) s q) gone ∙ nothing_there (node_at from) q);
  based = subst (IsBased (node_at to)) (sym gone_spot) (nothing_based (node_at to));
}

pub is_made : (from to : Nodes) (change : Change) (node copy : OpenNode) → change_spot change ≡ Opened node
    → copy.own ≡ node.own → copy.base ≡ twin from to node.base → IsMadeOf from to (change_spot change) (change_spot (Is copy))
is_made from to change node copy is own base n found =
    let same : copy ≡ n = ap (node_or copy) (sym (is_spot copy) ∙ found) in
    (node, is, ap (λ x. x.own) (sym same) ∙ own, ap (λ x. x.base) (sym same) ∙ base)

pub is_moved : (from to : Nodes) (change : Change) (node copy : OpenNode) (base : Option NodeId) → change_spot change ≡ Opened node
    → base ≡ twin from to node.base → HaveTwins from to → IsBased (node_at from) (change_spot change)
    → (IsBased (node_at from) (Opened node) → IsTwin from to node.base base → IsMoved from to (Opened node) (Opened copy))
    → IsMoved from to (change_spot change) (change_spot (Is copy))
is_moved from to change node copy base is over_twin have based moved =
    subst (λ s. IsMoved from to s (change_spot (Is copy))) (sym is)
    (subst (IsMoved from to (Opened node)) (sym (is_spot copy))
    (moved node_based (subst (IsTwin from to node.base) (sym over_twin)
    (twin_is from to have node.base (if_there (node_at from) node.base (node_based [] node refl).base)))))
  where
    node_based : IsBased (node_at from) (Opened node)
    node_based = subst (IsBased (node_at from)) is based

-- ---- the whole tree

pub root_twin : (from to : Nodes) (base : ℕ) (o : Option NodeId) → o ≡ root_at from base
    → ((q : PathValue) → trees_of to base q ≡ trees_of from base q) → IsTwin from to o (root_at to base)
root_twin from to base o began same = record {
  same = λ q. same q ∙ ap (λ r. shared_tree (node_at from) r q) (sym began);
  there = if_there (node_at to) (root_at to base) (to.roots base);
}
