-- What a merge makes of a node and its entries.
use Rattle.std.proofs.Common.{◌≡◌, ◌==◌, ℕ, Bool, true, false, ◌&&◌, ◌||◌, List, [], ◌∷◌, Option, Some, None, option_map, refl, sym, ap, subst, ◌∙◌, arith}
use Rattle.std.proofs.{Common.{rules, option_and_then}, lemmas.Bool.false≢true}
use Rattle.std.specs.{Prelude.{is_some, not, if◌then◌else◌}, BTreeMap.BTreeMap}
use Rattle.svnpath.specs.{PathLaws.same_path_refl, Paths.{Component, PathValue, same_path}}
use Rattle.repo_api.specs.{Edits.touched, Merge.{has_open_last, is_changed, is_in_conflict, is_one_directory, is_untouched}}
use Rattle.repo_api.specs.{Trees.{is_directory, is_open_mark, same_mark, Tree}, declared.entry.Entry.Entry, declared.entry.Mark.Mark}
use Rattle.repo_api.specs.declared.entry.Mark.TheVariants.{Open, Made}
use Rattle.noderevs.specs.{Nodes.{kid_at, Look}, Views.shared_entry, declared.node_rev.NodeId.NodeId, declared.node_rev.NodeRev.NodeRev}
use Rattle.txntree.specs.{Changes.{first_of, IsWalking}, Spots.{change_spot, changed_at, entry, find, flat, open_entry, over, shared_spot, Spot}}
use Rattle.txntree.specs.{Spots.Spot.Opened, Walks.beneath, declared.open.OpenNode.OpenNode, declared.open.Change.Change}
use Rattle.treemerge.specs.Merges.{merged_open, IsTold, spot_tree, IsMergeOf, IsMerged, is_one}
use Rattle.txntree.proofs.Seals.{nothing}

same_number : (n : ℕ) → (n == n) ≡ true
same_number n = search (rules, arith)

mark_same : (m : Mark) → same_mark m m ≡ true
mark_same Open = refl
mark_same (Made r p) = ap (λ b. b && same_path p p) (same_number r) ∙ same_path_refl p

left_itself : (o : Option Entry) → is_untouched o o ≡ true
left_itself None = refl
left_itself (Some e) = ap (λ b. b && (same_mark e.last e.last || is_open_mark e.last)) (mark_same e.own) ∙ ap (λ b. b || is_open_mark e.last) (mark_same e.last)

not_changed : (o : Option Entry) → is_changed o o ≡ false
not_changed None = refl
not_changed (Some e) = ap not (mark_same e.last)

and_false : (x z : Bool) → ((x && false) && z) ≡ false
and_false true z = refl
and_false false z = refl

and_last : (x y : Bool) → ((x && y) && false) ≡ false
and_last true true = refl
and_last true false = refl
and_last false y = refl

no_conflict : (a s : Option Entry) → is_in_conflict a s a ≡ false
no_conflict a s = ap (λ b. (is_changed a s && b) && not (is_one_directory a s a)) (not_changed a) ∙ and_false (is_changed a s) (not (is_one_directory a s a))

no_conflict_left : (a t : Option Entry) → is_in_conflict a a t ≡ false
no_conflict_left a t = ap (λ b. (b && is_changed a t) && not (is_one_directory a a t)) (not_changed a)

-- marks of shared nodes are closed
shared_last : (look : Look) (o : Option NodeId) (q : PathValue) → has_open_last (flat look (shared_spot o) q) ≡ false
shared_last look None q = ap has_open_last (nothing look q)
shared_last look (Some id) [] = by (look id)
  where
    by : (o : Option NodeRev) → has_open_last (option_map (shared_entry id) o) ≡ false
    by None = refl
    by (Some node) = refl
shared_last look (Some id) (n ∷ q) = shared_last look (kid_at look (Some id) n) q

-- nobody else has changed what stands there
pub cut : (look : Look) (o : Option NodeId) (s : Tree) (spot : Spot) → IsTold (spot_tree look o) s → ((q : PathValue) → flat look spot q ≡ s q) → IsMergeOf look spot (spot_tree look o) s (spot_tree look o)
cut look o s spot told same q = (same q ∙ by (is_untouched (a q) (s q)) refl, no_conflict (a q) (s q))
  where
    a : Tree
    a = spot_tree look o

    by : (b : Bool) → is_untouched (a q) (s q) ≡ b → s q ≡ (if b then (if has_open_last (s q) then option_map touched (a q) else a q) else s q)
    by true left = told q left
    by false changed = refl

-- the transaction has left it
pub untouched : (look : Look) (o young : Option NodeId) → IsMergeOf look (shared_spot young) (spot_tree look o) (spot_tree look o) (spot_tree look young)
untouched look o young q = (
  sym (ap (λ b. if b then (if has_open_last (a q) then option_map touched (t q) else t q) else a q) (left_itself (a q))
      ∙ ap (λ b. if b then option_map touched (t q) else t q) (shared_last look o q)),
  no_conflict_left (a q) (t q),
)
  where
    a : Tree
    a = spot_tree look o

    t : Tree
    t = spot_tree look young

none_of : (x e : Bool) → (x && (false && e)) ≡ false
none_of true e = refl
none_of false e = refl

own_of : (x d e : Bool) → (x && (d && e)) ≡ true → d ≡ true
own_of x true e h = refl
own_of x false e h = absurd (false≢true (sym (none_of x e) ∙ h))

or_true : (b : Bool) → (b || true) ≡ true
or_true true = refl
or_true false = refl

-- the directory itself
pub top : (x s z : Entry) → is_one_directory (Some x) (Some s) (Some z) ≡ true → s.last ≡ Open
    → (Some (touched z) ≡ merged_open (Some x) (Some s) (Some z)) × (is_in_conflict (Some x) (Some s) (Some z) ≡ false)
top x s z one last = (
  sym (ap (λ b. if b then (if is_open_mark s.last then Some (touched z) else Some z) else Some s) left ∙ ap (λ m. if is_open_mark m then Some (touched z) else Some z) last),
  ap (λ b. (is_changed (Some x) (Some s) && is_changed (Some x) (Some z)) && not b) one ∙ and_last (is_changed (Some x) (Some s)) (is_changed (Some x) (Some z)),
)
  where
    left : is_untouched (Some x) (Some s) ≡ true
    left = ap (λ b. b && (same_mark x.last s.last || is_open_mark s.last)) (own_of (is_directory x && is_directory s && is_directory z) (same_mark x.own s.own) (same_mark x.own z.own) one)
        ∙ ap (λ m. same_mark x.last m || is_open_mark m) last ∙ or_true (same_mark x.last Open)

pub beneath_shared : (look : Look) (o : Option NodeId) (n : Component) → beneath n (spot_tree look o) ≡ spot_tree look (kid_at look o n)
beneath_shared look None n = refl
beneath_shared look (Some id) n = refl

-- a name that the transaction has not changed
pub merged_apart : (look : Look) (self : OpenNode) (base young : Option NodeId) (n : Component) → changed_at self.changed n ≡ None → IsMerged look self base young n None
merged_apart look self base young n none told based =
    subst (λ t. IsMergeOf look (shared_spot (kid_at look young n)) (beneath n (spot_tree look base)) (beneath n (flat look (Opened self))) t) (sym (beneath_shared look young n))
    (subst (λ s. IsMergeOf look (shared_spot (kid_at look young n)) (beneath n (spot_tree look base)) s (spot_tree look (kid_at look young n)))
    (sym (ap (λ o. flat look (over o (shared_spot (kid_at look self.base n)))) none ∙ ap (λ b. spot_tree look (kid_at look b n)) based))
    (subst (λ a. IsMergeOf look (shared_spot (kid_at look young n)) a (spot_tree look (kid_at look base n)) (spot_tree look (kid_at look young n))) (sym (beneath_shared look base n))
    (untouched look (kid_at look base n) (kid_at look young n))))

-- and one that it has
pub merged_here : (look : Look) (self : OpenNode) (base young was now : Option NodeId) (n : Component) (change : Change) (o : Option Change)
    → changed_at self.changed n ≡ Some change → was ≡ kid_at look base n → now ≡ kid_at look young n
    → (IsTold (spot_tree look was) (flat look (change_spot change)) → IsMergeOf look (over o (shared_spot now)) (spot_tree look was) (flat look (change_spot change)) (spot_tree look now))
    → IsMerged look self base young n o
merged_here look self base young was now n change o here ewas enow one told based =
    subst (λ sp. IsMergeOf look (over o (shared_spot sp)) (beneath n (spot_tree look base)) (beneath n (flat look (Opened self))) (beneath n (spot_tree look young))) enow
    (subst (λ t. IsMergeOf look (over o (shared_spot now)) (beneath n (spot_tree look base)) (beneath n (flat look (Opened self))) t) (sym et)
    (subst (λ s. IsMergeOf look (over o (shared_spot now)) (beneath n (spot_tree look base)) s (spot_tree look now)) (sym es)
    (subst (λ a. IsMergeOf look (over o (shared_spot now)) a (flat look (change_spot change)) (spot_tree look now)) (sym ea)
    (one (subst (λ a. IsTold a (flat look (change_spot change))) ea (subst (λ s. IsTold (beneath n (spot_tree look base)) s) es (λ q. told (n ∷ q))))))))
  where
    ea : beneath n (spot_tree look base) ≡ spot_tree look was
    ea = beneath_shared look base n ∙ ap (spot_tree look) (sym ewas)

    et : beneath n (spot_tree look young) ≡ spot_tree look now
    et = beneath_shared look young n ∙ ap (spot_tree look) (sym enow)

    es : beneath n (flat look (Opened self)) ≡ flat look (change_spot change)
    es = ap (λ x. flat look (over x (shared_spot (kid_at look self.base n)))) here

shared_top : (look : Look) (o : Option NodeId) (node : NodeRev) → option_and_then look o ≡ Some node → (id : NodeId) × (flat look (shared_spot o) [] ≡ Some (shared_entry id node))
shared_top look None node is = cc
shared_top look (Some id) node is = (id, ap (option_map (shared_entry id)) is)

-- the whole directory
pub merge_ends : (look : Look) (self new : OpenNode) (base young : Option NodeId) (was theirs : NodeRev) (left : List (Component × Change)) (m : BTreeMap Component Change)
    → option_and_then look base ≡ Some was → option_and_then look young ≡ Some theirs → is_one self was theirs ≡ true → self.base ≡ base
    → ((id : NodeId) → open_entry new ≡ touched (shared_entry id theirs)) → new.base ≡ young → new.changed ≡ m
    → left ≡ [] → IsWalking self left m (IsMerged look self base young)
    → IsTold (spot_tree look base) (flat look (Opened self)) → IsMergeOf look (Opened new) (spot_tree look base) (flat look (Opened self)) (spot_tree look young)
merge_ends look self new base young was theirs left m old now one based same stands map end so told [] =
    let x = shared_top look base was old in
    let z = shared_top look young theirs now in
    let t = top (shared_entry x.0 was) (open_entry self) (shared_entry z.0 theirs) one refl in (
      ap Some (same z.0) ∙ t.0 ∙ ap (λ a. merged_open a (Some (open_entry self)) (Some (shared_entry z.0 theirs))) (sym x.1) ∙ ap (λ y. merged_open (spot_tree look base []) (Some (open_entry self)) y) (sym z.1),
      ap (λ a. is_in_conflict a (Some (open_entry self)) (spot_tree look young [])) x.1 ∙ ap (λ y. is_in_conflict (Some (shared_entry x.0 was)) (Some (open_entry self)) y) z.1 ∙ t.1,
    )
merge_ends look self new base young was theirs left m old now one based same stands map end so told (n ∷ q) =
    let d = so.done n (ap (λ es. first_of es n) end) told based q in (
      ap (λ b. entry look (find look q (over (changed_at new.changed n) (shared_spot (kid_at look b n))))) stands
          ∙ ap (λ x. entry look (find look q (over (changed_at x n) (shared_spot (kid_at look young n))))) map ∙ d.0,
      d.1,
    )

-- an add and a delete where nothing was
pub nowhere_before : (look : Look) (base young : Option NodeId) (s : Tree) → false ≡ is_some base → ((q : PathValue) → s q ≡ None)
    → IsMergeOf look (shared_spot young) (spot_tree look base) s (spot_tree look young)
nowhere_before look None young s none empty =
    subst (λ x. IsMergeOf look (shared_spot young) (spot_tree look None) x (spot_tree look young)) (λ i q. (nothing look q ∙ sym (empty q)) i) (untouched look None young)
nowhere_before look (Some id) young s none empty = absurd (false≢true none)
