-- Where both sides changed what stands at a path.
use Rattle.std.proofs.Common.{◌≡◌, ℕ, Bool, true, false, not, ◌&&◌, [], ◌∷◌, ◌++◌, Option, Some, None, option_map, option_and_then, append_assoc, append-nil}
use Rattle.std.proofs.{Common.{refl, sym, ap, subst, ◌∙◌, is_some}, lemmas.Bool.false≢true}
use Rattle.std.specs.Prelude.{IsSome, Err}
use Rattle.svnpath.specs.Paths.{Component, PathValue}
use Rattle.repo_api.specs.{Merge.{is_changed, is_in_conflict, is_one_directory}, Trees.{is_directory, is_open_mark, same_mark, Tree}}
use Rattle.repo_api.specs.{declared.entry.Entry.Entry, declared.entry.Mark.Mark, declared.entry.Mark.TheVariants.{Open, Made}}
use Rattle.repo_laws.proofs.Naming.{same_mark_is}
use Rattle.noderevs.specs.{Nodes.{IsThere, kid_at, Look}, Soundness.{AreApart, AreKidsThere}, Views.shared_entry, declared.node_rev.NodeId.NodeId}
use Rattle.noderevs.specs.declared.node_rev.NodeRev.{NodeRev}
use Rattle.txntree.specs.{Bases.{IsBased, IsFit}, Spots.{change_spot, changed_at, flat, open_entry, over, shared_spot, Spot, step}}
use Rattle.txntree.specs.{Spots.Spot.{Nothing, Opened, Shared}, declared.open.Change.Change, declared.open.OpenNode.OpenNode}
use Rattle.treemerge.specs.{Merges.{spot_tree, is_one, IsMergeable, IsConflictUnder, IfConflict}, declared.merging.MergeFault.MergeFault}
use Rattle.treemerge.specs.{declared.merging.MergeFault.TheVariants.{Conflict, NoMemory}, declared.merging.Places.Places}
use Rattle.treemerge.proofs.Overlays.{beneath_shared}

abbrev revision_or : Mark → ℕ
revision_or Open = 0
revision_or (Made r p) = r

abbrev path_or : Mark → PathValue
path_or Open = []
path_or (Made r p) = p

-- nodes that differ have marks that differ
same_node : (look : Look) → AreApart look → (i j : NodeId) (m n : NodeRev) → look i ≡ Some m → look j ≡ Some n
    → same_mark (Made i.rev m.path) (Made j.rev n.path) ≡ true → i ≡ j
same_node look apart i j m n at_i at_j same =
    let marks = same_mark_is (Made i.rev m.path) (Made j.rev n.path) same in
    let places = apart i j m n at_i at_j (ap revision_or marks) (ap path_or marks) in
    λ k. record { rev = ap revision_or marks k; place = places k }

-- others have changed what stands there
theirs_changed : (look : Look) → AreApart look → (base young : Option NodeId)
    → ((id : NodeId) → base ≡ Some id → IsThere look id) → ((id : NodeId) → young ≡ Some id → IsThere look id)
    → (base ≡ young → ⊥) → is_changed (spot_tree look base []) (spot_tree look young []) ≡ true
theirs_changed look apart None None hb hy ne = absurd (ne refl)
theirs_changed look apart None (Some j) hb hy ne = by (look j) (hy j refl)
  where
    by : (o : Option NodeRev) → IsSome o → is_changed None (option_map (shared_entry j) o) ≡ true
    by None h = absurd (false≢true h)
    by (Some n) h = refl
theirs_changed look apart (Some i) None hb hy ne = by (look i) (hb i refl)
  where
    by : (o : Option NodeRev) → IsSome o → is_changed (option_map (shared_entry i) o) None ≡ true
    by None h = absurd (false≢true h)
    by (Some m) h = refl
theirs_changed look apart (Some i) (Some j) hb hy ne = by (look i) (look j) refl refl (hb i refl) (hy j refl)
  where
    marks : (m n : NodeRev) → look i ≡ Some m → look j ≡ Some n → (b : Bool) → same_mark (Made i.rev m.path) (Made j.rev n.path) ≡ b → not b ≡ true
    marks m n at_i at_j true same = absurd (ne (ap Some (same_node look apart i j m n at_i at_j same)))
    marks m n at_i at_j false same = refl

    by : (o p : Option NodeRev) → look i ≡ o → look j ≡ p → IsSome o → IsSome p → is_changed (option_map (shared_entry i) o) (option_map (shared_entry j) p) ≡ true
    by None p eo ep ho hp = absurd (false≢true ho)
    by (Some m) None eo ep ho hp = absurd (false≢true hp)
    by (Some m) (Some n) eo ep ho hp = marks m n eo ep (same_mark (Made i.rev m.path) (Made j.rev n.path)) refl

-- and so has the transaction, by what it has opened
ours_changed : (look : Look) (base : Option NodeId) (s : Entry) → s.last ≡ Open → is_changed (spot_tree look base []) (Some s) ≡ true
ours_changed look None s open_last = refl
ours_changed look (Some i) s open_last = by (look i)
  where
    by : (o : Option NodeRev) → is_changed (option_map (shared_entry i) o) (Some s) ≡ true
    by None = refl
    by (Some m) = ap (λ l. not (same_mark (Made i.rev m.path) l)) open_last

in_conflict : (a s t : Option Entry) → is_changed a s ≡ true → is_changed a t ≡ true → is_one_directory a s t ≡ false → is_in_conflict a s t ≡ true
in_conflict a s t ours theirs one =
    ap (λ b. (b && is_changed a t) && not (is_one_directory a s t)) ours
    ∙ ap (λ b. b && not (is_one_directory a s t)) theirs
    ∙ ap not one

-- an open node over what others have changed, unless it is one directory
pub opened_conflict : (look : Look) → AreApart look → (node : OpenNode) (base young : Option NodeId)
    → ((id : NodeId) → base ≡ Some id → IsThere look id) → ((id : NodeId) → young ≡ Some id → IsThere look id)
    → (base ≡ young → ⊥) → is_one_directory (spot_tree look base []) (Some (open_entry node)) (spot_tree look young []) ≡ false
    → is_in_conflict (spot_tree look base []) (Some (open_entry node)) (spot_tree look young []) ≡ true
opened_conflict look apart node base young hb hy ne one =
    in_conflict (spot_tree look base []) (Some (open_entry node)) (spot_tree look young [])
    (ours_changed look base (open_entry node) refl) (theirs_changed look apart base young hb hy ne) one

and_none : (x y : Bool) → (x && (false && y)) ≡ false
and_none true y = refl
and_none false y = refl

-- the transaction has changed the directory itself
pub not_one_own : (look : Look) (base : Option NodeId) (s : Entry) (t : Option Entry) → s.own ≡ Open → is_one_directory (spot_tree look base []) (Some s) t ≡ false
not_one_own look None s t own = refl
not_one_own look (Some i) s t own = by (look i) t
  where
    by : (o : Option NodeRev) (t : Option Entry) → is_one_directory (option_map (shared_entry i) o) (Some s) t ≡ false
    by None t = refl
    by (Some m) None = refl
    by (Some m) (Some z) =
        let x = shared_entry i m in
        ap (λ w. (is_directory x && is_directory s && is_directory z) && (same_mark x.own w && same_mark x.own z.own)) own
        ∙ and_none (is_directory x && is_directory s && is_directory z) (same_mark x.own z.own)

open_is : (m : Mark) → is_open_mark m ≡ true → m ≡ Open
open_is Open h = refl
open_is (Made r p) h = absurd (false≢true h)

-- a node that stands over another than the old one was put there
pub own_is_open : (look : Look) (node : OpenNode) (base : Option NodeId) → IsFit look base (Opened node) → (node.base ≡ base → ⊥) → node.own ≡ Open
own_is_open look node base fit ne = by (is_open_mark node.own) refl
  where
    by : (b : Bool) → is_open_mark node.own ≡ b → node.own ≡ Open
    by true opened = open_is node.own opened
    by false shut = absurd (ne (fit node refl shut))

-- three that are not one directory
pub not_one_here : (look : Look) (node : OpenNode) (base young : Option NodeId) (was theirs : NodeRev)
    → option_and_then look base ≡ Some was → option_and_then look young ≡ Some theirs → is_one node was theirs ≡ false
    → is_one_directory (spot_tree look base []) (Some (open_entry node)) (spot_tree look young []) ≡ false
not_one_here look node None young was theirs old now one = absurd (false≢true (ap is_some old))
not_one_here look node (Some i) None was theirs old now one = absurd (false≢true (ap is_some now))
not_one_here look node (Some i) (Some j) was theirs old now one =
    ap (λ o. is_one_directory (option_map (shared_entry i) o) (Some (open_entry node)) (spot_tree look (Some j) [])) old
    ∙ ap (λ o. is_one_directory (Some (shared_entry i was)) (Some (open_entry node)) (option_map (shared_entry j) o)) now
    ∙ one

-- a delete of what others have changed
pub gone_conflict : (look : Look) → AreApart look → (base young : Option NodeId) (s : Tree)
    → ((id : NodeId) → base ≡ Some id → IsThere look id) → ((id : NodeId) → young ≡ Some id → IsThere look id)
    → (base ≡ young → ⊥) → true ≡ is_some base → s [] ≡ None
    → is_in_conflict (spot_tree look base []) (s []) (spot_tree look young []) ≡ true
gone_conflict look apart None young s hb hy ne some none = absurd (false≢true (sym some))
gone_conflict look apart (Some i) young s hb hy ne some none =
    ap (λ o. is_in_conflict (spot_tree look (Some i) []) o (spot_tree look young [])) none
    ∙ in_conflict (spot_tree look (Some i) []) None (spot_tree look young []) (by (look i) (hb i refl))
    (theirs_changed look apart (Some i) young hb hy ne) (alone (spot_tree look (Some i) []) (spot_tree look young []))
  where
    by : (o : Option NodeRev) → IsSome o → is_changed (option_map (shared_entry i) o) None ≡ true
    by None h = absurd (false≢true h)
    by (Some m) h = refl

    alone : (a t : Option Entry) → is_one_directory a None t ≡ false
    alone None t = refl
    alone (Some x) t = refl

-- the path itself
pub conflict_here : (path : PathValue) (a s t : Tree) → is_in_conflict (a []) (s []) (t []) ≡ true → IsConflictUnder path a s t path
conflict_here path a s t h = ([], sym (append-nil path), h)

-- what an entry may be merged with, where its directory may
pub mergeable_entry : (look : Look) (node : OpenNode) (places kids : Places) (name : Component) (change : Change)
    → AreKidsThere look → changed_at node.changed name ≡ Some change → node.base ≡ places.base
    → kids.base ≡ kid_at look places.base name → kids.young ≡ kid_at look places.young name
    → IsMergeable look places (Opened node) → IsMergeable look kids (change_spot change)
mergeable_entry look node places kids name change closed here same was now may = record {
  base = λ id is. there places.base id (sym was ∙ is);
  young = λ id is. there places.young id (sym now ∙ is);
  based = λ q. subst (λ s. IsBased look s) led (λ r. may.based (name ∷ r)) q;
  over = λ n is shut. (may.based [] node refl).entries name n (led ∙ is) shut ∙ ap (λ b. kid_at look b name) same ∙ sym was;
}
  where
    led : step look name (Opened node) ≡ change_spot change
    led = ap (λ o. over o (shared_spot (kid_at look node.base name))) here

    there : (o : Option NodeId) (id : NodeId) → kid_at look o name ≡ Some id → IsThere look id
    there None id is = absurd (false≢true (ap is_some is))
    there (Some k) id is = closed k id name is

-- a conflict under an entry is one under its directory
pub conflict_above : (look : Look) (node : OpenNode) (places kids : Places) (path below : PathValue) (name : Component) (change : Change) (p : PathValue)
    → changed_at node.changed name ≡ Some change → below ≡ path ++ name ∷ []
    → kids.base ≡ kid_at look places.base name → kids.young ≡ kid_at look places.young name
    → IsConflictUnder below (spot_tree look kids.base) (flat look (change_spot change)) (spot_tree look kids.young) p
    → IsConflictUnder path (spot_tree look places.base) (flat look (Opened node)) (spot_tree look places.young) p
conflict_above look node places kids path below name change p here place was now (q, is, h) = (
  name ∷ q,
  is ∙ ap (λ b. b ++ q) place ∙ append_assoc path (name ∷ []) q,
  ap (λ t. is_in_conflict (t q) (flat look (Opened node) (name ∷ q)) (spot_tree look places.young (name ∷ q))) (beneath_shared look places.base name ∙ ap (spot_tree look) (sym was))
      ∙ ap (λ o. is_in_conflict (spot_tree look kids.base q) (flat look (over o (shared_spot (kid_at look node.base name))) q) (spot_tree look places.young (name ∷ q))) here
      ∙ ap (λ t. is_in_conflict (spot_tree look kids.base q) (flat look (change_spot change) q) (t q)) (beneath_shared look places.young name ∙ ap (spot_tree look) (sym now))
      ∙ h,
)

-- a refusal is handed on
pub conflict_on : (T U : Type 0) (fault : MergeFault) (P Q : PathValue → Type 0) → ((p : PathValue) → P p → Q p) → IfConflict {T = T} (Err fault) P → IfConflict {T = U} (Err fault) Q
conflict_on T U (Conflict p) P Q f h = f p h
conflict_on T U NoMemory P Q f h = h

-- under the root
pub conflict_at_root : (a s t : Tree) (root p : PathValue) → root ≡ [] → IsConflictUnder root a s t p → is_in_conflict (a p) (s p) (t p) ≡ true
conflict_at_root a s t root p top (q, is, h) = ap (λ x. is_in_conflict (a x) (s x) (t x)) (is ∙ ap (λ r. r ++ q) top) ∙ h

abbrev node_or : OpenNode → Spot → OpenNode
node_or n Nothing = n
node_or n (Shared id) = n
node_or n (Opened m) = m

pub root_fit : (look : Look) (root : OpenNode) (o : Option NodeId) → root.base ≡ o → IsFit look o (Opened root)
root_fit look root o same n is shut = ap (λ x. x.base) (sym (ap (node_or root) is)) ∙ same
