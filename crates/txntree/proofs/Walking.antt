-- A change beneath a name, from what it makes of the entry of that name.
use Rattle.std.proofs.Common.{◌≡◌, Bool, true, false, [], ◌∷◌, Option, Some, None, option_map, cond, refl, sym, ap, subst, ◌∙◌, ◌⊎◌, inr, rules}
use Rattle.std.specs.{Prelude.if◌then◌else◌, BTreeMap.{BTreeMap, is_at}, Cmp.Lexicographic.slice_cmp, Ordering.nat_cmp, Arc.arc_value}
use Rattle.txntree.proofs.Names.{at_is_name}
use Rattle.svnpath.specs.{PathLaws.same_component_is, Paths.{Component, PathValue, same_component}}
use Rattle.repo_api.specs.{Edits.{begun, new_entry, revised, touched, with_open_mark, with_value, without_value}, Trees.Tree, declared.entry.Content.Content}
use Rattle.repo_api.specs.declared.entry.Entry.{Entry}
use Rattle.repo_api.specs.declared.entry.Mark.TheVariants as marks
use Rattle.txntree.specs.{Laws.leaf, Spots.{changed_at, change_spot, shared_spot, over, step, find, entry, flat, open_entry}}
use Rattle.txntree.specs.{Spots.Spot.{Nothing, Shared, Opened}, Walks.{down, beneath, at_path, made_there, with_content, Lacks}, declared.open.Local.Local}
use Rattle.txntree.specs.{declared.open.OpenNode.OpenNode, declared.open.Change.Change, declared.open.Change.TheVariants.{Is, Gone}}
use Rattle.txntree.specs.declared.open.Change.TheViews.{the_lemmas}
use Rattle.noderevs.specs.{Nodes.{kid_at, Look}, Views.shared_entry, declared.node_rev.NodeId.NodeId, declared.node_rev.NodeRev.NodeRev}
use Rattle.txntree.specs.declared.open.Local.TheVariants as local

-- the new node differs from the old in one entry alone
pub branch : (look : Look) (old new : OpenNode) (name : Component) (change : Change) (f : Tree → Tree)
    → open_entry new ≡ open_entry old → new.base ≡ old.base
    → ((n : Component) → changed_at new.changed n ≡ (if same_component name n then Some change else changed_at old.changed n))
    → ((q : PathValue) → flat look (change_spot change) q ≡ f (flat look (step look name (Opened old))) q)
    → (q : PathValue) → flat look (Opened new) q ≡ down name f (flat look (Opened old)) q
branch look old new name change f same base others below [] = ap Some same
branch look old new name change f same base others below (n ∷ q) =
    ap (λ o. entry look (find look q (over o (shared_spot (kid_at look new.base n))))) (others n)
    ∙ ap (λ b. entry look (find look q (over (if same_component name n then Some change else changed_at old.changed n) (shared_spot (kid_at look b n))))) base
    ∙ by (same_component name n) refl
  where
    by : (b : Bool) → same_component name n ≡ b
        → entry look (find look q (over (if b then Some change else changed_at old.changed n) (shared_spot (kid_at look old.base n))))
        ≡ (if b then f (beneath name (flat look (Opened old))) q else flat look (Opened old) (n ∷ q))
    by true here = below q
    by false apart = refl

-- the same entries
pub alike : (look : Look) (old new : OpenNode)
    → open_entry new ≡ open_entry old → new.base ≡ old.base
    → ((n : Component) → (q : PathValue) → entry look (find look q (over (changed_at new.changed n) (shared_spot (kid_at look old.base n)))) ≡ flat look (Opened old) (n ∷ q))
    → (q : PathValue) → flat look (Opened new) q ≡ flat look (Opened old) q
alike look old new same base others [] = ap Some same
alike look old new same base others (n ∷ q) =
    ap (λ b. entry look (find look q (over (changed_at new.changed n) (shared_spot (kid_at look b n))))) base ∙ others n q

-- the entry of an open node is what it has of its own
pub same_entry : (old new : OpenNode) → arc_value new.content ≡ arc_value old.content → arc_value new.properties ≡ arc_value old.properties
    → new.own ≡ old.own → open_entry new ≡ open_entry old
same_entry old new content properties own =
    λ i. record { content = content i; properties = properties i; own = own i; last = marks.Open }

-- a shared node with nothing changed beneath it
pub opened_over : (look : Look) (id : NodeId) (node : NodeRev) (new : OpenNode)
    → look id ≡ Some node → touched (shared_entry id node) ≡ open_entry new → new.base ≡ Some id
    → ((n : Component) → changed_at new.changed n ≡ None)
    → (q : PathValue) → flat look (Opened new) q ≡ begun (flat look (Shared id)) q
opened_over look id node new there same base none [] =
    ap Some (sym same) ∙ ap (λ o. option_map touched (option_map (shared_entry id) o)) (sym there)
opened_over look id node new there same base none (n ∷ q) =
    ap (λ o. entry look (find look q (over o (shared_spot (kid_at look new.base n))))) (none n)
    ∙ ap (λ b. entry look (find look q (shared_spot (kid_at look b n)))) base

-- the entry of a name written over
pub branch_written : (look : Look) (old new : OpenNode) (name : Component) (before after : Change) (f : Tree → Tree)
    → open_entry new ≡ open_entry old → new.base ≡ old.base
    → Some before ≡ changed_at old.changed name
    → ((n : Component) → changed_at new.changed n ≡ cond (is_at (slice_cmp nat_cmp name) n) (Some after) (changed_at old.changed n))
    → ((q : PathValue) → flat look (change_spot after) q ≡ f (flat look (change_spot before)) q)
    → (q : PathValue) → flat look (Opened new) q ≡ down name f (flat look (Opened old)) q
branch_written look old new name before after f same base was others below =
    branch look old new name after f same base
    (λ n. others n ∙ ap (λ b. cond b (Some after) (changed_at old.changed n)) (at_is_name name n))
    (λ q. below q ∙ ap (λ o. f (λ r. entry look (find look r (over o (shared_spot (kid_at look old.base name))))) q) was)

-- and left as it was
pub branch_kept : (look : Look) (old new : OpenNode) (name : Component) (before after : Change)
    → open_entry new ≡ open_entry old → new.base ≡ old.base
    → Some before ≡ changed_at old.changed name
    → ((n : Component) → changed_at new.changed n ≡ cond (is_at (slice_cmp nat_cmp name) n) (Some after) (changed_at old.changed n))
    → ((q : PathValue) → flat look (change_spot after) q ≡ flat look (change_spot before) q)
    → (q : PathValue) → flat look (Opened new) q ≡ flat look (Opened old) q
branch_kept look old new name before after same base was others below =
    alike look old new same base (λ n q.
    ap (λ o. entry look (find look q (over o (shared_spot (kid_at look old.base n))))) (others n ∙ ap (λ b. cond b (Some after) (changed_at old.changed n)) (at_is_name name n))
    ∙ by n q (same_component name n) refl)
  where
    by : (n : Component) (q : PathValue) (b : Bool) → same_component name n ≡ b
        → entry look (find look q (over (cond b (Some after) (changed_at old.changed n)) (shared_spot (kid_at look old.base n)))) ≡ flat look (Opened old) (n ∷ q)
    by n q true here =
        below q ∙ ap (λ o. entry look (find look q (over o (shared_spot (kid_at look old.base name))))) was
        ∙ ap (λ m. flat look (Opened old) (m ∷ q)) (same_component_is name n here)
    by n q false apart = refl

-- a node of a transaction put where a shared one stood, which it stands over
pub branch_opened : (look : Look) (old new : OpenNode) (name : Component) (id : NodeId) (node after : OpenNode) (change : Change) (f : Tree → Tree)
    → open_entry new ≡ open_entry old → new.base ≡ old.base
    → changed_at old.changed name ≡ None → kid_at look old.base name ≡ Some id
    → ((n : Component) → changed_at new.changed n ≡ (if same_component name n then Some change else changed_at old.changed n))
    → change_spot change ≡ Opened after
    → ((q : PathValue) → flat look (Opened node) q ≡ begun (flat look (Shared id)) q)
    → ((q : PathValue) → flat look (Opened after) q ≡ f (flat look (Opened node)) q)
    → ((t : Tree) (q : PathValue) → f (begun t) q ≡ f t q)
    → (q : PathValue) → flat look (Opened new) q ≡ down name f (flat look (Opened old)) q
branch_opened look old new name id node after change f same base none kid others is opened below again =
    branch look old new name change f same base others
    (λ q. ap (λ s. flat look s q) is ∙ below q ∙ ap (λ t. f t q) (λ i r. opened r i) ∙ again (flat look (Shared id)) q
    ∙ ap (λ o. f (flat look (shared_spot o)) q) (sym kid)
    ∙ ap (λ o. f (λ r. entry look (find look r (over o (shared_spot (kid_at look old.base name))))) q) (sym none))

-- a change that is an open node leads to it
pub is_spot : (n : OpenNode) → change_spot (Is n) ≡ Opened n
is_spot n = search (rules, the_lemmas)

pub gone_spot : change_spot Gone ≡ Nothing
gone_spot = search (rules, the_lemmas)

-- the same, of maps that are written out: before and after
pub put_opened : (look : Look) (old new : OpenNode) (l m : BTreeMap Component Change) (name : Component) (id : NodeId) (node after : OpenNode) (change : Change) (f : Tree → Tree)
    → open_entry new ≡ open_entry old → new.base ≡ old.base → new.changed ≡ m → l ≡ old.changed
    → changed_at old.changed name ≡ None → kid_at look old.base name ≡ Some id
    → ((n : Component) → changed_at m n ≡ (if same_component name n then Some change else changed_at l n))
    → change_spot change ≡ Opened after
    → ((q : PathValue) → flat look (Opened node) q ≡ begun (flat look (Shared id)) q)
    → ((q : PathValue) → flat look (Opened after) q ≡ f (flat look (Opened node)) q)
    → ((t : Tree) (q : PathValue) → f (begun t) q ≡ f t q)
    → (q : PathValue) → flat look (Opened new) q ≡ down name f (flat look (Opened old)) q
put_opened look old new l m name id node after change f same base map was none kid others is opened below again =
    branch_opened look old new name id node after change f same base none kid
    (λ n. ap (λ x. changed_at x n) map ∙ others n ∙ ap (λ x. if same_component name n then Some change else changed_at x n) was) is opened below again

pub put_refused : (look : Look) (old new : OpenNode) (l m : BTreeMap Component Change)
    → open_entry new ≡ open_entry old → new.base ≡ old.base → new.changed ≡ m → l ≡ old.changed
    → ((n : Component) → changed_at m n ≡ changed_at l n)
    → (q : PathValue) → flat look (Opened new) q ≡ flat look (Opened old) q
put_refused look old new l m same base map was others =
    alike look old new same base (λ n q. ap (λ o. entry look (find look q (over o (shared_spot (kid_at look old.base n))))) (ap (λ x. changed_at x n) map ∙ others n ∙ ap (λ x. changed_at x n) was))

twice : (o : Option Entry) → option_map touched (option_map touched o) ≡ option_map touched o
twice None = refl
twice (Some e) = refl

here_twice : (f : Entry → Entry) → ((e : Entry) → f (touched e) ≡ touched (f e)) → (o : Option Entry) → option_map (λ e. with_open_mark (f e)) (option_map touched o) ≡ option_map (λ e. with_open_mark (f e)) o
here_twice f apart None = refl
here_twice f apart (Some e) = ap (λ x. Some (with_open_mark x)) (apart e)

-- a change under a node opens it anyway
pub opened_first : (look : Look) (path : PathValue) (change : Local) (t : Tree) (q : PathValue) → at_path path (made_there look change) (begun t) q ≡ at_path path (made_there look change) t q
opened_first look [] (local.Entry name to) t [] = twice (t [])
opened_first look [] (local.Entry name to) t (n ∷ q) = refl
opened_first look [] (local.Content content) t [] = here_twice (with_content (arc_value content)) (λ e. refl) (t [])
opened_first look [] (local.Content content) t (n ∷ q) = refl
opened_first look [] (local.SetProperty name value) t [] = here_twice (with_value name value) (λ e. refl) (t [])
opened_first look [] (local.SetProperty name value) t (n ∷ q) = refl
opened_first look [] (local.RemoveProperty name) t [] = here_twice (without_value name) (λ e. refl) (t [])
opened_first look [] (local.RemoveProperty name) t (n ∷ q) = refl
opened_first look (name ∷ path) change t [] = twice (t [])
opened_first look (name ∷ path) change t (n ∷ q) = refl

-- what a path lacks in a node that stands over a shared one
pub lacks_before : (path : PathValue) (t : Tree) → Lacks path (begun t) → Lacks path t
lacks_before [] t h = h
lacks_before (name ∷ path) t h = h

pub lacks_beneath : (look : Look) (old : OpenNode) (name : Component) (path : PathValue) (change : Change)
    → Some change ≡ changed_at old.changed name
    → (flat look (change_spot change) [] ≡ None) ⊎ Lacks path (flat look (change_spot change))
    → Lacks (name ∷ path) (flat look (Opened old))
lacks_beneath look old name path change was h =
    subst (λ o. (flat look (over o (shared_spot (kid_at look old.base name))) [] ≡ None) ⊎ Lacks path (flat look (over o (shared_spot (kid_at look old.base name))))) was h

pub lacks_shared : (look : Look) (old : OpenNode) (name : Component) (path : PathValue) (id : NodeId) (node : OpenNode)
    → changed_at old.changed name ≡ None → kid_at look old.base name ≡ Some id
    → ((q : PathValue) → flat look (Opened node) q ≡ begun (flat look (Shared id)) q)
    → Lacks path (flat look (Opened node)) → Lacks (name ∷ path) (flat look (Opened old))
lacks_shared look old name path id node none kid opened h =
    subst (λ o. (flat look (over o (shared_spot (kid_at look old.base name))) [] ≡ None) ⊎ Lacks path (flat look (over o (shared_spot (kid_at look old.base name))))) (sym none)
    (subst (λ o. (flat look (shared_spot o) [] ≡ None) ⊎ Lacks path (flat look (shared_spot o))) (sym kid)
    (inr (lacks_before path (flat look (Shared id)) (subst (Lacks path) (λ i r. opened r i) h))))

pub nothing_there : (look : Look) (q : PathValue) → flat look Nothing q ≡ None
nothing_there look [] = refl
nothing_there look (n ∷ q) = nothing_there look q

-- a new node
pub fresh_leaf : (look : Look) (content : Content) (new : OpenNode) → open_entry new ≡ new_entry content → new.base ≡ None
    → ((n : Component) → changed_at new.changed n ≡ None) → (q : PathValue) → flat look (Opened new) q ≡ leaf content q
fresh_leaf look content new same base none [] = ap Some same
fresh_leaf look content new same base none (n ∷ q) =
    ap (λ o. entry look (find look q (over o (shared_spot (kid_at look new.base n))))) (none n)
    ∙ ap (λ b. entry look (find look q (shared_spot (kid_at look b n)))) base
    ∙ nothing_there look q

nowhere : (look : Look) (q : PathValue) → find look q Nothing ≡ Nothing
nowhere look [] = refl
nowhere look (n ∷ q) = nowhere look q

pub lost : (look : Look) (id : NodeId) (name : Component) (path : PathValue) → kid_at look (Some id) name ≡ None → find look (name ∷ path) (Shared id) ≡ Nothing
lost look id name path none = ap (λ o. find look path (shared_spot o)) none ∙ nowhere look path

opened_again : (o : Option Entry) → option_map with_open_mark (option_map touched o) ≡ option_map with_open_mark o
opened_again None = refl
opened_again (Some e) = refl

-- a copy's own two marks are open
pub copy_is : (look : Look) (id : NodeId) (node new : OpenNode) → ((q : PathValue) → flat look (Opened node) q ≡ begun (flat look (Shared id)) q)
    → open_entry new ≡ with_open_mark (open_entry node) → new.base ≡ node.base → new.changed ≡ node.changed
    → (q : PathValue) → flat look (Opened new) q ≡ revised (flat look (Shared id)) [] (λ e. e) q
copy_is look id node new over_it own base changed [] = ap Some own ∙ ap (option_map with_open_mark) (over_it []) ∙ opened_again (flat look (Shared id) [])
copy_is look id node new over_it own base changed (n ∷ q) =
    ap (λ b. entry look (find look q (over (changed_at new.changed n) (shared_spot (kid_at look b n))))) base
    ∙ ap (λ m. entry look (find look q (over (changed_at m n) (shared_spot (kid_at look node.base n))))) changed
    ∙ over_it (n ∷ q)
