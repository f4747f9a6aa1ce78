-- What open nodes stand over.
use Rattle.std.proofs.Common.{◌≡◌, ℕ, Bool, true, false, List, [], ◌∷◌, ◌++◌, Option, Some, None, cond, refl, sym, ap, subst, ◌∙◌, option_and_then}
use Rattle.std.proofs.lemmas.Bool.{false≢true}
use Rattle.std.specs.{Prelude.{IsSome, if◌then◌else◌, slice_get}, BTreeMap.{BTreeMap, is_at}, Cmp.Lexicographic.slice_cmp, Ordering.nat_cmp}
use Rattle.svnpath.specs.{PathLaws.same_component_is, Paths.{Component, same_component}}
use Rattle.noderevs.specs.{Nodes.{IsThere, kid_at, Look}, declared.node_rev.NodeId.NodeId, declared.node_rev.NodeRev.NodeRev}
use Rattle.txntree.specs.{Spots.{Spot, changed_at, change_spot, shared_spot, over, step}, Spots.Spot.{Nothing, Shared, Opened}}
use Rattle.txntree.specs.{Bases.{Stands, IsBased, IsNew, IsFit, IsRootKept}, declared.open.OpenNode.OpenNode, declared.open.Change.Change}
use Rattle.txntree.specs.declared.open.Change.TheVariants.{Is}
use Rattle.repo_api.specs.Trees.{is_open_mark}
use Rattle.txntree.proofs.{Walking.is_spot, Names.at_is_name, Seals.some_again}

abbrev node_or : OpenNode → Spot → OpenNode
node_or n Nothing = n
node_or n (Shared id) = n
node_or n (Opened m) = m

-- no path leads from a shared node to an open one
pub shared_based : (look : Look) (o : Option NodeId) → IsBased look (shared_spot o)
shared_based look None [] m is = cc
shared_based look None (n ∷ q) m is = shared_based look None q m is
shared_based look (Some k) [] m is = cc
shared_based look (Some k) (n ∷ q) m is = shared_based look (kid_at look (Some k) n) q m is

pub nothing_based : (look : Look) → IsBased look Nothing
nothing_based look = shared_based look None

pub nothing_new : IsNew Nothing
nothing_new n is = cc

no_open : (o : Option NodeId) (n : OpenNode) → shared_spot o ≡ Opened n → ⊥
no_open None n is = cc
no_open (Some id) n is = cc

based_new : (look : Look) (new : OpenNode) → Stands look new → ((n : Component) → IsBased look (step look n (Opened new))) → IsBased look (Opened new)
based_new look new stands below [] m is = subst (Stands look) (ap (node_or new) is) stands
based_new look new stands below (n ∷ q) m is = below n q m is

-- with nothing changed beneath it
pub based_bare : (look : Look) (new : OpenNode) → ((id : NodeId) → new.base ≡ Some id → IsThere look id) → ((n : Component) → changed_at new.changed n ≡ None) → IsBased look (Opened new)
based_bare look new there none = based_new look new
    (record {
      base = there;
      entries = λ name n is shut. absurd (no_open (kid_at look new.base name) n (sym (ap (λ o. over o (shared_spot (kid_at look new.base name))) (none name)) ∙ is));
    })
    (λ n. subst (λ o. IsBased look (over o (shared_spot (kid_at look new.base n)))) (sym (none n)) (shared_based look (kid_at look new.base n)))

pub no_base : (look : Look) (id : NodeId) → None ≡ Some id → IsThere look id
no_base look id is = cc

abbrev there_if : Look → Option NodeId → Type 0
there_if look None = Unit {0}
there_if look (Some k) = IsThere look k

pub one_base : (look : Look) (id : NodeId) (node : NodeRev) → look id ≡ Some node → (other : NodeId) → Some id ≡ Some other → IsThere look other
one_base look id node there other is = subst (there_if look) is (subst (λ x. IsSome x) (sym there) refl)

pub new_fit : (look : Look) (kid : Option NodeId) (s : Spot) → IsNew s → IsFit look kid s
new_fit look kid s new n is shut = absurd (false≢true (sym shut ∙ new n is))

pub is_new : (n : OpenNode) → is_open_mark n.own ≡ true → IsNew (change_spot (Is n))
is_new n own m is = ap (λ x. is_open_mark x.own) (sym (ap (node_or n) (sym (is_spot n) ∙ is))) ∙ own

pub fit_over : (look : Look) (kid : Option NodeId) (n : OpenNode) → n.base ≡ kid → IsFit look kid (change_spot (Is n))
fit_over look kid n same m is shut = ap (λ x. x.base) (sym (ap (node_or n) (sym (is_spot n) ∙ is))) ∙ same

-- one entry changed
pub based_one : (look : Look) (old new : OpenNode) (name : Component) (change : Change) → new.base ≡ old.base
    → ((n : Component) → changed_at new.changed n ≡ (if same_component name n then Some change else changed_at old.changed n))
    → IsBased look (change_spot change) → IsFit look (kid_at look old.base name) (change_spot change) → IsBased look (Opened old) → IsBased look (Opened new)
based_one look old new name change same others one fit based =
    based_new look new
    (record {
      base = λ id is. stands.base id (sym same ∙ is);
      entries = λ n m is shut. kept n m (same_component name n) refl (sym (entries n) ∙ is) shut ∙ ap (λ b. kid_at look b n) (sym same);
    })
    (λ n. subst (IsBased look) (sym (entries n)) (by n (same_component name n)))
  where
    stands : Stands look old
    stands = based [] old refl

    entries : (n : Component) → step look n (Opened new) ≡ over (if same_component name n then Some change else changed_at old.changed n) (shared_spot (kid_at look old.base n))
    entries n = ap (λ o. over o (shared_spot (kid_at look new.base n))) (others n)
        ∙ ap (λ b. over (if same_component name n then Some change else changed_at old.changed n) (shared_spot (kid_at look b n))) same

    kept : (n : Component) (m : OpenNode) (b : Bool) → same_component name n ≡ b
        → over (if b then Some change else changed_at old.changed n) (shared_spot (kid_at look old.base n)) ≡ Opened m → is_open_mark m.own ≡ false → m.base ≡ kid_at look old.base n
    kept n m true here is shut = fit m is shut ∙ ap (kid_at look old.base) (same_component_is name n here)
    kept n m false apart is shut = stands.entries n m is shut

    by : (n : Component) (b : Bool) → IsBased look (over (if b then Some change else changed_at old.changed n) (shared_spot (kid_at look old.base n)))
    by n true = one
    by n false = λ q. based (n ∷ q)

-- the same entries
pub based_again : (look : Look) (old new : OpenNode) → new.base ≡ old.base → ((n : Component) → changed_at new.changed n ≡ changed_at old.changed n)
    → IsBased look (Opened old) → IsBased look (Opened new)
based_again look old new same others based =
    based_new look new
    (record {
      base = λ id is. stands.base id (sym same ∙ is);
      entries = λ n m is shut. stands.entries n m (sym (entries n) ∙ is) shut ∙ ap (λ b. kid_at look b n) (sym same);
    })
    (λ n. subst (IsBased look) (sym (entries n)) (λ q. based (n ∷ q)))
  where
    stands : Stands look old
    stands = based [] old refl

    entries : (n : Component) → step look n (Opened new) ≡ step look n (Opened old)
    entries n = ap (λ o. over o (shared_spot (kid_at look new.base n))) (others n) ∙ ap (λ b. over (changed_at old.changed n) (shared_spot (kid_at look b n))) same

pub based_entry : (look : Look) (old : OpenNode) (name : Component) (before : Change) → Some before ≡ changed_at old.changed name → IsBased look (Opened old) → IsBased look (change_spot before)
based_entry look old name before was based = subst (λ o. IsBased look (over o (shared_spot (kid_at look old.base name)))) (sym was) (λ q. based (name ∷ q))

-- an entry written over
pub based_written : (look : Look) (old new : OpenNode) (name : Component) (before after : Change) → new.base ≡ old.base
    → Some before ≡ changed_at old.changed name
    → ((n : Component) → changed_at new.changed n ≡ cond (is_at (slice_cmp nat_cmp name) n) (Some after) (changed_at old.changed n))
    → IsRootKept (change_spot before) (change_spot after)
    → (IsBased look (change_spot before) → IsBased look (change_spot after)) → IsBased look (Opened old) → IsBased look (Opened new)
based_written look old new name before after same was others root stays based =
    based_one look old new name after same (λ n. others n ∙ ap (λ b. cond b (Some after) (changed_at old.changed n)) (at_is_name name n))
    (stays (based_entry look old name before was based)) fit based
  where
    fit : IsFit look (kid_at look old.base name) (change_spot after)
    fit n is shut = from (root n is shut)
      where
        from : ((m : OpenNode) × (change_spot before ≡ Opened m) × (is_open_mark m.own ≡ false) × (n.base ≡ m.base)) → n.base ≡ kid_at look old.base name
        from (m, led, closed, base) = base ∙ (based [] old refl).entries name m (ap (λ o. over o (shared_spot (kid_at look old.base name))) (sym was) ∙ led) closed

-- maps that are written out: before and after
pub based_put : (look : Look) (old new : OpenNode) (l m : BTreeMap Component Change) (name : Component) (change : Change)
    → new.base ≡ old.base → new.changed ≡ m → l ≡ old.changed
    → ((n : Component) → changed_at m n ≡ (if same_component name n then Some change else changed_at l n))
    → IsBased look (change_spot change) → IsFit look (kid_at look old.base name) (change_spot change) → IsBased look (Opened old) → IsBased look (Opened new)
based_put look old new l m name change same map was others one fit based =
    based_one look old new name change same (λ n. ap (λ x. changed_at x n) map ∙ others n ∙ ap (λ x. if same_component name n then Some change else changed_at x n) was) one fit based

pub based_refused : (look : Look) (old new : OpenNode) (l m : BTreeMap Component Change)
    → new.base ≡ old.base → new.changed ≡ m → l ≡ old.changed → ((n : Component) → changed_at m n ≡ changed_at l n)
    → IsBased look (Opened old) → IsBased look (Opened new)
based_refused look old new l m same map was others based = based_again look old new same (λ n. ap (λ x. changed_at x n) map ∙ others n ∙ ap (λ x. changed_at x n) was) based

-- more blocks
pub longer : {X : Type 0} (xs ys : List X) (k : ℕ) (g : X → Option NodeRev) → IsSome (option_and_then g (slice_get xs k)) → option_and_then g (slice_get (xs ++ ys) k) ≡ option_and_then g (slice_get xs k)
longer {X = X} xs ys k g there = by (slice_get xs k) refl there
  where
    by : (o : Option X) → slice_get xs k ≡ o → IsSome (option_and_then g o) → option_and_then g (slice_get (xs ++ ys) k) ≡ option_and_then g (slice_get xs k)
    by None is there = absurd (false≢true there)
    by (Some x) is there = ap (option_and_then g) (some_again xs ys k (Some x) is refl ∙ sym is)
