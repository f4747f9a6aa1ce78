-- What the heights of nodes say of what lies beneath them, and how the height of a node is found.
use Rattle.std.proofs.Common.{◌≡◌, ℕ, zero, suc, ◌<◌, ◌≤◌, ◌-◌, ◌+◌, Bool, true, false, cond, List, [], ◌∷◌, Option, Some, None, option_map, option_and_then}
use Rattle.std.proofs.{Common.{length, is_some, refl, sym, ap, subst, ◌∙◌, arith, rules, ◌⊎◌, inl, inr, ⊎_elim}, lemmas.Bool.{false≢true, cases_lt}}
use Rattle.std.proofs.Math.Nat.{min-le_left, min-eq_left, min-eq_right}
use Rattle.std.specs.{BTreeMap.is_at, FinMap.{entries, get-entries}, FinMap.Entries.find, Cmp.Lexicographic.{slice_cmp, texts_ties}, List.AllByRecursion}
use Rattle.std.specs.{List.Sorted.IsStrictlySortedBy, Map.keys_of, Ordering.{nat_cmp, is_eq}, Prelude.{ltb, IfSome, IsSomeAnd}}
use Rattle.std.specs.declared.cmp.Ordering.TheVariants.{Less}
use Rattle.svnpath.specs.{PathLaws.{same_component_is, same_component_refl}, Paths.{Component, PathValue, same_component}}
use Rattle.noderevs.specs.{Beneath.IsShallow, Heights.{higher, IsEnough, IsHeight, AreHigh}, Nodes.{Look, Kids, kid_of, kid_named, IsThere}}
use Rattle.noderevs.specs.{Soundness.AreKidsThere, Views.{shared_entry, shared_tree}, declared.node_rev.NodeId.NodeId, declared.node_rev.NodeRev.NodeRev}
use Rattle.noderevs.proofs.Finding.{nothing_under}

-- ---- what a height says

higher_cases : (h : ℕ) → (higher h ≡ h + 1) ⊎ (higher h ≡ 4294967295)
higher_cases h = ⊎_elim (λ lt. inl (min-eq_left (omega (arith, lt)))) (λ ge. inr (min-eq_right ge))
    (cases_lt (h + 1) 4294967295)

one_less : (h low names : ℕ) → higher h ≤ low → low ≤ names → names < 4294967295 → h ≤ names - 1
one_less h low names over le few =
    ⊎_elim (λ e. omega (arith, e, over, le)) (λ e. absurd (omega (arith, e, over, le, few)))
    (higher_cases h)

-- there is an entry where something has a height over entries
above : (h low names : ℕ) → higher h ≤ low → low ≤ names → names < 4294967295 → 0 < names
above h low names over le few =
    ⊎_elim (λ e. omega (arith, e, over, le)) (λ e. absurd (omega (arith, e, over, le, few)))
    (higher_cases h)

at_kid : (look : Look) (id : NodeId) (node : NodeRev) (name : Component) (o : Option NodeId)
    → look id ≡ Some node → kid_named node.kids name ≡ o → (rest : PathValue)
    → shared_tree look (Some id) (name ∷ rest) ≡ shared_tree look o rest
at_kid look id node name o here named rest =
    ap (λ n. shared_tree look (option_and_then (kid_of name) n) rest) here
    ∙ ap (λ k. shared_tree look k rest) named

abbrev IsLow : Look → ℕ → NodeId → Type 0
IsLow look names id =
    (node : NodeRev) → look id ≡ Some node → IsShallow (shared_tree look (Some id)) [] names → node.height ≤ names

-- nothing lies beneath an entry that lies deeper than its directory's
shallower : (look : Look) (id : NodeId) (node : NodeRev) (name : Component) (kid : NodeId) (names : ℕ)
    → look id ≡ Some node → kid_named node.kids name ≡ Some kid → IsShallow (shared_tree look (Some id)) [] (suc names)
    → IsShallow (shared_tree look (Some kid)) [] names
shallower look id node name kid names here named shallow rest lt =
    sym (at_kid look id node name (Some kid) here named rest) ∙ shallow (name ∷ rest) (omega (arith, lt))

no_entry : (look : Look) (id kid : NodeId) (node m : NodeRev) (name : Component) → look id ≡ Some node
    → kid_named node.kids name ≡ Some kid → look kid ≡ Some m → IsShallow (shared_tree look (Some id)) [] 0 → ⊥
no_entry look id kid node m name here named found shallow =
    false≢true (ap is_some (sym (shallow (name ∷ []) (omega arith))
    ∙ at_kid look id node name (Some kid) here named [] ∙ ap (option_map (shared_entry kid)) found))

no_higher : (h names : ℕ) → h ≤ names → higher h ≤ suc names
no_higher h names le = let over = min-le_left (h + 1) 4294967295 in omega (arith, le, over)

-- where nothing lies deeper, the height is not greater
pub low : (look : Look) → AreHigh look → (names : ℕ) (id : NodeId) → IsLow look names id
low look high zero id node here shallow =
    (high id node here).least 0
    (λ name kid m named found. absurd (no_entry look id kid node m name here named found shallow))
low look high (suc names) id node here shallow =
    (high id node here).least (suc names)
    (λ name kid m named found. no_higher m.height names
    (low look high names kid m found (shallower look id node name kid names here named shallow)))

abbrev IsNoneAt : Look → PathValue → ℕ → NodeId → Type 0
IsNoneAt look rest names id =
    (node : NodeRev) → look id ≡ Some node → node.height ≤ names → names < 4294967295
    → names < length rest → shared_tree look (Some id) rest ≡ None

none_next : (look : Look) (id : NodeId) (node : NodeRev) (names : ℕ) (name : Component) (rest : PathValue)
    → AreKidsThere look → look id ≡ Some node → IsHeight look node.kids node.height → node.height ≤ names
    → names < 4294967295 → names < suc (length rest) → (o : Option NodeId) → kid_named node.kids name ≡ o
    → ((kid : NodeId) → IsNoneAt look rest (names - 1) kid)
    → shared_tree look (Some id) (name ∷ rest) ≡ None
none_next look id node names name rest closed here high low few lt None named below =
    at_kid look id node name None here named rest ∙ nothing_under look rest
none_next look id node names name rest closed here high low few lt (Some kid) named below =
    at_kid look id node name (Some kid) here named rest ∙ by (look kid) refl
  where
    there : IsThere look kid
    there = closed id kid name (ap (option_and_then (kid_of name)) here ∙ named)

    by : (o : Option NodeRev) → look kid ≡ o → shared_tree look (Some kid) rest ≡ None
    by None is = absurd (false≢true (sym (ap is_some is) ∙ there))
    by (Some m) is =
        let over = high.enough name kid m named is in
        let some = above m.height node.height names over low few in
        below kid m is (one_less m.height node.height names over low few) (omega (arith, few))
        (omega (arith, lt, some))

-- nothing lies deeper than the height
pub none_deeper : (look : Look) → AreKidsThere look → AreHigh look → (rest : PathValue) (names : ℕ) (id : NodeId)
    → IsNoneAt look rest names id
none_deeper look closed high [] names id node here low few lt = absurd (omega (arith, lt))
none_deeper look closed high (name ∷ rest) names id node here low few lt =
    none_next look id node names name rest closed here (high id node here) low few lt
    (kid_named node.kids name) refl (λ kid. none_deeper look closed high rest (names - 1) kid)

pub not_less : (a b : ℕ) → ltb a b ≡ false → b ≤ a
not_less a b is = search (rules, arith, is)

pub less_is_false : (a b : ℕ) → b ≤ a → ltb a b ≡ false
less_is_false a b le = search (rules, arith, le)

-- the same of the node that a path leads to
pub low_at : (look : Look) → AreHigh look → (names : ℕ) (o : Option NodeId) (node : NodeRev)
    → option_and_then look o ≡ Some node → IsShallow (shared_tree look o) [] names → node.height ≤ names
low_at look high names None node there shallow = absurd (false≢true (ap is_some there))
low_at look high names (Some id) node there shallow = low look high names id node there shallow

pub none_deeper_at : (look : Look) → AreKidsThere look → AreHigh look → (rest : PathValue) (names : ℕ)
    (o : Option NodeId) (node : NodeRev) → option_and_then look o ≡ Some node → node.height ≤ names
    → names < 4294967295 → names < length rest → shared_tree look o rest ≡ None
none_deeper_at look closed high rest names None node there le few lt = nothing_under look rest
none_deeper_at look closed high rest names (Some id) node there le few lt =
    none_deeper look closed high rest names id node there le few lt

pub none_at : (look : Look) (o : Option NodeId) → option_and_then look o ≡ None → (rest : PathValue)
    → shared_tree look o rest ≡ None
none_at look None there rest = nothing_under look rest
none_at look (Some id) there [] = ap (option_map (shared_entry id)) there
none_at look (Some id) there (name ∷ rest) =
    ap (λ n. shared_tree look (option_and_then (kid_of name) n) rest) there ∙ nothing_under look rest

-- ---- how a height is found, entry by entry

abbrev pub kid_among : List (Component × NodeId) → Component → Option NodeId
kid_among kids n = find (slice_cmp nat_cmp) n kids

-- the height over the entries that are not left any more
pub record IsRising (look : Look) (kids : Kids) (height : ℕ)
    (left : List (Component × NodeId)) : Type 0 where
  pub sorted : IsStrictlySortedBy (slice_cmp nat_cmp) (keys_of left)
  pub among : (n : Component) (k : NodeId) → kid_among left n ≡ Some k → kid_named kids n ≡ Some k
  pub done : (n : Component) (k : NodeId) (m : NodeRev) → kid_named kids n ≡ Some k → look k ≡ Some m
      → (kid_among left n ≡ Some k) ⊎ (higher m.height ≤ height)
  pub least : (n : ℕ) → IsEnough look kids n → height ≤ n

at_name : (name n : Component) → is_at (slice_cmp nat_cmp name) n ≡ same_component name n
at_name name n = sym (texts_ties name n)

in_order : (name : Component) (kids : List (Component × NodeId))
    → AllByRecursion (λ n. slice_cmp nat_cmp name n ≡ Less) (keys_of kids) → kid_among kids name ≡ None
in_order name [] below = refl
in_order name (e ∷ kids) below =
    ap (λ o. cond (is_eq o) (Some e.1) (kid_among kids name)) below.0 ∙ in_order name kids below.1

first_none : (name : Component) (kid : NodeId) (kids : List (Component × NodeId))
    → IsStrictlySortedBy (slice_cmp nat_cmp) (keys_of ((name, kid) ∷ kids)) → kid_among kids name ≡ None
unfolding IsStrictlySortedBy
first_none name kid kids sorted = in_order name kids sorted.0

sorted_rest : (e : Component × NodeId) (kids : List (Component × NodeId))
    → IsStrictlySortedBy (slice_cmp nat_cmp) (keys_of (e ∷ kids))
    → IsStrictlySortedBy (slice_cmp nat_cmp) (keys_of kids)
unfolding IsStrictlySortedBy
sorted_rest e kids sorted = sorted.1

abbrev or_else : {X : Type 0} → X → Option X → X
or_else d None = d
or_else d (Some x) = x

-- before the first entry
pub rising_begins : (look : Look) (kids : Kids) (left : List (Component × NodeId))
    → left ≡ entries kids → IsStrictlySortedBy (slice_cmp nat_cmp) (keys_of left) → IsRising look kids 0 left
rising_begins look kids left all sorted = record {
  sorted = sorted;
  among = λ n k is. get-entries kids n ∙ ap (λ es. kid_among es n) (sym all) ∙ is;
  done = λ n k m is there. inl (ap (λ es. kid_among es n) all ∙ sym (get-entries kids n) ∙ is);
  least = λ n enough. omega arith;
}

-- one entry more
pub rising_goes_on : (look : Look) (kids : Kids) (old new : ℕ) (name : Component)
    (kid : NodeId) (left : List (Component × NodeId)) → IsRising look kids old ((name, kid) ∷ left)
    → old ≤ new → IfSome (look kid) (λ m. higher m.height ≤ new)
    → (new ≡ old) ⊎ IsSomeAnd (look kid) (λ m. new ≡ higher m.height) → IsRising look kids new left
rising_goes_on look kids old new name kid left so more over one = record {
  sorted = sorted_rest (name, kid) left so.sorted;
  among = λ n k is. so.among n k (kept n k is (is_at (slice_cmp nat_cmp n) name) refl);
  done = λ n k m is there. by n k m there (so.done n k m is there) (is_at (slice_cmp nat_cmp n) name) refl;
  least = λ n enough. least n enough one;
}
  where
    kept : (n : Component) (k : NodeId) → kid_among left n ≡ Some k → (b : Bool)
        → is_at (slice_cmp nat_cmp n) name ≡ b → kid_among ((name, kid) ∷ left) n ≡ Some k
    kept n k is true here =
        absurd (false≢true (ap is_some (sym (first_none name kid left so.sorted)
        ∙ ap (λ m. kid_among left m) (sym (same_component_is n name (sym (at_name n name) ∙ here))) ∙ is)))
    kept n k is false apart = ap (λ b. cond b (Some kid) (kid_among left n)) apart ∙ is

    by : (n : Component) (k : NodeId) (m : NodeRev) → look k ≡ Some m
        → (kid_among ((name, kid) ∷ left) n ≡ Some k) ⊎ (higher m.height ≤ old) → (b : Bool)
        → is_at (slice_cmp nat_cmp n) name ≡ b → (kid_among left n ≡ Some k) ⊎ (higher m.height ≤ new)
    by n k m there (inr low) b at = inr (omega (arith, low, more))
    by n k m there (inl is) true here =
        inr (subst (λ o. IfSome o (λ x. higher x.height ≤ new))
        (ap look (ap (or_else kid) (sym (ap (λ b. cond b (Some kid) (kid_among left n)) here) ∙ is)) ∙ there)
        over)
    by n k m there (inl is) false apart =
        inl (sym (ap (λ b. cond b (Some kid) (kid_among left n)) apart) ∙ is)

    first_is : kid_among ((name, kid) ∷ left) name ≡ Some kid
    first_is = ap (λ b. cond b (Some kid) (kid_among left name)) (at_name name name ∙ same_component_refl name)

    this : (n : ℕ) → IsEnough look kids n → (o : Option NodeRev) → look kid ≡ o
        → IsSomeAnd o (λ m. new ≡ higher m.height) → new ≤ n
    this n enough None is h = absurd h
    this n enough (Some m) is h = subst (λ x. x ≤ n) (sym h) (enough name kid m (so.among name kid first_is) is)

    least : (n : ℕ) → IsEnough look kids n → (new ≡ old) ⊎ IsSomeAnd (look kid) (λ m. new ≡ higher m.height)
        → new ≤ n
    least n enough (inl same) = subst (λ x. x ≤ n) (sym same) (so.least n enough)
    least n enough (inr h) = this n enough (look kid) refl h

-- after the last
pub rising_ends : (look : Look) (kids : Kids) (height : ℕ) (left : List (Component × NodeId))
    → left ≡ [] → IsRising look kids height left → IsHeight look kids height
rising_ends look kids height left end so = record {
  enough = λ n k m is there. by n k m (so.done n k m is there);
  least = so.least;
}
  where
    by : (n : Component) (k : NodeId) (m : NodeRev) → (kid_among left n ≡ Some k) ⊎ (higher m.height ≤ height)
        → higher m.height ≤ height
    by n k m (inr low) = low
    by n k m (inl found) = absurd (false≢true (ap is_some (ap (λ es. kid_among es n) (sym end) ∙ found)))
