-- Laws of merged maps, for the crates above.
use Rattle.std.proofs.Common.{◌≡◌, ◌⊎◌, inl, inr, ⊎_elim, ℕ, Bool, true, false, cond, ◌||◌, List, [], ◌∷◌, ◌++◌, Option, Some, None, is_some, option_map, refl}
use Rattle.std.proofs.{Common.{sym, ap, ◌∙◌}, lemmas.Bool.false≢true, lemmas.List.Elements.{Contains-append_left, Contains-append_right}}
use Rattle.std.proofs.{lemmas.List.Folds.list_any_at, lemmas.Map.Views.{list_any-from_Contains, Contains-from_any}}
use Rattle.std.specs.{Cmp.eq_by_cmp_equiv, FinMap.{get, keys, get-insert, get-empty, contains_key-keys}, List.list_any, Ordering.eq_by_cmp}
use Rattle.std.specs.Prelude.{if◌then◌else◌, IsSome, Contains}
use Rattle.svnpath.specs.{PathLaws.at_is, Paths.{path_cmp, path_cmp_total, PathValue}}
use Rattle.repo_api.specs.{Trees.Tree, Merge.{is_in_conflict, is_untouched, changed_beneath, sealed, merged_entry, merged, HasNoConflict}}
use Rattle.repo_api.specs.{MergedMaps.{has_conflict, with_entry, map_of, merged_map}, States.{TreeMap, tree_of}, declared.entry.Entry.Entry}

get-with_entry : (m : TreeMap) (t : Tree) (p q : PathValue) (rest : Bool) (o : Option Entry) (b : Bool) → t p ≡ o → eq_by_cmp path_cmp q p ≡ b
    → get m q ≡ (if rest then t q else None)
    → get (with_entry m p o) q ≡ (if b || rest then t q else None)
get-with_entry m t p q rest None true is same ih = ih ∙ by rest
  where
    none : t q ≡ None
    none = ap t (at_is q p same) ∙ is

    by : (rest : Bool) → (if rest then t q else None) ≡ t q
    by true = refl
    by false = sym none
get-with_entry m t p q rest None false is same ih = ih
get-with_entry m t p q rest (Some e) true is same ih =
    get-insert path_cmp_total m p e q ∙ ap (λ b. cond b (Some e) (get m q)) same ∙ sym is ∙ ap t
    (sym (at_is q p same))
get-with_entry m t p q rest (Some e) false is same ih =
    get-insert path_cmp_total m p e q ∙ ap (λ b. cond b (Some e) (get m q)) same ∙ ih

get-map_of : (ps : List PathValue) (t : Tree) (q : PathValue) → get (map_of ps t) q ≡ (if list_any (eq_by_cmp path_cmp q) ps then t q else None)
get-map_of [] t q = get-empty path_cmp q
get-map_of (p ∷ ps) t q =
    get-with_entry (map_of ps t) t p q (list_any (eq_by_cmp path_cmp q) ps) (t p)
    (eq_by_cmp path_cmp q p) refl refl (get-map_of ps t q)

-- the tree itself, where the paths are all at which it has something
pub map_of_is : (ps : List PathValue) (t : Tree) → ((p : PathValue) → IsSome (t p) → Contains ps p)
    → (q : PathValue) → get (map_of ps t) q ≡ t q
map_of_is ps t all q = get-map_of ps t q ∙ by (t q) refl (list_any (eq_by_cmp path_cmp q) ps) refl
  where
    by : (o : Option Entry) → t q ≡ o → (b : Bool) → list_any (eq_by_cmp path_cmp q) ps ≡ b → (if b then t q else None) ≡ t q
    by o is true e = refl
    by None is false e = sym is
    by (Some x) is false e =
        absurd (false≢true (sym e ∙ list_any-from_Contains (eq_by_cmp_equiv path_cmp_total) q ps (all q (ap is_some is))))

-- a map has something at its keys alone
pub key_there : (m : TreeMap) (p : PathValue) → IsSome (get m p) → Contains (keys m) p
key_there m p some = Contains-from_any at_is p (keys m) (sym (contains_key-keys m p) ∙ some)

some_mapped : (f : Entry → Entry) (o : Option Entry) → IsSome (option_map f o) → IsSome o
some_mapped f None h = h
some_mapped f (Some x) h = refl

merged_some : (n : ℕ) (p : PathValue) (a s t : Option Entry) → IsSome (merged_entry n p a s t) → IsSome s ⊎ IsSome t
merged_some n p a s t = by (is_untouched a s)
  where
    by : (u : Bool) → IsSome (if u then option_map (changed_beneath n p s) t else option_map (sealed n p) s) → IsSome s ⊎ IsSome t
    by true h = inr (some_mapped (changed_beneath n p s) t h)
    by false h = inl (some_mapped (sealed n p) s h)

-- the merged map has at each path what the merge has
pub get_merged_map : (n : ℕ) (base txn youngest : TreeMap) (p : PathValue)
    → get (merged_map n base txn youngest) p
    ≡ merged n (tree_of base) (tree_of txn) (tree_of youngest) p
get_merged_map n base txn youngest =
    map_of_is (keys txn ++ keys youngest) (merged n (tree_of base) (tree_of txn) (tree_of youngest))
    (λ p some.
    ⊎_elim (λ s. Contains-append_left (keys txn) (keys youngest) p (key_there txn p s))
    (λ t. Contains-append_right (keys txn) (keys youngest) p (key_there youngest p t))
    (merged_some n p (get base p) (get txn p) (get youngest p) some))

conflict_some : (a s t : Option Entry) → is_in_conflict a s t ≡ true → IsSome a ⊎ IsSome s
conflict_some None None t h = absurd (false≢true h)
conflict_some None (Some s) t h = inr refl
conflict_some (Some a) s t h = inl refl

any_there : (f : PathValue → Bool) (ps : List PathValue) (p : PathValue) → Contains ps p → f p ≡ true → list_any f ps ≡ true
any_there f ps p there h = list_any_at f ps there.0 p there.1 (ap f there.2 ∙ h)

-- no path at all is in conflict where no key is
pub no_conflict_anywhere : (base txn youngest : TreeMap) → has_conflict base txn youngest ≡ false
    → HasNoConflict (tree_of base) (tree_of txn) (tree_of youngest)
no_conflict_anywhere base txn youngest none p =
    by (is_in_conflict (get base p) (get txn p) (get youngest p)) refl
  where
    abbreviated : is_in_conflict (get base p) (get txn p) (get youngest p) ≡ true → Contains (keys base ++ keys txn) p
    abbreviated h = ⊎_elim
        (λ s. Contains-append_left (keys base) (keys txn) p (key_there base p s))
        (λ s. Contains-append_right (keys base) (keys txn) p (key_there txn p s))
        (conflict_some (get base p) (get txn p) (get youngest p) h)

    by : (b : Bool) → is_in_conflict (get base p) (get txn p) (get youngest p) ≡ b → b ≡ false
    by true h = absurd (false≢true (sym none
        ∙ any_there (λ q. is_in_conflict (get base q) (get txn q) (get youngest q)) (keys base ++ keys txn) p (abbreviated h) h))
    by false h = refl

any_none : (f : PathValue → Bool) (ps : List PathValue) → ((p : PathValue) → f p ≡ false) → list_any f ps ≡ false
any_none f [] none = refl
any_none f (p ∷ ps) none = ap (λ b. b || list_any f ps) (none p) ∙ any_none f ps none

pub no_conflict_is : (base txn youngest : TreeMap)
    → HasNoConflict (tree_of base) (tree_of txn) (tree_of youngest)
    → has_conflict base txn youngest ≡ false
no_conflict_is base txn youngest none =
    any_none (λ q. is_in_conflict (get base q) (get txn q) (get youngest q))
    (keys base ++ keys txn) none

-- a path in conflict is found
pub conflict_is : (base txn youngest : TreeMap) (p : PathValue)
    → is_in_conflict (get base p) (get txn p) (get youngest p) ≡ true
    → has_conflict base txn youngest ≡ true
conflict_is base txn youngest p h = by (has_conflict base txn youngest) refl
  where
    by : (b : Bool) → has_conflict base txn youngest ≡ b → b ≡ true
    by true e = refl
    by false e = sym (no_conflict_anywhere base txn youngest e p) ∙ h
