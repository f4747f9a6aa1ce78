-- The entries of a directory, put and removed one after another.
use Rattle.std.proofs.Common.{◌≡◌, ◌<◌, ℕ, suc, length, Bool, true, false, cond, List, [], ◌∷◌, Option, Some, None, refl, sym, ap, subst, ◌∙◌, arith}
use Rattle.std.proofs.{lemmas.Bool.false≢true, lemmas.Cmp.nat_list_cmp_total, lemmas.Option.{none-some, same_Some, slice_get_within}}
use Rattle.std.specs.FinMap.{empty, get-empty, insert, remove, get-insert, get-remove}
use Rattle.std.specs.Prelude.{Result, Ok, Err, IfOk, All, IsSome, IsSomeAnd, slice_get, if◌then◌else◌}
use Rattle.svnpath.specs.{PathLaws.{same_component_is, same_component_refl}, Paths.{Component, same_component}}
use Rattle.shared_map.specs.Entries.{by_bytes}
use Rattle.noderevs.specs.{Nodes.{kid_named, Kids}, declared.node_rev.NodeId.NodeId}
use Rattle.fsfs_text.specs.declared.id.FileId.{FileId}
use Rattle.fsfs_nodes.specs.declared.entries.DirectoryEntry.{DirectoryEntry}
use Rattle.filed_trees.specs.{Pieces.entry_named, Tables.IsAt, declared.table.Table.Table}
use Rattle.filed_trees.proofs.Named.{at_name}

pub put_named : (kids : Kids) (key : Component) (id : NodeId) (n : Component)
    → kid_named (insert kids key id) n ≡ (if same_component n key then Some id else kid_named kids n)
put_named kids key id n =
    get-insert nat_list_cmp_total kids key id n ∙ ap (λ b. cond b (Some id) (kid_named kids n)) (at_name n key)

pub removed_named : (kids : Kids) (key n : Component) (id : NodeId) → kid_named (remove kids key) n ≡ Some id
    → (kid_named kids n ≡ Some id) × (key ≡ n → ⊥)
removed_named kids key n id is = by (same_component n key) refl
  where
    out : kid_named (remove kids key) n ≡ cond (same_component n key) None (kid_named kids n)
    out = get-remove nat_list_cmp_total kids key n ∙ ap (λ b. cond b None (kid_named kids n)) (at_name n key)

    by : (b : Bool) → same_component n key ≡ b → (kid_named kids n ≡ Some id) × (key ≡ n → ⊥)
    by true same = absurd (none-some id (sym (out ∙ ap (λ b. cond b None (kid_named kids n)) same) ∙ is))
    by false other = (
      sym (out ∙ ap (λ b. cond b None (kid_named kids n)) other) ∙ is,
      λ e. false≢true (sym other ∙ subst (λ k. same_component n k ≡ true) (sym e) (same_component_refl n)),
    )

module _ (tables : List Table) (ids : Component → Option FileId) (old new : Component → Option NodeId) (key : Component)
    (id : NodeId) (put : (n : Component) → new n ≡ (if same_component n key then Some id else old n))
    (at : IsAt tables (Some id) (ids key)) where
  abbrev Placed : (Component → Option NodeId) → Component → Type 0
  Placed f n = IsSomeAnd (f n) (λ i. IsAt tables (Some i) (ids n))

  pub placed_here : Placed new key
  placed_here = subst (λ o. IsSomeAnd o (λ i. IsAt tables (Some i) (ids key)))
      (sym (put key ∙ ap (λ b. cond b (Some id) (old key)) (same_component_refl key))) at

  pub placed_still : (n : Component) → Placed old n → Placed new n
  placed_still n placed = by (same_component n key) refl
    where
      by : (b : Bool) → same_component n key ≡ b → Placed new n
      by true same = subst (Placed new) (sym (same_component_is n key same)) placed_here
      by false other = subst (λ o. IsSomeAnd o (λ i. IsAt tables (Some i) (ids n)))
          (sym (put n ∙ ap (λ b. cond b (Some id) (old n)) other)) placed

  has_id : (o : Option FileId) → IsAt tables (Some id) o → IsSome o
  has_id None is = absurd is
  has_id (Some file) is = refl

  pub named_still : ((n : Component) (i : NodeId) → old n ≡ Some i → IsSome (ids n))
      → (n : Component) (i : NodeId) → new n ≡ Some i → IsSome (ids n)
  named_still named n i is = by (same_component n key) refl
    where
      by : (b : Bool) → same_component n key ≡ b → IsSome (ids n)
      by true same = subst (λ k. IsSome (ids k)) (sym (same_component_is n key same)) (has_id (ids key) at)
      by false other = named n i (sym (put n ∙ ap (λ b. cond b (Some id) (old n)) other) ∙ is)

-- what holds at the names of all entries holds at a name that they have
pub at_entry : (Q : Component → Type 0) (name : Component) (entries : List DirectoryEntry) → All (λ e. Q e.name) entries
    → IsSome (entry_named name entries) → Q name
at_entry Q name [] all some = absurd (false≢true some)
at_entry Q name (e ∷ entries) all some =
    by (same_component e.name name) refl some (at_entry Q name entries (λ k d lt. all (suc k) d (omega (arith, lt))))
  where
    by : (b : Bool) → same_component e.name name ≡ b → IsSome (cond b (Some e.id) (entry_named name entries))
        → (IsSome (entry_named name entries) → Q name) → Q name
    by true same some rest = subst Q (same_component_is e.name name same) (all 0 e (omega arith))
    by false other some rest = rest some

pub some_of : {A : Type 0} (P : A → Type 0) (o : Option A) → IsSomeAnd o P → IsSome o
some_of P None is = absurd is
some_of P (Some x) is = refl

pub of_some : {A : Type 0} (P : A → Type 0) (o : Option A) (x : A) → o ≡ Some x → IsSomeAnd o P → P x
of_some P None x is has = absurd has
of_some P (Some y) x is has = subst P (same_Some y x is) has

pub both_ok : {T E : Type 0} (r : Result T E) (P Q : T → Type 0) {R : T → Type 0} → IfOk r P → IfOk r Q
    → ((x : T) → P x → Q x → R x) → IfOk r R
both_ok (Ok x) P Q p q f = f x p q
both_ok (Err e) P Q p q f = p

-- no entries at all
pub nothing_named : (n : Component) → kid_named empty n ≡ None
nothing_named n = get-empty by_bytes n

pub some_within : {A : Type 0} (xs : List A) (k : ℕ) (P : A → Type 0) → IsSomeAnd (slice_get xs k) P → k < length xs
some_within xs k P is = by (slice_get xs k) refl is
  where
    by : (o : Option _) → slice_get xs k ≡ o → IsSomeAnd o P → k < length xs
    by None at is = absurd is
    by (Some x) at is = slice_get_within xs k x at
