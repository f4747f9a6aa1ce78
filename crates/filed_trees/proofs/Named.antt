-- The entries of a node and those that a file says.
use Rattle.std.proofs.Common.{◌≡◌, suc, Bool, true, false, cond, List, [], ◌∷◌, map, get_or, Option, Some, None, refl, sym, ap, subst, ◌∙◌, arith, ◌⊎◌, ⊎_elim}
use Rattle.std.proofs.{lemmas.Bool.false≢true, lemmas.List.Elements.{All-contains, All-map}, lemmas.List.length-map, lemmas.Option.none-some}
use Rattle.std.proofs.Math.ListN.{get_or-map}
use Rattle.std.specs.{Borrow.Bor, BTreeMap.is_at, Cmp.Lexicographic.{slice_cmp, texts_ties}, Map.Iter.deref, Option.option_or, Ordering.nat_cmp}
use Rattle.std.specs.Prelude.{All, Contains, IsSome}
use Rattle.svnpath.specs.{PathLaws.same_component_is, Paths.{Component, same_component}}
use Rattle.noderevs.specs.declared.node_rev.NodeId.{NodeId}
use Rattle.fsfs_text.specs.declared.id.FileId.{FileId}
use Rattle.fsfs_nodes.specs.declared.entries.DirectoryEntry.{DirectoryEntry}
use Rattle.filed_trees.specs.{Pieces.entry_named, Tables.IsAt, declared.table.Table.Table}

pub at_name : (name n : Component) → is_at (slice_cmp nat_cmp name) n ≡ same_component name n
at_name name n = sym (texts_ties name n)

module _ (f g : Component → Option NodeId) where
  pub same_kids : ((name : Component) (id : NodeId) → f name ≡ Some id → g name ≡ Some id)
      → ((name : Component) (id : NodeId) → g name ≡ Some id → f name ≡ Some id) → (name : Component) → f name ≡ g name
  same_kids into back name = by (f name) (g name) refl refl
    where
      by : (o p : Option NodeId) → f name ≡ o → g name ≡ p → f name ≡ g name
      by (Some id) p at_f at_g = at_f ∙ sym (into name id at_f)
      by None None at_f at_g = at_f ∙ sym at_g
      by None (Some id) at_f at_g = absurd (none-some id (sym at_f ∙ back name id at_g))

-- entries that were listed, among them each that another node has not
module _ (f g : Component → Option NodeId) (es : List (Bor (Component × NodeId))) where
  pub has_all : ((name : Component) (id : NodeId) → f name ≡ Some id → (g name ≡ Some id) ⊎ Contains (map deref es) (name, id))
      → All (λ e. g e.now.0 ≡ Some e.now.1) es → (name : Component) (id : NodeId) → f name ≡ Some id → g name ≡ Some id
  has_all others all name id is = ⊎_elim
      (λ there. there)
      (λ at. All-contains (λ (e : Component × NodeId). g e.0 ≡ Some e.1) (map deref es) (name, id)
      (All-map (λ (e : Component × NodeId). g e.0 ≡ Some e.1) deref es all) at)
      (others name id is)

  pub have_listed : All (λ e. f e.0 ≡ Some e.1) (map deref es) → ((name : Component) → f name ≡ g name) → All (λ e. g e.now.0 ≡ Some e.now.1) es
  have_listed all same k d lt =
      sym (same (get_or es k d).now.0)
      ∙ subst (λ (e : Component × NodeId). f e.0 ≡ Some e.1) (get_or-map deref es k d) (all k (deref d) (omega (arith, lt, length-map es deref)))

-- a name that no entry of the node has is in no line
no_entry : (f : Component → Option NodeId) (name : Component) → f name ≡ None → (entries : List DirectoryEntry)
    → All (λ e. IsSome (f e.name)) entries → entry_named name entries ≡ None
no_entry f name none [] all = refl
no_entry f name none (e ∷ entries) all = by (same_component e.name name) refl (no_entry f name none entries (λ k d lt. all (suc k) d (omega (arith, lt))))
  where
    by : (b : Bool) → same_component e.name name ≡ b → entry_named name entries ≡ None → (cond b (Some e.id) (entry_named name entries)) ≡ None
    by false other rest = rest
    by true same rest = absurd (false≢true (subst (λ o. IsSome o) (ap f (same_component_is e.name name same) ∙ none) (all 0 e (omega arith))))

pub names_agree : (tables : List Table) (f : Component → Option NodeId) (ids : Component → Option FileId) (entries : List DirectoryEntry)
    → ((name : Component) → ids name ≡ entry_named name entries)
    → ((name : Component) (id : NodeId) → f name ≡ Some id → IsAt tables (Some id) (ids name))
    → All (λ e. IsSome (f e.name)) entries → (name : Component) → IsAt tables (f name) (entry_named name entries)
names_agree tables f ids entries same named all name = by (f name) refl
  where
    by : (o : Option NodeId) → f name ≡ o → IsAt tables (f name) (entry_named name entries)
    by (Some id) at = subst (λ o. IsAt tables o (entry_named name entries)) (sym at) (subst (IsAt tables (Some id)) (same name) (named name id at))
    by None at = subst (λ o. IsAt tables o (entry_named name entries)) (sym at) (subst (IsAt tables None) (sym (no_entry f name at entries all)) tt)

-- an entry more is put at its name, where none stood
pub name_more : (entry : DirectoryEntry) (rest : List DirectoryEntry) (old new : Component → Option FileId) (key : Component) → key ≡ entry.name
    → old key ≡ None → ((n : Component) → new n ≡ cond (is_at (slice_cmp nat_cmp key) n) (Some entry.id) (old n))
    → (n : Component) → option_or (new n) (entry_named n rest) ≡ option_or (old n) (entry_named n (entry ∷ rest))
name_more entry rest old new key is none put n = by (same_component key n) refl
  where
    by : (b : Bool) → same_component key n ≡ b → option_or (new n) (entry_named n rest) ≡ option_or (old n) (entry_named n (entry ∷ rest))
    by true same =
        ap (λ o. option_or o (entry_named n rest)) (put n ∙ ap (λ t. cond t (Some entry.id) (old n)) (at_name key n ∙ same))
        ∙ sym (ap (λ t. option_or (old n) (cond t (Some entry.id) (entry_named n rest))) (ap (λ k. same_component k n) (sym is) ∙ same)
        ∙ ap (λ o. option_or o (Some entry.id)) (ap old (sym (same_component_is key n same)) ∙ none))
    by false other =
        ap (λ o. option_or o (entry_named n rest)) (put n ∙ ap (λ t. cond t (Some entry.id) (old n)) (at_name key n ∙ other))
        ∙ sym (ap (λ t. option_or (old n) (cond t (Some entry.id) (entry_named n rest))) (ap (λ k. same_component k n) (sym is) ∙ other))

-- where no entries are left
pub no_more : (id : Option FileId) → option_or id None ≡ id
no_more None = refl
no_more (Some id) = refl
