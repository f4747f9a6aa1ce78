-- Revision 0 of a new repository, in its file.
use Rattle.std.proofs.Common.{◌≡◌, ◌++◌, ℕ, zero, suc, List, [], ◌∷◌, length, Some, option_and_then, refl, sym, ap, subst, ◌∙◌, arith}
use Rattle.std.proofs.lemmas.Option.{same_Some}
use Rattle.std.specs.{FinMap.same_entries_map, Prelude.{slice_get, slice_set}}
use Rattle.svnpath.specs.Paths.{PathValue}
use Rattle.repo_api.specs.{Properties.PropertyList, States.ChangeMap, declared.entry.Entry.Entry, declared.entry.Mark.Mark}
use Rattle.repo_api.specs.declared.entry.Mark.TheVariants.{Open, Made}
use Rattle.noderevs.specs.{Held.{blocks_of, node_at}, Nodes.{node_in, root_in}, OpeningBlocks.{AreOpening, IsOpeningBlock, IsOpeningNode}}
use Rattle.noderevs.specs.{declared.node_rev.Block.Block, declared.node_rev.NodeId.NodeId, declared.node_rev.NodeRev.NodeRev}
use Rattle.shared_revisions.specs.declared.held.Held.{Held}
use Rattle.filed_trees.specs.{Comparing.{AreSame, IsSameNode}, Tables.AreTabled, Values.IsFiledNext, declared.table.Table.Table}
use Rattle.filed_trees.proofs.{Reading.tabled_same, Seen.none_tabled}
use Rattle.filed_repository.specs.{Histories.{ComesFirst, HasHistory, with_next}, Reading.IsNew}
use Rattle.filed_repository.proofs.{Histories.{history_more, no_history}, Opened.one_of}
use Rattle.world.specs.Adding.{HasFirstList}

abbrev path_of : Mark → PathValue
path_of Open = []
path_of (Made rev path) = path

-- two roots of new repositories have the same
same_roots : (node other : NodeRev) → IsOpeningNode node → IsOpeningNode other → IsSameNode node other
same_roots node other is also = record {
  path = ap (λ (e : Entry). path_of e.last) (is.entry ∙ sym also.entry);
  own = ap (λ (e : Entry). e.own) (is.entry ∙ sym also.entry);
  content = ap (λ (e : Entry). e.content) (is.entry ∙ sym also.entry);
  properties = ap (λ (e : Entry). e.properties) (is.entry ∙ sym also.entry);
  kids = λ name. is.kids name ∙ sym (also.kids name);
}

same_places : (a b : Block) → IsOpeningBlock a → IsOpeningBlock b → (k : ℕ) → AreSame (slice_get a.nodes.items k) (slice_get b.nodes.items k)
same_places a b is also k =
    subst (λ l. AreSame (slice_get l k) (slice_get b.nodes.items k)) (sym is.nodes)
    (subst (λ l. AreSame (slice_get (is.node ∷ []) k) (slice_get l k)) (sym also.nodes) (by k))
  where
    by : (j : ℕ) → AreSame (slice_get (is.node ∷ []) j) (slice_get (also.node ∷ []) j)
    by zero = same_roots is.node also.node is.is also.is
    by (suc j) = tt

module _ (h : Held) (new : IsNew h) (file : List ℕ) where
  abbrev pub block : Block
  block = new.opening.block

  pub the_change : (c : ChangeMap) × (h.changes ≡ c ∷ [])
  the_change = one_of h.changes new.one

  abbrev pub change : ChangeMap
  change = the_change.0

  pub is_at : slice_get h.changes 0 ≡ Some change
  is_at = ap (λ l. slice_get l 0) the_change.1

  -- its file is that of a history
  pub first_history : IsFiledNext (file ∷ []) [] file (block ∷ []) (change ∷ []) → HasHistory (file ∷ [])
  first_history p = (
    with_next (record { files = []; blocks = []; tables = []; changes = [] }) file block p.table change,
    (
      refl,
      history_more (record { files = []; blocks = []; tables = []; changes = [] }) (no_history none_tabled) file block p.table change p.tabled
          (λ lt. absurd (omega (arith, lt))) (λ e. record {
            pieces = p.pieces;
            said = p.said;
            says = p.says;
            readable = p.readable;
            opening = new.opening.is;
            unchanged = new.unchanged change is_at;
          })
          (omega arith),
    ),
  )

  -- and where it is, it says this revision
  pub history_first : HasHistory (file ∷ []) → IsFiledNext (file ∷ []) [] file (block ∷ []) (change ∷ [])
  history_first has = record {
    pieces = first.pieces;
    said = first.said;
    says = first.says;
    readable = first.readable;
    table = t.0;
    tabled = tabled_same (file ∷ []) [] (t.0 ∷ []) [] b.0 block change h.nodes new.opening.alone 0 refl
        (λ id e. subst (λ o. AreSame (slice_get b.0.nodes.items id.place) o) (sym (there id e)) (same_places b.0 block first.opening new.opening.is id.place))
        (ap (λ bs. root_in bs 0) new.opening.alone ∙ ap Some (new.opening.is.root ∙ sym first.opening.root))
        (subst (λ x. AreTabled (file ∷ []) (b.0 ∷ []) (t.0 ∷ []) (x ∷ []))
        (same_entries_map c.0 change (first.unchanged ∙ sym (new.unchanged change is_at))) all);
  }
    where
      long : length has.0.files ≡ 1
      long = ap length has.1.0

      b : (x : Block) × (has.0.blocks ≡ x ∷ [])
      b = one_of has.0.blocks (sym has.1.1.all.all ∙ long)

      t : (x : Table) × (has.0.tables ≡ x ∷ [])
      t = one_of has.0.tables (has.1.1.all.tabled ∙ sym has.1.1.all.all ∙ long)

      c : (x : ChangeMap) × (has.0.changes ≡ x ∷ [])
      c = one_of has.0.changes (has.1.1.all.listed ∙ sym has.1.1.all.all ∙ long)

      all : AreTabled (file ∷ []) (b.0 ∷ []) (t.0 ∷ []) (c.0 ∷ [])
      all = subst (λ fs. AreTabled fs (b.0 ∷ []) (t.0 ∷ []) (c.0 ∷ [])) has.1.0
          (subst (λ bs. AreTabled has.0.files bs (t.0 ∷ []) (c.0 ∷ [])) b.1
          (subst (λ ts. AreTabled has.0.files has.0.blocks ts (c.0 ∷ [])) t.1
          (subst (AreTabled has.0.files has.0.blocks has.0.tables) c.1 has.1.1.all)))

      first : ComesFirst file b.0 c.0
      first = has.1.1.begins file b.0 c.0 (ap (λ fs. slice_get fs 0) has.1.0) (ap (λ bs. slice_get bs 0) b.1) (ap (λ cs. slice_get cs 0) c.1)

      there : (id : NodeId) → id.rev ≡ 0 → node_at h.nodes id ≡ slice_get block.nodes.items id.place
      there id e = ap (λ bs. node_in bs id) new.opening.alone
          ∙ ap (λ n. option_and_then (λ (x : Block). slice_get x.nodes.items id.place) (slice_get (block ∷ []) n)) e

  -- the one revision that is held
  pub comes_first : IsFiledNext (file ∷ []) [] file (block ∷ []) (change ∷ []) → (bs : List Block) (b : Block) (cs : List ChangeMap) (c : ChangeMap)
      → bs ≡ [] → cs ≡ [] → blocks_of h.nodes ≡ bs ++ b ∷ [] → h.changes ≡ cs ++ c ∷ [] → ComesFirst file b c
  comes_first p bs b cs c no_blocks no_changes blocks changes =
      let is_block : block ≡ b = alone_is block b (sym new.opening.alone ∙ blocks ∙ ap (λ l. l ++ b ∷ []) no_blocks) in
      let is_change : change ≡ c = alone_is change c (sym the_change.1 ∙ changes ∙ ap (λ l. l ++ c ∷ []) no_changes) in
      subst (ComesFirst file b) is_change (subst (λ x. ComesFirst file x change) is_block (record {
        pieces = p.pieces;
        said = p.said;
        says = p.says;
        readable = p.readable;
        opening = new.opening.is;
        unchanged = new.unchanged change is_at;
      }))
    where
      alone_is : {X : Type 0} (x y : X) → x ∷ [] ≡ y ∷ [] → x ≡ y
      alone_is x y e = same_Some x y (ap (λ l. slice_get l 0) e)

-- with other properties it is new, too
pub new_with : (h other : Held) (list : PropertyList) → IsNew h → HasFirstList h other list → IsNew other
new_with h other list new first = record {
  one = ap length first.same.changes ∙ new.one;
  opening = subst AreOpening (sym first.same.blocks) new.opening;
  unchanged = λ change at. new.unchanged change (ap (λ cs. slice_get cs 0) (sym first.same.changes) ∙ at);
}

pub list_with : (h other : Held) (list : PropertyList) → IsNew h → HasFirstList h other list → slice_get other.properties 0 ≡ Some list
list_with h other list new first =
    let one = one_of h.properties (h.all ∙ new.one) in
    ap (λ ls. slice_get ls 0) (first.lists ∙ ap (λ ls. slice_set ls 0 list) one.1)
