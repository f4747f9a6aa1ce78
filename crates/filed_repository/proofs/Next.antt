-- The world of the next revision comes behind those of the revisions that were read.
use Rattle.std.proofs.Common.{◌≡◌, List, [], ◌∷◌, length, refl, sym, ap, subst, ◌∙◌, arith, ◌++◌}
use Rattle.std.specs.Prelude.{slice_set}
use Rattle.repo_api.specs.{Properties.PropertyList, States.ChangeMap}
use Rattle.noderevs.specs.{Held.blocks_of, declared.node_rev.Block.Block}
use Rattle.world.specs.{declared.world.World.World, Adding.{HasAdded, HasFirstList}}
use Rattle.filed_trees.specs.declared.table.Table.{Table}
use Rattle.filed_repository.specs.Reading.{IsNext, so_far}
use Rattle.filed_repository.proofs.Opened.{one_of}

pub nothing : {X : Type 0} (xs : List X) → length xs ≡ 0 → xs ≡ []
nothing [] none = refl
nothing (x ∷ xs) none = absurd (omega (arith, none))

module _ (before after : World) (tables : List Table) (list : PropertyList) (locks : after.locks.value ≡ before.locks.value) where
  -- revision 0 with its properties
  pub first_comes : tables ≡ [] → length before.held.value.changes ≡ 1
      → HasFirstList before.held.value after.held.value list
      → IsNext before.held.value tables after.held.value × (after.locks.value ≡ before.locks.value)
  first_comes none one revised =
      let h = before.held.value in
      let change = one_of h.changes one in
      let block = one_of (blocks_of h.nodes) (h.even ∙ one) in
      let first = one_of h.properties (h.all ∙ one) in (
        subst (λ ts. IsNext h ts after.held.value) (sym none) (record {
          uuid = revised.uuid;
          block = block.0;
          blocks = revised.same.blocks ∙ block.1;
          change = change.0;
          changes = revised.same.changes ∙ change.1;
          list = list;
          lists = revised.lists ∙ ap (λ ls. slice_set ls 0 list) first.1;
        }),
        locks,
      )

-- what is held of the revisions is all, once one has been read
pub whole : {X : Type 0} (tables : List Table) (xs : List X) → (tables ≡ [] → ⊥) → so_far tables xs ≡ xs
whole [] xs some = absurd (some refl)
whole (t ∷ ts) xs some = refl

-- a revision that was read
abbrev pub next_comes : (before after : World) (tables : List Table) (block : Block) (change : ChangeMap) (list : PropertyList)
    → (tables ≡ [] → ⊥) → HasAdded before after block change list → IsNext before.held.value tables after.held.value
next_comes before after tables block change list some added = record {
  uuid = added.held.uuid;
  block = block;
  blocks = added.held.blocks ∙ ap (λ bs. bs ++ block ∷ []) (sym (whole tables (blocks_of before.held.value.nodes) some));
  change = change;
  changes = added.held.changes ∙ ap (λ cs. cs ++ change ∷ []) (sym (whole tables before.held.value.changes some));
  list = list;
  lists = added.held.lists ∙ ap (λ ls. ls ++ list ∷ []) (sym (whole tables before.held.value.properties some));
}
