use Rattle.std.proofs.Common.{rules, arith, ◌≡◌, ◌⊎◌, ◌++◌, ◌∷◌, [], Vec, Global, ⊎_elim, refl, map, take, inl, inr, sym, ap, subst, ◌∙◌}
use Rattle.std.proofs.{lemmas.List.take_all, lemmas.List.Elements.{All-more, All-same, Contains-append_left, Contains-append_right}}
use Rattle.std.specs.{Borrow.Bor, Map.Iter.deref, Prelude.{Contains, IsSome}}
use Rattle.svnpath.specs.Paths.{Component}
use Rattle.noderevs.specs.declared.node_rev.NodeId.{NodeId}
use Rattle.block_rules.proofs.Listed.{of_each}
use Rattle.filed_trees.specs.Comparing.{id_at}
use Rattle.filed_trees.proofs.entries.other_names.Goals.{then-is_none+in_ok-clone+in_ok-push, else-is_none}
use Rattle.filed_trees.proofs.entries.other_names.Goals as goal

pub returns : goal.returns
returns c = λ name id is.
    let ids = id_at c.args.ids.now.entries in
    let others = c.loop-entry.others.items in
    let right = λ (e : Bor (Component × NodeId)). IsSome (ids e.now.0) ⊎ Contains others e.now.0 in
    let items = c.deref-entry-items.result.now in
    of_each (λ name id. IsSome (ids name) ⊎ Contains others name) c.args.kids.now items
    (ap (map deref) c.deref-entry-items.ensures.value ∙ c.in_ok-entries.ensures.entries)
    (All-same right items (take c.loop-entry.entry-index items) (sym (take_all _ items c.loop-entry-test.false)) c.loop-entry.invariant)
    name id is

pub loop-entry-preserved : goal.loop-entry-preserved
loop-entry-preserved c =
    let ids = id_at c.args.ids.now.entries in
    let old = c.loop-entry.others.items in
    let new = c.if-is_none.others.items in
    let item = c.entry-item.result in
    let right = λ (e : Bor (Component × NodeId)). IsSome (ids e.now.0) ⊎ Contains new e.now.0 in
    let both : ((x : Component) → Contains old x → Contains new x) × right item =
    elim c.if-is_none.branch [
      | then-is_none+in_ok-clone+in_ok-push w ↦
          let pushed : new ≡ old ++ item.now.0 ∷ [] = search rules in (
            λ x there. subst (λ l. Contains l x) (sym pushed) (Contains-append_left old (item.now.0 ∷ []) x there),
            inr (subst (λ l. Contains l item.now.0) (sym pushed)
                (Contains-append_right old (item.now.0 ∷ []) item.now.0 (0, omega arith, refl))),
          )
      | else-is_none w ↦
          (λ x there. subst (λ l. Contains l x) (ap (λ (v : Vec Component Global). v.items) (sym w.others-is)) there, inl (search rules))
    ] in
    All-more right c.deref-entry-items.result.now c.loop-entry.entry-index item c.loop-entry-test.true
    (λ k d lt. ⊎_elim inl (λ there. inr (both.0 _ there)) (c.loop-entry.invariant k d lt))
    (subst right c.entry-item.is both.1)
