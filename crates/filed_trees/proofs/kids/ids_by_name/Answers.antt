use Rattle.std.proofs.{Common.{rules, ℕ, suc, ◌≡◌, ◌+◌, ◌<◌, ◌∷◌, None, Some, drop, sym, ap, ◌∙◌, add-one, arith, length}, Math.Seq.drop-cons}
use Rattle.std.proofs.{lemmas.List.at_drop_all, lemmas.Option.slice_get-get_or}
use Rattle.std.specs.{Option.option_or, Prelude.{IsSome, slice_get}}
use Rattle.filed_trees.specs.{Pieces.entry_named, Comparing.id_at}
use Rattle.filed_trees.proofs.{Named.{name_more, no_more}, Once.{all_names, one_name, repeated}}
use Rattle.filed_trees.proofs.kids.ids_by_name.Goals as goal

pub loop-entry-preserved : goal.loop-entry-preserved
loop-entry-preserved c =
    let entries = c.args.entries.now in
    let k = c.loop-entry.entry-index in
    let entry = c.entry-item.result in
    let ids = id_at c.loop-entry.ids.entries in
    let within : k < length entries = search (rules, arith) in
    let at : slice_get entries k ≡ Some entry = slice_get-get_or entries k entry within ∙ ap Some (sym c.entry-item.is) in
    let behind : drop k entries ≡ entry ∷ drop (k + 1) entries =
    drop-cons entries k entry within ∙ ap (λ e. e ∷ drop (suc k) entries) (sym c.entry-item.is)
    ∙ ap (λ (n : ℕ). entry ∷ drop n entries) (sym (add-one k)) in
    let none : ids entry.name ≡ None = search rules in
    let key : c.in_ok-clone.field-0 ≡ entry.name = search rules in (
      λ n. name_more entry (drop (k + 1) entries) ids (id_at c.insert.new.self.entries)
          c.in_ok-clone.field-0 key (ap ids key ∙ none) c.in_ok-insert.ensures.updates.0 n
          ∙ ap (λ l. option_or (ids n) (entry_named n l)) (sym behind)
          ∙ c.loop-entry.invariant.0 n,
      one_name entries ids (id_at c.insert.new.self.entries) k entry c.in_ok-clone.field-0 entry.id key at none
          c.in_ok-insert.ensures.updates.0 c.loop-entry.invariant.1,
    )

pub returns-then-is_some : goal.returns-then-is_some
returns-then-is_some c =
    let entries = c.args.entries.now in
    let k = c.loop-entry.entry-index in
    let entry = c.entry-item.result in
    let at : slice_get entries k ≡ Some entry =
    slice_get-get_or entries k entry c.loop-entry-test.true ∙ ap Some (sym c.entry-item.is) in
    let some : IsSome (id_at c.loop-entry.ids.entries entry.name) = search rules in
    repeated entries (id_at c.loop-entry.ids.entries) k entry c.loop-entry.invariant.1 at some

pub returns : goal.returns
returns c = (
  all_names c.args.entries.now (id_at c.loop-entry.ids.entries) c.loop-entry.entry-index c.loop-entry.invariant.1
      c.loop-entry-test.false,
  λ name. sym (no_more (id_at c.loop-entry.ids.entries name))
      ∙ sym (at_drop_all (λ l. option_or (id_at c.loop-entry.ids.entries name) (entry_named name l))
      c.args.entries.now c.loop-entry.entry-index c.loop-entry-test.false)
      ∙ c.loop-entry.invariant.0 name,
)
