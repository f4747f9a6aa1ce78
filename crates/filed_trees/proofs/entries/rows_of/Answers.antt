use Rattle.std.proofs.{Common.{rules, Err, take, length, refl, sym, ap, subst, ◌≡◌, ◌+◌, ◌<◌, ◌++◌, ◌∷◌, [], ◌∙◌}, lemmas.List.{take_all, take_more}}
use Rattle.std.proofs.lemmas.List.Elements.{All-more, All-same}
use Rattle.std.specs.Prelude.{All}
use Rattle.shared_map.specs.Rows.{row_entries}
use Rattle.fsfs_nodes.specs.declared.entries.DirectoryEntry.{DirectoryEntry}
use Rattle.filed_trees.specs.{Comparing.{AreNodesOf, tables_of}, Readable.{IsTabled, Judges}}
use Rattle.filed_trees.proofs.{Judged.no_part, Remade.node_more}
use Rattle.filed_trees.proofs.entries.rows_of.Goals as goal

pub loop-entry-preserved : goal.loop-entry-preserved
loop-entry-preserved c =
    let tables = tables_of c.args.places in
    let entries = c.args.entries.now in
    let i = c.loop-entry.entry-index in
    let entry = c.entry-item.result in
    let within : i < length entries = c.loop-entry-test.true in
    let right = λ (e : DirectoryEntry). IsTabled tables e.id in
    let more : take (i + 1) entries ≡ take i entries ++ entry ∷ [] =
    take_more entries i entry within ∙ ap (λ e. take i entries ++ e ∷ []) (sym c.entry-item.is) in (
      node_more tables c.loop-entry.rows.items c.push.new.self.items (take i entries) (take (i + 1) entries) _ entry
          c.in_ok-push.ensures.items more c.loop-entry.invariant.0 refl c.in_ok-node.ensures.1,
      All-more right entries i entry within c.loop-entry.invariant.1 (subst right c.entry-item.is c.in_ok-node.ensures.0),
    )

pub returns-clause-rows : goal.returns-clause-rows
returns-clause-rows c =
    subst (AreNodesOf (tables_of c.args.places) (row_entries c.loop-entry.rows.items))
    (take_all c.loop-entry.entry-index c.args.entries.now c.loop-entry-test.false) c.loop-entry.invariant.0

pub returns-clause-judges : goal.returns-clause-judges
returns-clause-judges c =
    let entries = c.args.entries.now in
    All-same (λ (e : DirectoryEntry). IsTabled (tables_of c.args.places) e.id)
    entries (take c.loop-entry.entry-index entries) (sym (take_all _ entries c.loop-entry-test.false)) c.loop-entry.invariant.1

pub returns-in_err-node-clause-judges : goal.returns-in_err-node-clause-judges
returns-in_err-node-clause-judges c =
    let right = λ (e : DirectoryEntry). IsTabled (tables_of c.args.places) e.id in
    let is : c.from_residual-in_err-node.result ≡ Err c.in_err-node.field-0.0 = search rules in
    subst (λ r. Judges r (All right c.args.entries.now)) (sym is)
    (no_part c.in_err-node.field-0.0 (λ all. subst right (sym c.entry-item.is)
    (all c.loop-entry.entry-index c.entry-item.result c.loop-entry-test.true)) c.in_err-node.ensures)
