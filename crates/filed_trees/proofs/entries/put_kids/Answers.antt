use Rattle.std.proofs.{Common.{Some, take, sym, subst, rules, ◌≡◌, Err}, lemmas.List.take_all, lemmas.List.Elements.{All-more, All-same}}
use Rattle.std.specs.Prelude.{IsSomeAnd, All}
use Rattle.fsfs_nodes.specs.declared.entries.DirectoryEntry.{DirectoryEntry}
use Rattle.noderevs.specs.Nodes.{kid_named}
use Rattle.filed_trees.specs.{Comparing.{id_at, tables_of}, Tables.IsAt, Readable.{IsTabled, Judges}}
use Rattle.filed_trees.proofs.{Entering.{named_still, placed_here, placed_still}, Judged.no_part}
use Rattle.filed_trees.proofs.entries.put_kids.Goals as goal

pub loop-entry-preserved : goal.loop-entry-preserved
loop-entry-preserved c =
    let tables = tables_of c.args.places in
    let ids = id_at c.args.ids.now.entries in
    let old = kid_named c.loop-entry.kids in
    let new = kid_named c.put_kid.new.kids in
    let key = c.entry-item.result.name in
    let id = c.in_ok-id.id in
    let put = c.in_ok-put_kid.ensures in
    let at = c.in_ok-id.ensures.1 in
    let right = λ (e : DirectoryEntry). IsSomeAnd (ids e.name) (IsTabled tables) in
    let placed = λ (e : DirectoryEntry). IsSomeAnd (new e.name) (λ i. IsAt tables (Some i) (ids e.name)) in (
      All-more placed c.args.entries.now c.loop-entry.entry-index c.entry-item.result c.loop-entry-test.true
          (λ k d lt. placed_still tables ids old new key id put at _ (c.loop-entry.invariant.0 k d lt))
          (subst placed c.entry-item.is (placed_here tables ids old new key id put at)),
      (
        λ named. named_still tables ids old new key id put at (c.loop-entry.invariant.1.0 named),
        All-more right c.args.entries.now c.loop-entry.entry-index c.entry-item.result c.loop-entry-test.true
            c.loop-entry.invariant.1.1 (subst right c.entry-item.is c.in_ok-id.ensures.0),
      ),
    )

pub returns-clause-placed : goal.returns-clause-placed
returns-clause-placed c =
    let entries = c.args.entries.now in
    All-same (λ (e : DirectoryEntry). IsSomeAnd (kid_named c.loop-entry.kids e.name)
    (λ i. IsAt (tables_of c.args.places) (Some i) (id_at c.args.ids.now.entries e.name)))
    entries (take c.loop-entry.entry-index entries) (sym (take_all _ entries c.loop-entry-test.false)) c.loop-entry.invariant.0

pub returns-in_err-id-clause-judges : goal.returns-in_err-id-clause-judges
returns-in_err-id-clause-judges c =
    let right = λ (e : DirectoryEntry). IsSomeAnd (id_at c.args.ids.now.entries e.name) (IsTabled (tables_of c.args.places)) in
    let is : c.from_residual.result ≡ Err c.in_err-id.field-0.0 = search rules in
    subst (λ r. Judges r (All right c.args.entries.now)) (sym is)
    (no_part c.in_err-id.field-0.0 (λ all. subst right (sym c.entry-item.is)
    (all c.loop-entry.entry-index c.entry-item.result c.loop-entry-test.true)) c.in_err-id.ensures)

pub returns-clause-judges : goal.returns-clause-judges
returns-clause-judges c =
    let entries = c.args.entries.now in
    All-same (λ (e : DirectoryEntry). IsSomeAnd (id_at c.args.ids.now.entries e.name) (IsTabled (tables_of c.args.places)))
    entries (take c.loop-entry.entry-index entries) (sym (take_all _ entries c.loop-entry-test.false)) c.loop-entry.invariant.1.1
