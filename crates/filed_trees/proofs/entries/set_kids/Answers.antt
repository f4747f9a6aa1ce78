use Rattle.std.proofs.Common.{Some, sym, subst, ⊎_elim}
use Rattle.std.specs.Prelude.{All, Contains, IsSome, IsSomeAnd}
use Rattle.svnpath.specs.Paths.{Component}
use Rattle.noderevs.specs.{Nodes.kid_named, declared.node_rev.NodeId.NodeId}
use Rattle.filed_trees.specs.{Comparing.{AreAt, AreNamed, id_at, tables_of}, Tables.IsAt, Readable.{AreEntries, IsTabled}}
use Rattle.filed_trees.proofs.{Entering.{at_entry, both_ok, of_some, some_of}, Named.names_agree, Judged.{read_where, still_judged}}
use Rattle.filed_trees.proofs.Once.{entries_right, right_entries}
use Rattle.filed_trees.proofs.entries.set_kids.Goals as goal

pub returns : goal.returns
returns c =
    let tables = tables_of c.args.places in
    let ids = id_at c.in_ok-ids.ids.entries in
    let entries = c.args.entries.now in
    let kids = kid_named c.put_kids.new.kids in
    let at = λ (n : Component) (i : NodeId). IsAt tables (Some i) (ids n) in
    let start : AreNamed ids c.remove_kids.new.kids = λ n i is.
    let kept = c.in_ok-remove_kids.ensures n i is in
    ⊎_elim (λ some. some) (λ there. absurd (kept.1 (subst (λ l. Contains l n) (sym c.as_slice.ensures.value) there)))
    (c.in_ok-others.ensures n i kept.0) in
    read_where (AreEntries (IsTabled tables) entries) (λ _. AreAt tables c.put_kids.new.kids entries) c.put_kids.result
    (still_judged c.put_kids.result c.put_kids.ensures.judges
    (right_entries (IsTabled tables) ids entries c.in_ok-ids.ensures.1 c.in_ok-ids.ensures.0)
    (entries_right (IsTabled tables) ids entries c.in_ok-ids.ensures.1))
    (both_ok c.put_kids.result (λ _. All (λ e. IsSomeAnd (kids e.name) (at e.name)) entries)
    (λ _. AreNamed ids c.remove_kids.new.kids → AreNamed ids c.put_kids.new.kids)
    c.put_kids.ensures.placed c.put_kids.ensures.named (λ x placed named.
    names_agree tables kids ids entries c.in_ok-ids.ensures.1
    (λ n i is. of_some (at n) (kids n) i is (at_entry (λ m. IsSomeAnd (kids m) (at m)) n entries placed
    (subst (λ o. IsSome o) (c.in_ok-ids.ensures.1 n) (named start n i is))))
    (λ k d lt. some_of (at _) (kids _) (placed k d lt))))
