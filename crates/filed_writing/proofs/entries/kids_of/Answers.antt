use Rattle.std.proofs.{Common.{◌≡◌, [], map, drop, ◌++◌, ap, sym, ◌∙◌}, lemmas.List.{append-nil, at_drop_all}}
use Rattle.std.specs.Map.Iter.{deref}
use Rattle.filed_trees.specs.Comparing.{named_kid}
use Rattle.filed_writing.proofs.entries.kids_of.Goals as goal

pub returns : goal.returns
returns c =
    let kids = c.loop-entry.kids.items in
    let end : map deref (drop c.loop-entry.entry-index c.as_slice-entry-items.result.now) ≡ [] =
    at_drop_all (map deref) c.as_slice-entry-items.result.now c.loop-entry.entry-index
    c.loop-entry-test.false in
    sym (append-nil (map named_kid kids)) ∙ ap (λ l. map named_kid kids ++ l) (sym end)
    ∙ c.loop-entry.invariant
