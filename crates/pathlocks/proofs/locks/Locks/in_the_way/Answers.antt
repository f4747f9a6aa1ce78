use Rattle.std.proofs.Common.{◌≡◌, ◌++◌, map, sym, ap, subst, ◌∙◌}
use Rattle.std.specs.{Prelude.IfOk, Map.Iter.deref_pair, FinMap.entries, List.filter}
use Rattle.svnpath.specs.Listings.{listing}
use Rattle.repo_api.specs.Locking.{is_reached}
use Rattle.pathlocks.proofs.Maps.{entries_of}
use Rattle.pathlocks.proofs.locks.Locks.in_the_way.Goals as goal

pub returns : goal.returns
returns c =
    let locks = sym (entries_of c.self.inside.locks.entries c.append_in_the_way.ensures.ordered) ∙ ap entries c.self.view_is in
    let changes = sym (entries_of c.args.changes.now.entries c.append_in_the_way.ensures.changes_ordered) in
    subst (λ so. IfOk c.listed.result (λ locks. map deref_pair locks.items ≡ so))
    (ap listing (c.in_ok-append_in_the_way.ensures.ok ∙ ap (λ xs. map deref_pair xs ++ filter (λ e. is_reached c.args.changes.now.entries e.0) c.self.inside.locks.entries) c.new-found.ensures.items)
    ∙ (λ i. listing (filter (λ e. is_reached (changes i) e.0) (locks i))))
    c.listed.ensures
