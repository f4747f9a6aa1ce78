use Rattle.std.proofs.Common.{◌≡◌, ◌++◌, map, sym, ap, subst, ◌∙◌}
use Rattle.std.specs.{Prelude.IfOk, Map.Iter.deref_pair, FinMap.entries, List.filter}
use Rattle.svnpath.specs.{Listings.listing, Paths.is_at_or_under}
use Rattle.pathlocks.proofs.Maps.{entries_of}
use Rattle.pathlocks.proofs.locks.Locks.at_or_under.Goals as goal

pub returns : goal.returns
returns c =
    subst (λ so. IfOk c.listed.result (λ locks. map deref_pair locks.items ≡ so))
    (ap listing (c.in_ok-append_under.ensures.ok ∙ ap (λ xs. map deref_pair xs ++ filter (λ e. is_at_or_under e.0 c.args.path.now) c.self.inside.locks.entries) c.new-found.ensures.items)
    ∙ ap (λ es. listing (filter (λ e. is_at_or_under e.0 c.args.path.now) es))
    (sym (entries_of c.self.inside.locks.entries c.append_under.ensures.ordered) ∙ ap entries c.self.view_is))
    c.listed.ensures
