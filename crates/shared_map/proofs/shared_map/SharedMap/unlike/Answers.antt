use Rattle.std.proofs.Common.{◌≡◌, ◌⊎◌, map, Some, ap, subst, ◌∙◌}
use Rattle.std.specs.{FinMap.get, List.{All, AllByRecursion, Contains}, Map.Iter.deref}
use Rattle.shared_map.specs.Entries.{all_entries}
use Rattle.shared_map.proofs.{Copies.if_ok, Unlike.{had, had_or_listed}}
use Rattle.shared_map.proofs.shared_map.SharedMap.unlike.Goals as goal

pub returns-clause-from : goal.returns-clause-from
returns-clause-from g c =
    let es = all_entries c.self.inside.parts.items in
    let shown : map deref c.as_slice.result.now ≡ es = ap (map deref) c.as_slice.ensures.value ∙ c.in_ok-entries.ensures ∙ ap all_entries c.deref.ensures.value in
    if_ok c.unlike.result (λ list. AllByRecursion (Contains (map deref c.as_slice.result.now)) (map deref list.items)) _
    (λ list all. subst (λ m. All (λ e. get m e.0 ≡ Some e.1) (map deref list.items)) c.self.view_is
    (had es c.self.invariant.sorted (map deref list.items) (subst (λ l. AllByRecursion (Contains l) (map deref list.items)) shown all)))
    c.unlike.ensures.from

pub returns-clause-others : goal.returns-clause-others
returns-clause-others g c =
    let es = all_entries c.self.inside.parts.items in
    let os = all_entries c.other.inside.parts.items in
    let shown : map deref c.as_slice.result.now ≡ es = ap (map deref) c.as_slice.ensures.value ∙ c.in_ok-entries.ensures ∙ ap all_entries c.deref.ensures.value in
    let seen : map deref c.as_slice-2.result.now ≡ os = ap (map deref) c.as_slice-2.ensures.value ∙ c.in_ok-others.ensures ∙ ap all_entries c.deref-2.ensures.value in
    if_ok c.unlike.result
    (λ list. AllByRecursion (λ e. Contains (map deref c.as_slice-2.result.now) e ⊎ Contains (map deref list.items) e) (map deref c.as_slice.result.now)) _
    (λ list all name value is. subst (λ m. (get m name ≡ Some value) ⊎ Contains (map deref list.items) (name, value)) c.other.view_is
    (had_or_listed es os (map deref list.items) c.self.invariant.sorted c.other.invariant.sorted
    (subst (λ l. AllByRecursion (λ e. Contains l e ⊎ Contains (map deref list.items) e) es) seen
    (subst (λ l. AllByRecursion (λ e. Contains (map deref c.as_slice-2.result.now) e ⊎ Contains (map deref list.items) e) l) shown all))
    name value (ap (λ m. get m name) c.self.view_is ∙ is)))
    c.unlike.ensures.others
