use Rattle.std.proofs.{Common.{◌≡◌, ◌<◌, rules, tests, Some, option_map, length, sym, ap, ◌∙◌}, lemmas.List.map-set}
use Rattle.std.proofs.lemmas.Option.{slice_get-map, slice_get-get_or}
use Rattle.std.specs.Prelude.{slice_get, slice_set}
use Rattle.repo_api.specs.{Kinds.or_empty, RevisionProperties.property_changed}
use Rattle.flat_commits.specs.Contents.{values}
use Rattle.flat_commits.proofs.revisions.with_property.Goals as goal

pub returns : goal.returns
returns c =
    let n = c.args.number in
    let lists = c.args.lists.now in
    let within : n < length lists = search (rules, tests) in
    let here : slice_get (values lists) n ≡ Some c.index-lists-place.result.value =
    slice_get-map (λ a. a.value) lists n
    ∙ ap (option_map (λ a. a.value)) (slice_get-get_or lists n c.index-lists-place.result within)
    ∙ ap (λ a. Some a.value) (sym c.index-lists-place.is) in
    map-set (λ a. a.value) c.in_ok-lists.lists.items n c.in_ok-list-2.list
    ∙ ap (λ xs. slice_set xs n c.in_ok-list-2.list.value) c.in_ok-lists.ensures
    ∙ ap (slice_set (values lists) n) (c.in_ok-list-2.ensures.ok ∙ c.in_ok-list.ensures
    ∙ ap (property_changed c.args.name c.args.value) (c.deref.ensures ∙ ap or_empty (sym here)))
