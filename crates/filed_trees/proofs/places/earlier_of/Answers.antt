use Rattle.std.proofs.{Common.{rules, ◌≡◌, ◌<◌, ◌≤◌, length, None, Some, sym, ap, subst, ◌∙◌, arith}, lemmas.Option.{slice_get-get_or, slice_get_within}}
use Rattle.std.specs.Prelude.{IsSomeAnd, option_and_then, slice_get}
use Rattle.noderevs.specs.Held.{node_at}
use Rattle.filed_trees.specs.Readable.{Finds, IsTabled}
use Rattle.filed_trees.proofs.{Compared.is_there, Entering.{of_some, some_within}}
use Rattle.filed_trees.proofs.places.earlier_of.Goals as goal

pub returns-in_err-node-clause-finds : goal.returns-in_err-node-clause-finds
returns-in_err-node-clause-finds c = λ files rows for.
    let places = c.args.places in
    let table = c.in_ok-table.table.now in
    let k = c.in_ok-place.place in
    let at : slice_get places.tables.now c.args.id.revision ≡ Some table = search rules in
    let none : node_at places.nodes.now (record { rev = c.args.id.revision; place = k }) ≡ None = search rules in
    let has : IsSomeAnd (slice_get table.placed.items k) (λ p. p.id ≡ c.args.id) =
    subst (λ l. IsSomeAnd (slice_get l k) (λ p. p.id ≡ c.args.id)) c.as_slice.ensures.value c.in_ok-place.ensures in
    subst (λ r. Finds r (IsTabled places.tables.now c.args.id)) (sym c.from_residual-in_err-node.ensures)
    (λ is. is_there files places rows for table k c.args.id at has none)

pub returns-in_err-placed-clause-finds : goal.returns-in_err-placed-clause-finds
returns-in_err-placed-clause-finds c = λ files rows for.
    let table = c.in_ok-table.table.now in
    let k = c.in_ok-place.place in
    let has : IsSomeAnd (slice_get table.placed.items k) (λ p. p.id ≡ c.args.id) =
    subst (λ l. IsSomeAnd (slice_get l k) (λ p. p.id ≡ c.args.id)) c.as_slice.ensures.value c.in_ok-place.ensures in
    let past : length table.placed.items ≤ k = search (rules, arith) in
    absurd (omega (arith, past, some_within table.placed.items k (λ p. p.id ≡ c.args.id) has))

pub returns-clause-earlier : goal.returns-clause-earlier
returns-clause-earlier c =
    let places = c.args.places in
    let id = c.args.id in
    let table = c.in_ok-table.table.now in
    let k = c.in_ok-place.place in
    let placed = c.in_ok-placed.placed.now in
    let at : slice_get places.tables.now id.revision ≡ Some table = search rules in
    let inside : k < length table.placed.items = search (rules, arith) in
    let here : slice_get table.placed.items k ≡ Some placed =
    slice_get-get_or table.placed.items k placed inside ∙ ap Some (search rules) in
    let has : IsSomeAnd (slice_get table.placed.items k) (λ p. p.id ≡ id) =
    subst (λ l. IsSomeAnd (slice_get l k) (λ p. p.id ≡ id)) c.as_slice.ensures.value c.in_ok-place.ensures in (
      record { rev = id.revision; place = k },
      (
        slice_get_within places.tables.now id.revision table at,
        (
          search rules,
          (
            ap (option_and_then (λ t. slice_get t.placed.items k)) at ∙ here,
            of_some (λ p. p.id ≡ id) (slice_get table.placed.items k) placed here has,
          ),
        ),
      ),
    )
