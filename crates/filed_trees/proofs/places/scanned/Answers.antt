use Rattle.std.proofs.{Common.{◌≡◌, ◌<◌, ◌≤◌, ℕ, List, Option, length, None, Some, refl, sym, ap, ◌∙◌, arith, ⊎_elim}, lemmas.Bool.{cases_lt, false≢true}}
use Rattle.std.proofs.lemmas.Option.{same_Some, slice_get-get_or, slice_get_within}
use Rattle.std.specs.Prelude.{IsSomeAnd, slice_get}
use Rattle.filed_trees.specs.declared.placed.Placed.{Placed}
use Rattle.filed_trees.proofs.places.scanned.Goals as goal

none_found : {A : Type 0} (xs : List A) (P : A → Type 0) (k : ℕ) → length xs ≤ k
    → ((j : ℕ) (x : A) → j < k → slice_get xs j ≡ Some x → P x → ⊥) → ((j : ℕ) × IsSomeAnd (slice_get xs j) P) → ⊥
none_found xs P k past none found = by (slice_get xs found.0) refl found.1
  where
    by : (o : Option _) → slice_get xs found.0 ≡ o → IsSomeAnd o P → ⊥
    by None at is = is
    by (Some x) at is = none found.0 x (omega (arith, past, slice_get_within xs found.0 x at)) at is

pub loop-k-preserved : goal.loop-k-preserved
loop-k-preserved c = λ j p below at is.
    let k = c.loop-k.k in
    let item = c.index-placed-k.result in
    let here : slice_get c.args.placed.now k ≡ Some item =
    slice_get-get_or c.args.placed.now k item c.loop-k-test.true ∙ ap Some (sym c.index-placed-k.is) in
    ⊎_elim (λ less. c.loop-k.invariant j p less at is)
    (λ not.
    let last : j ≡ k = omega (arith, below, not) in
    let same : item ≡ p = same_Some item p (sym here ∙ (ap (slice_get c.args.placed.now) (sym last) ∙ at)) in
    absurd (false≢true (sym c.if-is_same_id.false ∙ c.is_same_id.ensures.1 (c.id.ensures ∙ (ap (λ (x : Placed). x.id) same ∙ is)))))
    (cases_lt j k)

pub returns : goal.returns
returns c = none_found c.args.placed.now (λ p. p.id ≡ c.args.id) c.loop-k.k (omega (arith, c.loop-k-test.false)) c.loop-k.invariant
