use Rattle.std.proofs.Common.{◌+◌, sym, ap, ◌∙◌, drop}
use Rattle.repo_api.specs.{Held.list_of, Properties.{with_properties, with_property}}
use Rattle.repo_api.proofs.Ordered.{drop_at, read}
use Rattle.repo_api.proofs.held.set_rows.Goals as goal

pub loop-name-preserved : goal.loop-name-preserved
loop-name-preserved c =
    let rows = c.args.rows.now in
    let row = c.loop-name-item.result in
    let at = read rows c.loop-name.name-index row c.loop-name-test.true c.loop-name-item.is in
    let rest = drop (c.loop-name.name-index + 1) rows in (
      ap (λ q. with_properties q rest)
          (c.in_ok-set.ensures.ok
          ∙ ap (λ n. with_property (list_of c.loop-name.held) n c.in_ok-clone-2.field-0) c.in_ok-clone.ensures.cases
          ∙ ap (λ v. with_property (list_of c.loop-name.held) row.0 v) c.in_ok-clone-2.ensures.cases)
          ∙ ap (with_properties (list_of c.loop-name.held)) (sym (drop_at rows c.loop-name.name-index row at))
          ∙ c.loop-name.invariant.0,
      c.in_ok-set.ensures.order,
    )
