use Rattle.std.proofs.{Common.{◌≡◌, ◌<◌, ◌+◌, ◌∷◌, ◌++◌, [], arith, map, length, ap, ◌∙◌}, lemmas.List.length-append}
use Rattle.std.specs.FinMap.{keys}
use Rattle.svnpath.specs.Paths.{Component, PathValue}
use Rattle.repo_api.specs.{Readings.names_in, States.tree_at}
use Rattle.merge_queries.proofs.{Leading.{child_short, names_altogether}, Noting.{all_noted, name_among, nothing_noted, noted_more}}
use Rattle.merge_queries.proofs.beneath.+note_beneath.Goals as goal
use denote.Ref.{Bor}

pub loop-name-init : goal.loop-name-init
loop-name-init g t c = record {
  noted = nothing_noted (tree_at (g.R.Repository.content c.args.repository.now) c.args.revision) c.args.path.now c.args.found.now.keys;
  ordered = λ so. so;
}

pub note_beneath-requires : goal.note_beneath-requires
note_beneath-requires g t c κs inside = (omega (c.decreases, short, longer, arith), (inside.0, inside.1))
  where
    short : length c.args.path.now < names_altogether (keys (tree_at (g.R.Repository.content c.args.repository.now) c.args.revision))
    short =
        child_short (tree_at (g.R.Repository.content c.args.repository.now) c.args.revision) c.args.path.now c.name-item.result.now
        (name_among (tree_at (g.R.Repository.content c.args.repository.now) c.args.revision) c.args.path.now c.as_slice-name-items.result.now c.loop-name.name-index
        c.name-item.result (ap (map (λ (n : Bor Component). n.now)) c.as_slice-name-items.ensures.value ∙ c.in_ok-names.ensures) c.loop-name-test.true c.name-item.is)

    longer : length c.in_ok-child.child ≡ length c.args.path.now + 1
    longer = ap (λ (p : PathValue). length p) c.in_ok-child.ensures ∙ length-append c.args.path.now (c.in_ok-clone.field-0 ∷ [])

pub loop-name-preserved : goal.loop-name-preserved
loop-name-preserved g t c =
    let m = tree_at (g.R.Repository.content c.args.repository.now) c.args.revision in
    let items = c.as_slice-name-items.result.now in
    record {
      noted =
          noted_more m c.args.path.now c.in_ok-child.child items c.loop-name.name-index c.name-item.result _ _ _ _ c.loop-name-test.true c.name-item.is
          (◌∙◌ {b = c.args.path.now ++ c.in_ok-clone.field-0 ∷ []} c.in_ok-child.ensures (ap (λ (x : Component). c.args.path.now ++ x ∷ []) c.in_ok-clone.ensures.cases))
          c.in_ok-note.ensures.noted c.in_ok-note_beneath.ensures.noted c.loop-name.invariant.noted;
      ordered = λ so. c.in_ok-note_beneath.ensures.ordered (c.in_ok-note.ensures.ordered (c.loop-name.invariant.ordered so));
    }

pub returns-clause-noted : goal.returns-clause-noted
returns-clause-noted g t c =
    let m = tree_at (g.R.Repository.content c.args.repository.now) c.args.revision in
    let items = c.as_slice-name-items.result.now in
    all_noted m c.args.path.now items c.loop-name.name-index _ _
    (◌∙◌ {c = names_in (tree_at (g.R.Repository.content c.args.repository.now) c.args.revision) c.args.path.now}
    (ap (map (λ (n : Bor Component). n.now)) c.as_slice-name-items.ensures.value) c.in_ok-names.ensures)
    (omega (arith, c.loop-name-test.false)) c.loop-name.invariant.noted
