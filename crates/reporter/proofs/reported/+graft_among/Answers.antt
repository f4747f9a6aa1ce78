use Rattle.std.proofs.Common.{arith, sym, subst, ◌∙◌, ◌≡◌, ◌≤◌, take, length, get_or, Some, None}
use Rattle.repo_api.specs.States.{trees_in}
use Rattle.reporter.specs.{Finding.IsLastAbove, Reported.reported}
use Rattle.reporter.proofs.{Deciding.{shows_both, placed_in, unplaced_in, held_by}, Finding.{none_at, placed_at, surely_at, unplaced_at}}
use Rattle.reporter.proofs.reported.+graft_among.Goals as goal

pub returns-then-is_surely_placed : goal.returns-then-is_surely_placed
returns-then-is_surely_placed g t c =
    let trees = trees_in (g.R.Repository.content c.args.view.now).revisions in
    let gs = c.args.first.grafts.now in
    let graft = c.index-as_slice-place.result in
    let kept = c.loop-place.invariant in
    let few : c.loop-place.count ≤ length gs = let le = kept.0 in let all = c.requires.count in omega (le, all, arith) in
    let last = subst (λ o. IsLastAbove c.args.path.now gs c.loop-place.count o) c.in-Some.is c.in_ok-place.ensures in
    let is = subst (λ xs. graft ≡ get_or xs c.in-Some.place graft) c.as_slice.ensures c.index-as_slice-place.is in
    shows_both (g.R.Repository.content c.args.view.now) c.args.top.now gs c.args.first.count c.args.path.now (Some graft)
    (surely_at trees c.args.top.now gs c.args.first.count c.args.path.now c.loop-place.count kept.1 few c.in-Some.place graft last is c.requires.trees (sym c.is_surely_placed.ensures ∙ c.if-is_surely_placed.true))

pub returns-then-branch : goal.returns-then-branch
returns-then-branch g t c =
    let trees = trees_in (g.R.Repository.content c.args.view.now).revisions in
    let gs = c.args.first.grafts.now in
    let graft = c.index-as_slice-place.result in
    let kept = c.loop-place.invariant in
    let few : c.loop-place.count ≤ length gs = let le = kept.0 in let all = c.requires.count in omega (le, all, arith) in
    let last = subst (λ o. IsLastAbove c.args.path.now gs c.loop-place.count o) c.in-Some.is c.in_ok-place.ensures in
    let is = subst (λ xs. graft ≡ get_or xs c.in-Some.place graft) c.as_slice.ensures c.index-as_slice-place.is in
    let had = reported trees c.args.top.now (take c.in-Some.place gs) in
    shows_both (g.R.Repository.content c.args.view.now) c.args.top.now gs c.args.first.count c.args.path.now (Some graft)
    (placed_at trees c.args.top.now gs c.args.first.count c.args.path.now c.loop-place.count kept.1 few c.in-Some.place graft last is
    (placed_in c.args.top.now had graft
    (held_by trees c.args.top.now (take c.in-Some.place gs) graft _ _ _ c.in_ok-above.ensures c.in_ok-holder.ensures.here c.in_ok-shows_directory.ensures ∙ c.if-branch.true)))

pub loop-place-preserved : goal.loop-place-preserved
loop-place-preserved g t c =
    let trees = trees_in (g.R.Repository.content c.args.view.now).revisions in
    let gs = c.args.first.grafts.now in
    let graft = c.index-as_slice-place.result in
    let kept = c.loop-place.invariant in
    let few : c.loop-place.count ≤ length gs = let le = kept.0 in let all = c.requires.count in omega (le, all, arith) in
    let last = subst (λ o. IsLastAbove c.args.path.now gs c.loop-place.count o) c.in-Some.is c.in_ok-place.ensures in
    let is = subst (λ xs. graft ≡ get_or xs c.in-Some.place graft) c.as_slice.ensures c.index-as_slice-place.is in
    let had = reported trees c.args.top.now (take c.in-Some.place gs) in (
      let lt = last.0 in let le = kept.0 in omega (lt, le, arith),
      unplaced_at trees c.args.top.now gs c.args.first.count c.args.path.now c.loop-place.count kept.1 few c.in-Some.place graft last is
          (unplaced_in c.args.top.now had graft (sym c.is_surely_placed.ensures ∙ c.if-is_surely_placed.false)
          (held_by trees c.args.top.now (take c.in-Some.place gs) graft _ _ _ c.in_ok-above.ensures c.in_ok-holder.ensures.here c.in_ok-shows_directory.ensures ∙ c.if-branch.false)),
    )

pub returns : goal.returns
returns g t c =
    let trees = trees_in (g.R.Repository.content c.args.view.now).revisions in
    let gs = c.args.first.grafts.now in
    let kept = c.loop-place.invariant in
    let few : c.loop-place.count ≤ length gs = let le = kept.0 in let all = c.requires.count in omega (le, all, arith) in
    shows_both (g.R.Repository.content c.args.view.now) c.args.top.now gs c.args.first.count c.args.path.now None
    (none_at trees c.args.top.now gs c.args.first.count c.args.path.now c.loop-place.count kept.1 few
    (subst (λ o. IsLastAbove c.args.path.now gs c.loop-place.count o) c.in_default.is c.in_ok-place.ensures))
