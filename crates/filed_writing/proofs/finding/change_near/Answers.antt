use Rattle.std.proofs.{Common.{List, get_or, of_calls, rules, sym}, lemmas.Fn.always_returns_same, lemmas.Option.slice_get-get_or}
use Rattle.svnpath.specs.Paths.{path_cmp}
use Rattle.repo_api.specs.Histories.{Changed}
use Rattle.block_rules.proofs.Searching.{hit, miss}
use Rattle.filed_writing.proofs.finding.change_near.Goals as goal

-- the search ended at the path's entry
pub returns-in-Ok : goal.returns-in-Ok
returns-in-Ok c sorted =
    let changes : List Changed = c.args.changes.now in
    let there : Changed = c.index-changes-place.result in
    sym (hit changes sorted c.args.path.now c.in-Ok.place (get_or changes c.in-Ok.place there)
    (c.in-Ok.ensures.position (λ (x : Changed). path_cmp x.0 c.args.path.now) (always_returns_same _ _ _ (λ a r f called. search (rules, of_calls))))
    (slice_get-get_or changes c.in-Ok.place there c.in-Ok.ensures.bound))

-- it ended at a gap
pub returns-in-Err : goal.returns-in-Err
returns-in-Err c sorted =
    sym (miss c.args.changes.now sorted c.args.path.now c.in-Err.place
    (c.in-Err.ensures.position (λ (x : Changed). path_cmp x.0 c.args.path.now) (always_returns_same _ _ _ (λ a r f called. search (rules, of_calls)))))
