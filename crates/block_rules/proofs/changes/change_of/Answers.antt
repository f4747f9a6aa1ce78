use Rattle.std.proofs.{Common.{List, length, of_calls, refl, rules, sym}, lemmas.Fn.always_returns_same, lemmas.Option.slice_get_read}
use Rattle.svnpath.specs.Paths.{path_cmp}
use Rattle.repo_api.specs.Histories.{Changed}
use Rattle.block_rules.proofs.Searching.{hit, miss}
use Rattle.block_rules.proofs.changes.change_of.Goals as goal

-- the search ended at the path's entry
pub returns-in_ok-get-in-Ok : goal.returns-in_ok-get-in-Ok
returns-in_ok-get-in-Ok c sorted =
    let changes : List Changed = c.args.changes.now in
    let e : Changed = c.in_ok-get-in-Ok.field-0.now in
    sym (hit changes sorted c.args.path.now c.in-Ok.place e
    (c.in-Ok.ensures.position (λ (x : Changed). path_cmp x.0 c.args.path.now) (always_returns_same _ _ _ (λ a r f called. search (rules, of_calls))))
    (slice_get_read changes (length changes) c.in-Ok.place e refl c.in-Ok.ensures.bound c.in_ok-get-in-Ok.ensures.lookup.1))

-- it ended at a gap
pub returns-in-Err : goal.returns-in-Err
returns-in-Err c sorted =
    sym (miss c.args.changes.now sorted c.args.path.now c.in-Err.field-0
    (c.in-Err.ensures.position (λ (x : Changed). path_cmp x.0 c.args.path.now) (always_returns_same _ _ _ (λ a r f called. search (rules, of_calls)))))
