use Rattle.std.proofs.{Common.{List, length, of_calls, refl, rules}, lemmas.Fn.always_returns_same, lemmas.Option.slice_get_read}
use Rattle.svnpath.specs.Paths.{path_cmp}
use Rattle.repo_api.specs.Histories.{Changed}
use Rattle.filed_trees.proofs.Sought.{sought, unsought}
use Rattle.filed_trees.proofs.changes.change_at.Goals as goal

pub returns-in-Ok : goal.returns-in-Ok
returns-in-Ok c =
    let changes : List Changed = c.args.changes.now in
    sought changes c.requires c.args.path.now c.in-Ok.place c.index-changes-place.result
    (c.in-Ok.ensures.position (λ (x : Changed). path_cmp x.0 c.args.path.now) (always_returns_same _ _ _ (λ a r f called. search (rules, of_calls))))
    (slice_get_read changes (length changes) c.in-Ok.place c.index-changes-place.result refl c.in-Ok.ensures.bound c.index-changes-place.is)

pub returns-in-Err : goal.returns-in-Err
returns-in-Err c =
    unsought c.args.changes.now c.requires c.args.path.now c.in-Err.field-0
    (c.in-Err.ensures.position (λ (x : Changed). path_cmp x.0 c.args.path.now) (always_returns_same _ _ _ (λ a r f called. search (rules, of_calls))))
