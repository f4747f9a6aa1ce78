use Rattle.std.proofs.{Common.{◌≡◌, List, Some, ap, length, ltb-true, refl, rules, slice_get, sym, ◌∙◌}, lemmas.Option.{get_or_from_slice_get, slice_get_read}}
use Rattle.std.specs.declared.cmp.Ordering.TheVariants.{Equal}
use Rattle.svnpath.specs.Paths.{path_cmp}
use Rattle.repo_api.specs.Histories.{Changed}
use Rattle.block_rules.proofs.Searching.{hit}
use Rattle.filed_writing.proofs.finding.change_at.Goals as goal

pub returns-in-Equal : goal.returns-in-Equal
returns-in-Equal c sorted =
    let changes : List Changed = c.args.changes.now in
    let e : Changed = c.in_ok-entry.entry.now in
    let here : path_cmp e.0 c.args.path.now ≡ Equal = search rules in
    let at : slice_get changes c.args.place ≡ Some e =
    slice_get_read changes (length changes) c.args.place e refl (ltb-true c.args.place (length changes) (sym c.in_ok-entry.ensures.lookup.0)) c.in_ok-entry.ensures.lookup.1 in
    hit changes sorted c.args.path.now c.args.place e
    (λ (d : Changed). ap (λ (x : Changed). path_cmp x.0 c.args.path.now) (get_or_from_slice_get changes c.args.place e d at) ∙ here) at
