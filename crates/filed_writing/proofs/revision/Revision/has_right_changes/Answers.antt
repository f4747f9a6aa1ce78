use Rattle.std.proofs.{Common.{◌≡◌, All, List, true, arith, refl, rules, subst}, lemmas.List.take_all, lemmas.List.Elements.All-more}
use Rattle.repo_api.specs.Histories.{Changed}
use Rattle.filed_writing.proofs.Keeping.{Keeps, all_keep}
use Rattle.filed_writing.proofs.revision.Revision.has_right_changes.Goals as goal

pub loop-change-preserved : goal.loop-change-preserved
loop-change-preserved c =
    let r = c.args.self in
    let yes : c.is_right_change.result ≡ true = search rules in
    All-more (Keeps r.number) r.changes.now c.loop-change.change-index c.change-item.result (omega (arith, c.loop-change-test.true)) c.loop-change.invariant
    (subst (λ (change : Changed). Keeps r.number change) c.change-item.is (c.is_right_change.ensures.0 yes))

pub returns : goal.returns
returns c =
    let r = c.args.self in (
      λ _. all_keep r (subst (λ (changes : List Changed). All (Keeps r.number) changes)
          (take_all c.loop-change.change-index r.changes.now (omega (arith, c.loop-change-test.false))) c.loop-change.invariant),
      λ _. refl,
    )
