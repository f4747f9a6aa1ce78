use Rattle.std.proofs.{Common.{◌++◌, ◌∷◌, [], sym, ap, ◌∙◌, take, option_copied}, lemmas.Bool.{or_from, or_left, or_parts}, lemmas.List.Folds.list_any_more}
use Rattle.svnpath.specs.Paths.{is_at_or_under, same_component}
use Rattle.repo_api.specs.Readings.{is_name_among}
use Rattle.replays.proofs.{Beneath.{has_at, is_named, not_by, nothing_from}, NameSets.take-all}
use Rattle.replays.proofs.names.put_run_names.Goals as goal

pub loop-entry-preserved-in_default : goal.loop-entry-preserved-in_default
loop-entry-preserved-in_default c = (
  c.loop-entry.invariant.0,
  λ x out.
      let p = c.args.path.now in
      let entry = c.entry-item.result in
      list_any_more (λ e. is_at_or_under e.0 (p ++ x ∷ [])) c.args.run.now c.loop-entry.entry-index entry c.loop-entry-test.true
      ∙ or_from (has_at (take c.loop-entry.entry-index c.args.run.now) (p ++ x ∷ [])) _ (c.loop-entry.invariant.1 x out)
      (sym (ap (λ e. is_at_or_under e.0 (p ++ x ∷ [])) c.entry-item.is)
      ∙ not_by p x entry.0 (option_copied c.name_beneath.result) c.name_beneath.ensures (ap (λ o. is_named x (option_copied o)) c.in_default.is)),
)

pub loop-entry-preserved : goal.loop-entry-preserved
loop-entry-preserved c = (
  λ x among.
      c.in_ok-put_missing.ensures x
      ∙ or_left (is_name_among c.loop-entry.names.keys x) (same_component x c.in-Some.name.now) (c.loop-entry.invariant.0 x among),
  λ x out.
      let p = c.args.path.now in
      let entry = c.entry-item.result in
      let parts = or_parts (is_name_among c.loop-entry.names.keys x) (same_component x c.in-Some.name.now) (sym (c.in_ok-put_missing.ensures x) ∙ out) in
      list_any_more (λ e. is_at_or_under e.0 (p ++ x ∷ [])) c.args.run.now c.loop-entry.entry-index entry c.loop-entry-test.true
      ∙ or_from (has_at (take c.loop-entry.entry-index c.args.run.now) (p ++ x ∷ [])) _ (c.loop-entry.invariant.1 x parts.0)
      (sym (ap (λ e. is_at_or_under e.0 (p ++ x ∷ [])) c.entry-item.is)
      ∙ not_by p x entry.0 (option_copied c.name_beneath.result) c.name_beneath.ensures
      (ap (λ o. is_named x (option_copied o)) c.in-Some.is ∙ parts.1)),
)

pub returns-clause-holds : goal.returns-clause-holds
returns-clause-holds c = λ x out.
    nothing_from c.args.run.now (c.args.path.now ++ x ∷ [])
    (sym (ap (λ es. has_at es (c.args.path.now ++ x ∷ [])) (take-all c.loop-entry.entry-index c.args.run.now c.loop-entry-test.false))
    ∙ c.loop-entry.invariant.1 x out)
