use Rattle.std.proofs.{Common.{rules, ap, sym, ◌∙◌}, lemmas.Map.Made.filter_same_pairs}
use Rattle.std.specs.Prelude.{option_copied}
use Rattle.edit_rules.specs.Tokens.{opened_under, stays_open}
use Rattle.edit_rules.proofs.Places.{filter_found}
use Rattle.edit_rules.proofs.closing.close_by_walk.Goals as goal

pub returns-clause-closed : goal.returns-clause-closed
returns-clause-closed c =
    filter_same_pairs _ (λ e. stays_open (option_copied c.args.kept) c.args.path.now e.0 e.1) _ (λ k v b w f' t. search rules) _ _ c.retain.ensures.filtered

pub returns-clause-placed : goal.returns-clause-placed
returns-clause-placed c = λ places have t o at.
    have t o
    (filter_found (stays_open (option_copied c.args.kept) c.args.path.now) c.args.opened.now.entries c.retain.ensures.was_ordered t o
    (ap (λ es. opened_under es t) (sym (returns-clause-closed c)) ∙ at))
