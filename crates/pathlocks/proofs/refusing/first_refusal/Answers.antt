use Rattle.std.proofs.{Common.{map, drop, ◌+◌, sym, ap, ◌∙◌}, lemmas.List.at_drop_more}
use Rattle.std.specs.{Map.Iter.deref_pair, Option.option_or, Prelude.option_copied}
use Rattle.pathlocks.specs.Handed.{is_lent}
use Rattle.repo_api.specs.Locking.{first_refusal, way_refusal}
use Rattle.pathlocks.proofs.refusing.first_refusal.Goals as goal

pub returns-in-Some : goal.returns-in-Some
returns-in-Some c =
    let rest = first_refusal (option_copied c.args.user) (is_lent c.args.tokens.now.keys) (map deref_pair (drop (c.loop-pair.pair-index + 1) c.args.locks.now)) in
    sym (c.loop-pair.invariant
    ∙ at_drop_more (λ xs. first_refusal (option_copied c.args.user) (is_lent c.args.tokens.now.keys) (map deref_pair xs)) c.args.locks.now c.loop-pair.pair-index c.pair-item.result c.loop-pair-test.true
    ∙ ap (λ x. option_or (way_refusal (option_copied c.args.user) (is_lent c.args.tokens.now.keys) (deref_pair x).1) rest) (sym c.pair-item.is)
    ∙ ap (λ o. option_or o rest) (sym c.way_refusal.ensures ∙ c.in-Some.is))

pub loop-pair-preserved : goal.loop-pair-preserved
loop-pair-preserved c =
    let rest = first_refusal (option_copied c.args.user) (is_lent c.args.tokens.now.keys) (map deref_pair (drop (c.loop-pair.pair-index + 1) c.args.locks.now)) in
    c.loop-pair.invariant
    ∙ at_drop_more (λ xs. first_refusal (option_copied c.args.user) (is_lent c.args.tokens.now.keys) (map deref_pair xs)) c.args.locks.now c.loop-pair.pair-index c.pair-item.result c.loop-pair-test.true
    ∙ ap (λ x. option_or (way_refusal (option_copied c.args.user) (is_lent c.args.tokens.now.keys) (deref_pair x).1) rest) (sym c.pair-item.is)
    ∙ ap (λ o. option_or o rest) (sym c.way_refusal.ensures ∙ c.in_default.is)
