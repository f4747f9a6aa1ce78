use Rattle.std.proofs.{Common.{map, drop, ◌+◌, Some, sym, ap, ◌∙◌}, lemmas.List.at_drop_more}
use Rattle.std.specs.{Map.Iter.deref_pair, Prelude.{if◌then◌else◌, is_some, option_copied}}
use Rattle.pathlocks.specs.Handed.{is_lent}
use Rattle.repo_api.specs.Locking.{first_refusing, way_refusal}
use Rattle.pathlocks.proofs.refusing.first_refusing.Goals as goal

pub returns-in-Some : goal.returns-in-Some
returns-in-Some c =
    let rest = first_refusing (option_copied c.args.user) (is_lent c.args.tokens.now.keys) (map deref_pair (drop (c.loop-pair.pair-index + 1) c.args.locks.now)) in
    sym (c.loop-pair.invariant
    ∙ at_drop_more (λ xs. first_refusing (option_copied c.args.user) (is_lent c.args.tokens.now.keys) (map deref_pair xs)) c.args.locks.now c.loop-pair.pair-index c.pair-item.result c.loop-pair-test.true
    ∙ ap (λ x. if is_some (way_refusal (option_copied c.args.user) (is_lent c.args.tokens.now.keys) (deref_pair x).1) then Some (deref_pair x).0 else rest) (sym c.pair-item.is)
    ∙ ap (λ o. if is_some o then Some (deref_pair c.pair-item.result).0 else rest) (sym c.way_refusal.ensures ∙ c.in-Some.is))

pub loop-pair-preserved : goal.loop-pair-preserved
loop-pair-preserved c =
    let rest = first_refusing (option_copied c.args.user) (is_lent c.args.tokens.now.keys) (map deref_pair (drop (c.loop-pair.pair-index + 1) c.args.locks.now)) in
    c.loop-pair.invariant
    ∙ at_drop_more (λ xs. first_refusing (option_copied c.args.user) (is_lent c.args.tokens.now.keys) (map deref_pair xs)) c.args.locks.now c.loop-pair.pair-index c.pair-item.result c.loop-pair-test.true
    ∙ ap (λ x. if is_some (way_refusal (option_copied c.args.user) (is_lent c.args.tokens.now.keys) (deref_pair x).1) then Some (deref_pair x).0 else rest) (sym c.pair-item.is)
    ∙ ap (λ o. if is_some o then Some (deref_pair c.pair-item.result).0 else rest) (sym c.way_refusal.ensures ∙ c.in_default.is)
