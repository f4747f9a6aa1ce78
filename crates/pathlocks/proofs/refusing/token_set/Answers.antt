use Rattle.std.proofs.{Common.{◌||◌, take, sym, ap, ◌∙◌}, lemmas.List.Folds.list_any_more}
use Rattle.svnpath.specs.Paths.{same_component}
use Rattle.pathlocks.specs.Handed.{is_lent}
use Rattle.repo_api.specs.Locking.{is_handed_in}
use Rattle.pathlocks.proofs.Handed.{among_inserted}
use Rattle.pathlocks.proofs.refusing.token_set.Goals as goal

pub loop-pair-preserved : goal.loop-pair-preserved
loop-pair-preserved c = λ token.
    ap (λ ks. is_lent ks token) c.in_ok-insert.ensures.keys
    ∙ among_inserted c.loop-pair.set.keys c.as_slice.result token
    ∙ (λ i. c.loop-pair.invariant token i || same_component (c.as_slice.ensures i) token)
    ∙ ap (λ t. is_handed_in (take c.loop-pair.pair-index c.args.tokens.now) token || same_component t.1 token) c.pair-item.is
    ∙ sym (list_any_more (λ t. same_component t.1 token) c.args.tokens.now c.loop-pair.pair-index c.pair-item.result c.loop-pair-test.true)
