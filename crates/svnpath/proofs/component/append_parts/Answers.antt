-- Each part of the text is the next of `slice_split`, and a component is read from it and pushed.
use Rattle.std.proofs.{Common.{map, inl, inr, rules, tests}, lemmas.Iterator.Consumers.{YieldsList-turn, YieldsList-end}}
use Rattle.std.proofs.{lemmas.Iterator.Splits.YieldsList-from_slice_split, lemmas.List.length_push, lemmas.Result.err_from_is_err_and}
use Rattle.svnpath.proofs.BeneathLemmas.{beneath_right, parts_kept, parts_refused, parts_done}
use Rattle.std.specs.List.{slice_split}
use Rattle.svnpath.specs.{Spelled.read_part, Texts.is_slash}
use Rattle.svnpath.proofs.component.append_parts.Goals as goal

pub loop-part-preserved : goal.loop-part-preserved
loop-part-preserved c =
    let turn = YieldsList-turn (YieldsList-from_slice_split _ is_slash c.args.text.now (cc) (cc) (cc) (λ x r q k. search (rules, tests))) c.loop-part.yielded _ c.loop-part.yielded_by _ _ c.in-Some.part c.in-Some.is c.next.ensures.steps in
    parts_kept (read_part c.args.spelling) _ _ _ _ _ _ _ _ turn (length_push _ _) c.in_ok-read_part.ensures c.in_ok-push_component.ensures.ok c.in_ok-push_component.ensures.right c.loop-part.invariant

pub returns-in_err-push_component-clause-value : goal.returns-in_err-push_component-clause-value
returns-in_err-push_component-clause-value c =
    let turn = YieldsList-turn (YieldsList-from_slice_split _ is_slash c.args.text.now (cc) (cc) (cc) (λ x r q k. search (rules, tests))) c.loop-part.yielded _ c.loop-part.yielded_by _ _ c.in-Some.part c.in-Some.is c.next.ensures.steps in
    let passed = err_from_is_err_and c.from_residual-in_err-push_component.result c.from_residual-in_err-push_component.ensures.1 in
    rw (passed.1, passed.2)
    (elim c.in_err-push_component.ensures.err [
      | inl wrong ↦ inl (parts_refused (read_part c.args.spelling) _ _ _ _ _ _ _ turn c.in_ok-read_part.ensures wrong c.loop-part.invariant)
      | inr memory ↦ inr memory
    ])

pub returns-clause-value : goal.returns-clause-value
returns-clause-value c =
    let over = YieldsList-end (YieldsList-from_slice_split _ is_slash c.args.text.now (cc) (cc) (cc) (λ x r q k. search (rules, tests))) c.loop-part.yielded _ c.loop-part.yielded_by _ _ c.in-None.is c.next.ensures.steps in
    parts_done (read_part c.args.spelling) _ _ _ _ over.1 c.loop-part.invariant

pub returns-clause-right : goal.returns-clause-right
returns-clause-right c right =
    beneath_right (map (read_part c.args.spelling) (slice_split is_slash c.args.text.now)) c.args.above.items _ right (returns-clause-value c)
