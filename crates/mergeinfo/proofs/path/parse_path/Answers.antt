use Rattle.std.proofs.{Common.{rules, tests, arith, sym, ◌∙◌}, lemmas.Iterator.Consumers.{YieldsList-turn, YieldsList-end}}
use Rattle.std.proofs.{lemmas.Iterator.Splits.YieldsList-from_slice_split, lemmas.List.length_push}
use Rattle.svnpath.specs.Texts.{is_slash}
use Rattle.mergeinfo.specs.Texts.{path_of}
use Rattle.mergeinfo.proofs.Named.{path_passed, path_kept, path_refused, path_too_deep, path_done}
use Rattle.mergeinfo.proofs.path.parse_path.Goals.{then-not-is_component-via-then-not-is_component}
use Rattle.mergeinfo.proofs.path.parse_path.Goals.{then-not-is_component-via-else-not-is_component+then-len-ge-DEPTH_LIMIT}
use Rattle.mergeinfo.proofs.path.parse_path.Goals as goal

pub returns-then-not-is_component : goal.returns-then-not-is_component
unfolding path_of
returns-then-not-is_component c =
    let turn = YieldsList-turn (YieldsList-from_slice_split _ is_slash c.args.text.now (cc) (cc) (cc) (λ x r q k. search (rules, tests))) c.loop-part.yielded _ c.loop-part.yielded_by _ _ c.in-Some.part c.in-Some.is c.next.ensures.steps in
    let named = sym c.is_named.ensures ∙ c.if-is_named.true in
    elim c.then-not-is_component.branch [
      | then-not-is_component-via-then-not-is_component w ↦
          path_refused _ _ _ _ _ turn named (sym c.is_component.ensures ∙ w.if-not-is_component.true) c.loop-part.invariant
      | then-not-is_component-via-else-not-is_component+then-len-ge-DEPTH_LIMIT w ↦
          path_too_deep _ _ _ _ _ turn named (sym c.is_component.ensures ∙ w.if-not-is_component.false) (omega (arith, w.len.ensures, w.if-len-ge-DEPTH_LIMIT.true)) c.loop-part.invariant
    ]

pub loop-part-preserved-then-is_named : goal.loop-part-preserved-then-is_named
loop-part-preserved-then-is_named c =
    let turn = YieldsList-turn (YieldsList-from_slice_split _ is_slash c.args.text.now (cc) (cc) (cc) (λ x r q k. search (rules, tests))) c.loop-part.yielded _ c.loop-part.yielded_by _ _ c.in-Some.part c.in-Some.is c.next.ensures.steps in
    path_kept _ _ _ _ _ _ _ _ turn (length_push _ _) (sym c.is_named.ensures ∙ c.if-is_named.true) (sym c.is_component.ensures ∙ c.if-not-is_component.false)
    (omega (arith, c.len.ensures, c.if-len-ge-DEPTH_LIMIT.false)) c.in_ok-path.ensures c.in_ok-from_slice.ensures c.loop-part.invariant

pub loop-part-preserved : goal.loop-part-preserved
loop-part-preserved c =
    let turn = YieldsList-turn (YieldsList-from_slice_split _ is_slash c.args.text.now (cc) (cc) (cc) (λ x r q k. search (rules, tests))) c.loop-part.yielded _ c.loop-part.yielded_by _ _ c.in-Some.part c.in-Some.is c.next.ensures.steps in
    path_passed _ _ _ _ _ _ turn (length_push _ _) (sym c.is_named.ensures ∙ c.if-is_named.false) c.loop-part.invariant

pub returns : goal.returns
unfolding path_of
returns c =
    let over = YieldsList-end (YieldsList-from_slice_split _ is_slash c.args.text.now (cc) (cc) (cc) (λ x r q k. search (rules, tests))) c.loop-part.yielded _ c.loop-part.yielded_by _ _ c.in-None.is c.next.ensures.steps in
    path_done _ _ _ _ over.1 c.loop-part.invariant
