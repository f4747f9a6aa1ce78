use Rattle.std.proofs.{Common.{◌≡◌, rules, tests, sym, subst, ◌∙◌, Some, None}, lemmas.Iterator.Consumers.{YieldsList-turn, YieldsList-end}}
use Rattle.std.proofs.{lemmas.Iterator.Splits.YieldsList-from_slice_split, lemmas.List.length_push, lemmas.List.Elements.All-push}
use Rattle.std.specs.List.{All}
use Rattle.mergeinfo.specs.{Ranges.IsRightRange, Texts.{is_comma, range_of}}
use Rattle.mergeinfo.proofs.Reading.{parts_kept, parts_refused, parts_done}
use Rattle.mergeinfo.proofs.range.parse_each.Goals as goal

pub loop-part-preserved : goal.loop-part-preserved
loop-part-preserved c =
    let turn = YieldsList-turn (YieldsList-from_slice_split _ is_comma c.args.text.now (cc) (cc) (cc) (λ x r q k. search (rules, tests))) c.loop-part.yielded _ c.loop-part.yielded_by _ _ c.in-Some.part c.in-Some.is c.next.ensures.steps in
    let read : range_of c.in-Some.part.now ≡ Some c.in-Some-parse_range.range = sym c.parse_range.ensures.value ∙ c.in-Some-parse_range.is in
    record {
      read = parts_kept range_of _ _ _ _ _ _ _ _ turn (length_push _ _) read c.in_ok-push-in-Some-parse_range.ensures.items c.loop-part.invariant.read;
      right = subst (All IsRightRange) (sym c.in_ok-push-in-Some-parse_range.ensures.items) (All-push IsRightRange _ _ c.loop-part.invariant.right c.in-Some-parse_range.ensures.right);
    }

pub returns-in-None-parse_range-clause-value : goal.returns-in-None-parse_range-clause-value
returns-in-None-parse_range-clause-value c =
    let turn = YieldsList-turn (YieldsList-from_slice_split _ is_comma c.args.text.now (cc) (cc) (cc) (λ x r q k. search (rules, tests))) c.loop-part.yielded _ c.loop-part.yielded_by _ _ c.in-Some.part c.in-Some.is c.next.ensures.steps in
    let read : range_of c.in-Some.part.now ≡ None = sym c.parse_range.ensures.value ∙ c.in-None-parse_range.is in
    parts_refused range_of _ _ _ _ _ turn read c.loop-part.invariant.read

pub returns-clause-value : goal.returns-clause-value
returns-clause-value c =
    let over = YieldsList-end (YieldsList-from_slice_split _ is_comma c.args.text.now (cc) (cc) (cc) (λ x r q k. search (rules, tests))) c.loop-part.yielded _ c.loop-part.yielded_by _ _ c.in-None.is c.next.ensures.steps in
    parts_done range_of _ _ _ _ over.1 c.loop-part.invariant.read
