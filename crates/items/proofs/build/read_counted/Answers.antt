-- Digits, and what lies behind them.
use Rattle.std.proofs.{Common.{◌≡◌, ◌≢◌, ◌⊎◌, inl, inr, ◌<◌, ◌-◌, length, get_or, take, drop, ap, ap₂, ◌∙◌, arith}, lemmas.Bool.Decides.nat_tests}
use Rattle.items.specs.Values.{string}
use Rattle.items.proofs.{Views.{view-Number, view-Str}, Fronts.{all_dropped, counted_number, counted_string}}
use Rattle.items.proofs.build.read_counted.Goals.{then-is_empty-via-then-is_empty, then-is_empty-via-else-is_empty+then-rest-ne58}
use Rattle.items.proofs.build.read_counted.Goals as goal

pub returns-then-is_empty : goal.returns-then-is_empty
returns-then-is_empty c =
    let bytes = c.args.bytes.now in
    let n = c.digits-n.result.0 in
    let rest = c.digits-n.result.1.now in
    let ends : (length rest ≡ 0) ⊎ (get_or rest 0 0 ≢ 58) =
    elim c.then-is_empty.branch [
      | then-is_empty-via-then-is_empty w ↦ inl (grind (arith, nat_tests))
      | then-is_empty-via-else-is_empty+then-rest-ne58 w ↦ inr (λ h. grind (arith, nat_tests))
    ] in
    ap₂ (λ t r. (t, r)) (view-Number n) c.behind_space.ensures ∙ counted_number bytes n rest c.digits-n.ensures ends

pub returns : goal.returns
returns c =
    let bytes = c.args.bytes.now in
    let n = c.digits-n.result.0 in
    let rest = c.digits-n.result.1.now in
    let text = take (length rest - 1) (drop 1 rest) in
    let len = c.min-len.result in
    let behind = ap (λ x. drop 1 x) (all_dropped len text) in
    let some : 0 < length rest = grind (arith, nat_tests) in
    ap₂ (λ t r. (t, r)) (view-Str c.in_ok-string.string ∙ ap string c.in_ok-string.ensures) (c.behind_space-2.ensures ∙ behind)
    ∙ counted_string bytes n rest text len c.digits-n.ensures some (grind (arith, nat_tests)) (all_dropped 1 rest) c.min-len.ensures
