use Rattle.std.proofs.Common.{◌≡◌, ◌+◌, ◌-◌, inl, inr, take, drop, ap, sym, ◌∙◌, refl, Ok, Some, ◌++◌, arith, rules, length}
use Rattle.std.proofs.lemmas.Result.{err_from_is_err_and}
use Rattle.svndiff0.specs.{Window.and_rest, Instruction.{instructions_of, target_of}}
use Rattle.svndiff0.proofs.Windows.{window_by_head, body_beyond, body_short, IsWhole, body_whole, disagree, agree, part_is, part_len}
use Rattle.svndiff0.proofs.window.apply_window.Goals.{then-sums-head-via-then-sums-head, then-sums-head-via-else-sums-head+then-sums-head-2}
use Rattle.svndiff0.proofs.window.apply_window.Goals as goal

pub returns-in_err-head-clause-applies : goal.returns-in_err-head-clause-applies
returns-in_err-head-clause-applies c =
    let p = err_from_is_err_and c.from_residual.result c.from_residual.ensures.1 in
    rw (p.1, p.2) (λ _. window_by_head _ _ _ _ (search rules) _ c.in_err-head.ensures.value)

pub returns-in_default-clause-applies : goal.returns-in_default-clause-applies
returns-in_default-clause-applies c = (window_by_head _ _ _ _ (search rules) _ (rw c.in_default.is at c.in_ok-head.ensures.value), refl)

pub returns-then-base-head-clause-applies : goal.returns-then-base-head-clause-applies
returns-then-base-head-clause-applies c = λ _.
    window_by_head _ _ _ _ (search rules) _ (rw c.in-Some.is at c.in_ok-head.ensures.value) ∙ body_beyond _ _ _ c.if-base-head.true

pub returns-then-rest-size-clause-applies : goal.returns-then-rest-size-clause-applies
returns-then-rest-size-clause-applies c =
    (window_by_head _ _ _ _ (search rules) _ (rw c.in-Some.is at c.in_ok-head.ensures.value) ∙ body_short _ _ _ c.if-base-head.false c.if-rest-size.true, refl)

pub returns-in_err-sums-clause-applies : goal.returns-in_err-sums-clause-applies
returns-in_err-sums-clause-applies c =
    let p = err_from_is_err_and c.from_residual-in_err-sums.result c.from_residual-in_err-sums.ensures.1 in
    let w : IsWhole c.args.base.now c.in-Some.head c.in-Some.rest.now = record { within = c.if-base-head.false; there = c.if-rest-size.false } in
    rw (p.1, p.2) (λ _. window_by_head _ _ _ _ (search rules) _ (rw c.in-Some.is at c.in_ok-head.ensures.value)
    ∙ body_whole _ _ _ _ _ _ w refl (c.split_at-2.ensures.front ∙ ap (take c.in-Some.head.section) c.split_at.ensures.front) refl _ c.in_err-sums.ensures)

pub returns-then-sums-head-clause-applies : goal.returns-then-sums-head-clause-applies
returns-then-sums-head-clause-applies c =
    let head = c.in-Some.head in
    let w : IsWhole c.args.base.now head c.in-Some.rest.now = record { within = c.if-base-head.false; there = c.if-rest-size.false } in
    let n : length c.split_at-2.result.1.now ≡ head.new_data = omega (arith, c.split_at-2.ensures.back_len, c.split_at.ensures.front_len, ap length c.split_at.ensures.front) in
    λ _. window_by_head _ _ _ _ (search rules) _ (rw c.in-Some.is at c.in_ok-head.ensures.value)
    ∙ (body_whole _ _ _ _ c.split_at-2.result.0.now c.split_at-2.result.1.now w refl
    (c.split_at-2.ensures.front ∙ ap (take head.section) c.split_at.ensures.front)
    (c.split_at-2.ensures.back ∙ ap (drop head.section) c.split_at.ensures.front)
    _ c.in_ok-sums.ensures.1
    ∙ ap (λ r. and_rest r (drop (head.section + head.new_data) c.in-Some.rest.now))
    (disagree head _ c.split_at-2.result.1.now c.in_ok-sums.ensures.0 c.in_ok-sums.sums (rw c.in-Some.is at c.in_ok-head.ensures.bounds) n c.in_ok-sums.ensures.2
    (elim c.then-sums-head.branch [ then-sums-head-via-then-sums-head w ↦ inl w.if-sums-head.true | then-sums-head-via-else-sums-head+then-sums-head-2 w ↦ inr w.if-sums-head-2.true ])))

pub returns-clause-applies : goal.returns-clause-applies
returns-clause-applies c =
    let head = c.in-Some.head in
    let rest = c.in-Some.rest.now in
    let base = c.args.base.now in
    let is = c.in_ok-sums.ensures.0 in
    let section = c.split_at-2.result.0.now in
    let fresh = c.split_at-2.result.1.now in
    let w : IsWhole base head rest = record { within = c.if-base-head.false; there = c.if-rest-size.false } in
    let n : length fresh ≡ head.new_data = omega (arith, c.split_at-2.ensures.back_len, c.split_at.ensures.front_len, ap length c.split_at.ensures.front) in
    let v : take (head.offset + head.view - head.offset) (drop head.offset base) ≡ take head.view (drop head.offset base) = part_is base head.offset head.view in
    let len : length (take (head.offset + head.view - head.offset) (drop head.offset base)) ≡ head.view = ap length v ∙ part_len base head.offset head.view c.if-base-head.false in (
      target_of (take head.view (drop head.offset base)) fresh is,
      window_by_head _ _ _ _ (search rules) _ (rw c.in-Some.is at c.in_ok-head.ensures.value)
          ∙ (body_whole base head rest _ section fresh w refl
          (c.split_at-2.ensures.front ∙ ap (take head.section) c.split_at.ensures.front)
          (c.split_at-2.ensures.back ∙ ap (drop head.section) c.split_at.ensures.front)
          _ c.in_ok-sums.ensures.1
          ∙ (ap (λ r. and_rest r (drop (head.section + head.new_data) rest))
          (agree head (take head.view (drop head.offset base)) fresh is c.in_ok-sums.sums (rw c.in-Some.is at c.in_ok-head.ensures.bounds) n c.in_ok-sums.ensures.2 c.if-sums-head.false c.if-sums-head-2.false)
          ∙ ap (λ r. Ok (Some (target_of (take head.view (drop head.offset base)) fresh is, r))) (sym c.split_at.ensures.back))),
      c.in_ok-carry_out.ensures.ok is (ap (λ k. instructions_of k section) len ∙ c.in_ok-sums.ensures.1)
          ∙ (ap (λ t. t ++ target_of (take (head.offset + head.view - head.offset) (drop head.offset base)) fresh is) c.reserve.ensures.items
          ∙ ap (λ u. c.args.text.now.items ++ target_of u fresh is) v),
    )
