-- One item more is written.
use Rattle.std.proofs.{Common.{◌≡◌, ◌+◌, ◌++◌, ◌∷◌, [], List, take, sym, ap, ◌∙◌, subst, append_assoc}, lemmas.List.take_more}
use Rattle.items.specs.{View.{value_of, values_of}, Print.{printed, row_printed}, declared.item.Item.Item, Written.HaveWords}
use Rattle.items.proofs.{Wrote.words-snoc, Printed.row_printed-snoc}
use Rattle.items.proofs.write.+write.Goals as goal

pub append_list-loop-item-preserved : goal.append_list-loop-item-preserved
append_list-loop-item-preserved t c =
    let items = c.args.items.now in
    let i = c.loop-item.item-index in
    let item = c.item-item.result in
    let front = c.args.out.now.items ++ (40 ∷ 32 ∷ []) in
    let taken : take (i + 1) items ≡ take i items ++ (item ∷ []) = take_more items i item c.loop-item-test.true ∙ ap (λ x. take i items ++ (x ∷ [])) (sym c.item-item.is) in
    let wrote = c.in_ok-append_item.ensures.written
    ∙ ap (λ x. x ++ printed (value_of item)) c.loop-item.invariant.0
    ∙ append_assoc front (row_printed (values_of (take i items))) (printed (value_of item))
    ∙ ap (λ x. front ++ x) (sym (row_printed-snoc (take i items) item))
    ∙ ap (λ x. front ++ row_printed (values_of x)) (sym taken) in
    let W : List Item → Type 0 = λ x. HaveWords (values_of x) in
    (wrote, subst W (sym taken) (words-snoc (take i items) item c.loop-item.invariant.1 c.in_ok-append_item.ensures.words))
