-- What is left of the texts compares as they do: an end or another byte decides.
use Rattle.std.proofs.Common.{sym, ◌∙◌}
use Rattle.std.specs.{Cmp.Lexicographic.slice_cmp, Ordering.nat_cmp}
use Rattle.svnpath.proofs.TextOrders.{same_first, first_decides}
use Rattle.svnpath.proofs.listings.compare_texts.Goals as goal

pub returns-in_default-split_text : goal.returns-in_default-split_text
returns-in_default-split_text c =
    let mine = c.in-Some.ensures in
    let theirs = c.in_default-split_text.ensures in
    sym (c.loop-byte.invariant ∙ (λ i. slice_cmp nat_cmp (mine i) (theirs i)))

pub returns-then-byte-other_byte : goal.returns-then-byte-other_byte
returns-then-byte-other_byte c =
    c.cmp.ensures
    ∙ sym (c.loop-byte.invariant ∙ first_decides _ _ _ _ _ _ c.in-Some.ensures c.in-Some-split_text.ensures c.if-byte-other_byte.true)

pub loop-byte-preserved : goal.loop-byte-preserved
loop-byte-preserved c =
    c.loop-byte.invariant ∙ same_first _ _ _ _ _ _ c.in-Some.ensures c.in-Some-split_text.ensures c.if-byte-other_byte.false

pub returns-in-Some-split_text-2 : goal.returns-in-Some-split_text-2
returns-in-Some-split_text-2 c =
    let mine = c.in_default.ensures in
    let theirs = c.in-Some-split_text-2.ensures in
    sym (c.loop-byte.invariant ∙ (λ i. slice_cmp nat_cmp (mine i) (theirs i)))

pub returns-in-None : goal.returns-in-None
returns-in-None c =
    let mine = c.in_default.ensures in
    let theirs = c.in-None.ensures in
    sym (c.loop-byte.invariant ∙ (λ i. slice_cmp nat_cmp (mine i) (theirs i)))
