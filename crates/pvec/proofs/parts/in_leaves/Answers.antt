use Rattle.std.proofs.Common.{sym, ap, ◌∙◌, arith, ◌%◌, option_and_then}
use Rattle.std.specs.Prelude.{slice_get, option_copied}
use Rattle.pvec.specs.Parts.{values, leaf_items}
use Rattle.pvec.proofs.Even.{got}
use Rattle.pvec.proofs.parts.in_leaves.Goals as goal

pub returns-in-Some : goal.returns-in-Some
returns-in-Some g c =
    c.part-in-Some.ensures ∙ ap (λ xs. slice_get (values xs) (c.args.place % 64)) c.deref.ensures.value
    ∙ ap (option_and_then (λ x. slice_get (leaf_items x) (c.args.place % 64))) (sym (ap option_copied c.in-Some.is) ∙ c.part.ensures)
    ∙ sym (got 64 leaf_items (values c.args.leaves.now) c.args.place (omega arith) c.requires)

pub returns-in-None : goal.returns-in-None
returns-in-None g c =
    ap (option_and_then (λ x. slice_get (leaf_items x) (c.args.place % 64))) (sym (ap option_copied c.in-None.is) ∙ c.part.ensures)
    ∙ sym (got 64 leaf_items (values c.args.leaves.now) c.args.place (omega arith) c.requires)
