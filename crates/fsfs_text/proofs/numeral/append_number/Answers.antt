use Rattle.std.proofs.Common.{◌≡◌, ◌∙◌, ℕ, List, cond, is_ok, OnOk, Result, Ok, Err, arith}
use Rattle.fsfs_text.specs.Numerals.{numeral}
use Rattle.fsfs_text.proofs.Numbers.{decimal_numeral}
use Rattle.fsfs_text.proofs.numeral.append_number.Goals as goal

on_ok : {T E : Type 0} (r : Result T E) (now more old : List ℕ) → now ≡ cond (is_ok r) more old → OnOk r (now ≡ more)
on_ok (Ok t) now more old h = h
on_ok (Err e) now more old h = tt

pub returns : goal.returns
returns c =
    let text : c.as_bytes.result.now ≡ numeral 10 c.args.n =
    c.as_bytes.ensures.value ∙ (c.format.ensures.text ∙ decimal_numeral c.args.n (omega (arith, c.ranges.n.fits))) in
    on_ok c.extend_from_slice.result _ _ _ (rw text at c.extend_from_slice.ensures.items)
