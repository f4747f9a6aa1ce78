use Rattle.std.proofs.{Common.{◌≡◌, refl, Bool, true, false, ◌&&◌, not, ap, sym, ◌∙◌, rules, tests}, lemmas.Iterator.YieldsList-from_slice}
use Rattle.std.proofs.lemmas.Iterator.Search.{any_from_yields_List}
use Rattle.cram.specs.Line.{is_outside_names, has_right_length}
use Rattle.cram.proofs.line.is_user_name.Goals as goal

and-true : (a b : Bool) → a ≡ true → b ≡ (a && b)
and-true true b h = refl
and-true false b h = cc

pub returns-then-has_right_length : goal.returns-then-has_right_length
returns-then-has_right_length c =
    let bytes = c.args.bytes.now in
    let blanks = any_from_yields_List is_outside_names _ _ c.any.result c.any.ensures.ran (YieldsList-from_slice bytes cc) (λ x b q k. search (rules, tests)) in
    ap not blanks ∙ and-true (has_right_length bytes) _ (sym c.has_right_length.ensures ∙ c.if-has_right_length.true)
