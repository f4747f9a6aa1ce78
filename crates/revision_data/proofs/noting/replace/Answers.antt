use Rattle.std.proofs.Common.{refl, sym, ap, ◌∙◌}
use Rattle.std.specs.{Prelude.is_some, Option.option_copied_mut}
use Rattle.revision_data.proofs.Written.{written, missing}
use Rattle.revision_data.proofs.noting.replace.Goals as goal

pub returns-in-Some : goal.returns-in-Some
returns-in-Some c = λ q.
    let held = c.get_mut.follows.holds _ in
    written c.args.changes.now.entries _ c.args.path.now q c.in-Some.place.now _ (λ x. c.args.change)
    c.in-Some.ensures.value ((held.3 (ap is_some (sym c.in-Some.ensures.value))).0 q) refl

pub returns-in_default : goal.returns-in_default
returns-in_default c = λ q.
    missing c.args.changes.now.entries _ c.args.path.now q (λ x. c.args.change)
    (sym c.get_mut.ensures.value ∙ ap option_copied_mut c.in_default.is)
    (ap (λ m. m.entries) c.get_mut.follows.holds-at-none)
