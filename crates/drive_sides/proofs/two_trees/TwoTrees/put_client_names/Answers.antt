use Rattle.std.proofs.Common.{◌∷◌, [], sym, ap, ◌∙◌}
use Rattle.std.specs.Prelude.{is_some}
use Rattle.drive_sides.proofs.Listing.{on_ok}
use Rattle.drive_sides.proofs.two_trees.TwoTrees.put_client_names.Goals as goal

pub returns-in-Some-clause-adds : goal.returns-in-Some-clause-adds
returns-in-Some-clause-adds g c =
    let beneath = (rw c.in-Some.is at c.requires.led.had).beneath in
    on_ok (λ puts x free here there. puts x (sym (ap is_some (beneath (x ∷ []) free)) ∙ there)) c.put_place_names.result c.put_place_names.ensures.adds
