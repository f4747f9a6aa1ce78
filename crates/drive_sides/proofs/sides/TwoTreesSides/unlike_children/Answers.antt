use Rattle.std.proofs.lemmas.Result.{IfOk-weaker}
use Rattle.drive_sides.proofs.sides.TwoTreesSides.unlike_children.Goals as goal

pub unlike_places-requires : goal.unlike_places-requires
unlike_places-requires g c = record { known = c.requires; children = c.in_ok-paths.ensures.children }

pub returns-clause-listed : goal.returns-clause-listed
returns-clause-listed g c =
    IfOk-weaker c.unlike_places.result _ _ (λ places unlike. c.in_ok-paths.ensures.unlike _ unlike) c.unlike_places.ensures.unlike
