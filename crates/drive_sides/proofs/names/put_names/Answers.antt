use Rattle.std.proofs.Common.{◌||◌, ap, ◌∙◌, map}
use Rattle.std.specs.Map.Iter.{deref}
use Rattle.repo_api.specs.Readings.{is_name_among}
use Rattle.drive_sides.proofs.Listing.{on_ok}
use Rattle.drive_sides.proofs.names.put_names.Goals as goal

pub returns : goal.returns
returns g c =
    on_ok (λ put x.
    put x ∙ ap (λ ns. is_name_among c.args.names.now.keys x || is_name_among ns x) (ap (map deref) c.deref.ensures.value ∙ c.in_ok-found.ensures)) c.put_all.result
    c.put_all.ensures
