use Rattle.std.proofs.Common.{◌≡◌, ap, ◌∙◌}
use Rattle.repo_api.specs.Histories.{history_of}
use Rattle.history.specs.Locations.{location_on, only_same}
use Rattle.history.proofs.{Along.known_more, Together.{on_ok, path_at_end}}
use Rattle.history.proofs.meeting.Meeting.go_on.Goals as goal

pub returns : goal.returns
returns g c =
    let h = history_of (g.R.Repository.content c.args.repository.now) in
    let place = c.args.place.now in
    on_ok c.note.result _ _
    (λ noted. record {
      places = c.requires.meeting.places;
      met = c.requires.meeting.met;
      found = known_more (λ n o. o ≡ location_on h place n) c.args.self.now.found.entries c.note.new.found.entries c.args.begun c.only_same.result noted
          (path_at_end h place c.args.begun c.args.at c.settled_from-at.result c.only_same.result c.in_ok-path.path
          (c.only_same.ensures ∙ ap (λ p. only_same p c.in_ok-path.path) c.in_ok-clone.ensures.cases)
          (c.in_ok-path.ensures h) c.settled_from-at.ensures c.requires.trace)
          c.requires.meeting.found;
    })
    c.note.ensures
