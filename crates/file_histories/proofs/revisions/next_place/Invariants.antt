-- What is listed from the place on is what is listed from the start on.
use Rattle.std.proofs.Common.{◌≡◌, ℕ, Option, Some, None, suc}
use Rattle.repo_api.specs.Histories.{history_of}
use Rattle.traces.specs.declared.place.Place.{Place}
use Rattle.file_histories.specs.FileRevisions.{listed_places}
use Rattle.file_histories.proofs.revisions.next_place.Given as goal

abbrev pub invariant-loop-place : goal.invariant-loop-place
invariant-loop-place g l =
    let h = history_of (g.R.Repository.content l.repository) in
    listed_places h l.place ≡ listed_places h l.fn.start

abbrev pub left : Option Place → ℕ
left None = 0
left (Some p) = suc p.revision

abbrev pub decreases-loop-place : goal.decreases-loop-place
decreases-loop-place g l = left l.place
