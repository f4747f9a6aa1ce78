use Rattle.std.proofs.{Common.{◌||◌, sym, ◌∙◌, map, subst}, lemmas.Bool.{or_left, or_right}, lemmas.Result.IfOk-weaker}
use Rattle.std.specs.Map.Iter.{deref}
use Rattle.repo_api.specs.Readings.{DifferAtMostBy, is_name_among}
use Rattle.drive_sides.proofs.UnlikeNames.{unlike_by, whatever}
use Rattle.drive_sides.proofs.differing.put_unlike.Goals as goal

pub returns-clause-unlike : goal.returns-clause-unlike
returns-clause-unlike g c =
    let state = g.R.Repository.content c.args.view.now in
    let pair = c.args.pair in
    let apart = rw c.in-Some.is at c.in_ok-found.ensures in
    let found = map deref c.deref.result.now in
    IfOk-weaker c.keeps_lines_beside.result _ _ (λ told keeps is.
    unlike_by c.put_all.new.names.keys found state c.args.ask.now pair
    (λ x among. c.in_ok-put_all.ensures x ∙ or_right (is_name_among c.args.names.now.keys x) (is_name_among found x) among)
    (subst (λ list. DifferAtMostBy state pair.revision pair.old.now c.args.ask.now.revision pair.new.now (map deref list)) (sym c.deref.ensures.value) apart)
    (keeps is)) c.keeps_lines_beside.ensures

pub returns-clause-keeps : goal.returns-clause-keeps
returns-clause-keeps g c =
    let found = map deref c.deref.result.now in
    whatever c.keeps_lines_beside.result (λ x among. c.in_ok-put_all.ensures x ∙ or_left (is_name_among c.args.names.now.keys x) (is_name_among found x) among)
