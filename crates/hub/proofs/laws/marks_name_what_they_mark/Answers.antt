use Rattle.hub.proofs.laws.marks_name_what_they_mark.Goals as goal

pub returns : goal.returns
returns c =
    let stay = c.trees_stay_trees.ensures.always in (
      λ old new env after events told run trees. (stay.0 old new env after events told run trees).revisions.1,
      λ old new calls outcomes run trees. (stay.1 old new calls outcomes run trees).revisions.1,
    )
