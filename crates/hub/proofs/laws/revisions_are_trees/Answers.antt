use Rattle.hub.proofs.laws.revisions_are_trees.Goals as goal

pub returns : goal.returns
returns c =
    let stay = c.trees_stay_trees.ensures.always in (
      λ old new env after events told run trees. (stay.0 old new env after events told run trees).revisions.0,
      λ old new calls outcomes run trees. (stay.1 old new calls outcomes run trees).revisions.0,
    )
