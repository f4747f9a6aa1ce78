-- What definitions of drives say of the two trees that the code walks.
use Rattle.repo_api.specs.{States.RepoState, declared.repository.Repository.Ghosts}
use Rattle.reporter.specs.Targets.{WholeReport}
use Rattle.drive_sides.specs.{Plans.whole, declared.two_trees.TwoTrees.TwoTrees}

-- a definition of drives on two trees: over what the repository contains and the whole report
abbrev pub on_trees {ℓ} : {V X : Type 0} {R : Ghosts V X} {T : Type ℓ} → TwoTrees V X R
    → (RepoState → WholeReport → T) → T
on_trees {R = R} trees definition =
    definition (R.content trees.view.now) (whole trees.report.now trees.root)
