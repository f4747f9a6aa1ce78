-- What a repository of this crate stands for.
use Rattle.repo_api.specs.States.{RepoState}
use Rattle.flat_commits.specs.Whole.{state_of}
use Rattle.flatrepo.specs.declared.flat_repo.FlatRepo.{FlatRepo}

abbrev pub repo_content : FlatRepo → RepoState
repo_content r = state_of r.content.value r.locks.value
