use Rattle.std.proofs.Common.{◌-◌, length, ap, ◌∙◌}
use Rattle.repo_api.specs.States.{tree_at}
use Rattle.flat_commits.specs.Contents.{flat_state, revisions_of}
use Rattle.flatrepo.proofs.Beginning.{begun_is}
use Rattle.flatrepo.proofs.repository.FlatRepoRepository.begin.Goals as goal

pub returns : goal.returns
returns c =
    let content = c.args.self.now.content.value in
    begun_is content c.in_ok-try_clone.field-0.value c.args.self.now.locks.value c.youngest-base.result _
    c.in_ok-begun.field-0 c.new.result c.in_ok-try_clone.ensures
    (c.youngest-base.ensures ∙ ap (λ h. length (revisions_of h) - 1) c.deref.ensures)
    (c.tree.ensures ∙ ap (λ h. tree_at (flat_state h) c.youngest-base.result) c.deref-2.ensures)
    c.in_ok-begun.ensures c.new.ensures
