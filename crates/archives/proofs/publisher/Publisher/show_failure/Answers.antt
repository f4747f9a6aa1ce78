use Rattle.std.proofs.Common.{List, ◌∷◌, ◌++◌, [], ap, sym, subst, ◌∙◌}
use Rattle.repo_api.specs.States.{RepoState}
use Rattle.published.specs.Events.{Event, accepted_by, state_of}
use Rattle.published.proofs.Histories.{state_still}
use Rattle.archives.specs.Publishing.{BothContain}
use Rattle.archives.proofs.publisher.Publisher.show_failure.Goals as goal

pub fill-requires : goal.fill-requires
fill-requires g c =
    let list = c.args.self.now.history in
    let n = c.args.author.now.number in
    let e = accepted_by g.R.Repository.txn_state c.args.ready.asked in
    let k = g.S.Files.kept c.args.files.now in
    let is = c.front.ensures.0 ∙ c.add_failure.ensures.list in
    subst (λ (x : RepoState). BothContain g.R.Repository.content x c.args.ready.present)
    (sym (ap (λ (l : List Event). state_of l) is ∙ state_still list n e k.halted k.failures c.requires.begun)) c.requires.ready
