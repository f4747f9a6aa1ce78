use Rattle.std.proofs.Common.{subst, sym}
use Rattle.repostore.proofs.Reaching.{has_count}
use Rattle.stored_repository.specs.Keeping.{StandsFor}
use Rattle.stored_repository.proofs.Alone.{alone}
use Rattle.stored_repository.proofs.opening.open_repository.Goals as goal

pub new-requires-clause-kept : goal.new-requires-clause-kept
new-requires-clause-kept g c = ∣ (λ honest goes_on.
    let opened = c.in_ok-saves.ensures in
    let old = g.S.Store.holds c.args.store in
    let found = opened.found honest in
    let rests = c.requires (opened.reads.honest honest) in
    record {
      files = found.files;
      saved = opened.saved honest rests found.files found.are;
      of_these = c.finish.ensures found.files found.taken (has_count old found.files found.are);
    }) ∣₁

pub returns-clause-found : goal.returns-clause-found
returns-clause-found g c = λ honest.
    let r = g.L.Repository in
    let met = g.met.L.Repository.Filed in
    let old = g.S.Store.holds c.args.store in
    let found = c.in_ok-saves.ensures.found (subst (λ x. g.S.Store.is_honest x.store) c.new.ensures.saves honest) in
    let of_these = c.finish.ensures found.files found.taken (has_count old found.files found.are) in
    let stands : StandsFor r.Filed.stands_for (r.Repository.content c.new.result.repository) old =
    subst (λ x. StandsFor r.Filed.stands_for (r.Repository.content x) old) (sym c.new.ensures.repository)
    (found.files, found.are, g.met.L.Repository.Filed.is_state c.finish.result found.files of_these) in (
      stands,
      λ x has. alone r.Repository.content r.Filed.is_of r.Filed.stands_for met.is_state met.one_state
          x (r.Repository.content c.new.result.repository) old has stands,
    )
