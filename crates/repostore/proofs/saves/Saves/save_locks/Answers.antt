use Rattle.std.proofs.Common.{◌∙◌, inl}
use Rattle.store_files.specs.declared.name.FileName.TheVariants.{Locks}
use Rattle.repostore.specs.Files.{HasFiles, with_locks, HasEither}
use Rattle.repostore.proofs.{Reaching.{locks_are, locks_may_be}, Steps.{begun, swapped, swapped_now, replaced, ok_gives_both}}
use Rattle.repostore.proofs.saves.Saves.save_locks.Goals as goal

pub returns-clause-saved : goal.returns-clause-saved
returns-clause-saved g c = λ files saved.
    let s = g.S.Store in
    let start = c.args.self.now.store in
    let new = c.publish.new.self.store in
    let at = begun s start (HasFiles files) (λ f. g.met.S.Store.only_now start f) saved.stands in
    record {
      made = ok_gives_both c.publish.result (λ written done. record {
        stands = replaced s start start new Locks c.args.locks.now (HasFiles files) (HasFiles files) (HasFiles (with_locks files c.args.locks.now)) at
            (c.publish.ensures.replaces saved.stands.honest) written (locks_are files c.args.locks.now);
        count = c.publish.ensures.count ∙ saved.count;
        layout = c.publish.ensures.layout ∙ saved.layout;
        goes_on = done ∙ saved.goes_on;
      }) (c.publish.ensures.ok saved.stands.honest) c.publish.ensures.done;
      stands = swapped_now s start new Locks c.args.locks.now (HasFiles files) (HasEither files (with_locks files c.args.locks.now)) saved.stands
          (c.publish.ensures.replaces saved.stands.honest) (locks_may_be files c.args.locks.now);
      stop = swapped s start start new Locks c.args.locks.now (HasFiles files) (HasFiles files) (HasEither files (with_locks files c.args.locks.now)) at
          (c.publish.ensures.replaces saved.stands.honest) (locks_may_be files c.args.locks.now) (λ f p. inl p);
    }
