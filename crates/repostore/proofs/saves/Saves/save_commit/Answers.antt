use Rattle.std.proofs.Common.{[], ◌∷◌, sym, ◌∙◌, inl, arith, rules, length-append}
use Rattle.store_files.specs.declared.name.FileName.TheVariants.{Current}
use Rattle.repostore.specs.{Files.{RevisionFiles, HasFiles, with_revision, HasEither}, Saving.HasNext}
use Rattle.repostore.proofs.{Reaching.{published, publishing, counts_few}, Steps.{swapped, swapped_now, replaced}}
use Rattle.repostore.proofs.saves.Saves.save_commit.Goals as goal

pub returns-in_err-publish-clause-saved : goal.returns-in_err-publish-clause-saved
returns-in_err-publish-clause-saved g c = λ files saved counts.
    let s = g.S.Store in
    let n = c.args.self.now.count in
    let before = c.in_ok-write_revision.ensures.ok files saved in
    record {
      made = search rules;
      stands = swapped_now s c.write_revision.new.self.store c.publish.new.self.store Current c.args.current.now
          (HasNext files n c.args.revision.now c.args.properties.now) (HasEither files (with_revision files (c.args.revision.now, c.args.properties.now) c.args.current.now))
          before.stands (c.publish.ensures.replaces before.stands.honest) (publishing files n c.args.revision.now c.args.properties.now c.args.current.now (sym saved.count) counts);
      stop = swapped s c.args.self.now.store c.write_revision.new.self.store c.publish.new.self.store Current c.args.current.now
          (HasFiles files) (HasNext files n c.args.revision.now c.args.properties.now) (HasEither files (with_revision files (c.args.revision.now, c.args.properties.now) c.args.current.now))
          before (c.publish.ensures.replaces before.stands.honest) (publishing files n c.args.revision.now c.args.properties.now c.args.current.now (sym saved.count) counts) (λ f p. inl p);
    }

pub returns-clause-saved : goal.returns-clause-saved
returns-clause-saved g c = λ files saved counts.
    let s = g.S.Store in
    let n = c.args.self.now.count in
    let new : RevisionFiles = (c.args.revision.now, c.args.properties.now) in
    let before = c.in_ok-write_revision.ensures.ok files saved in
    let e = c.in_ok-publish.ensures in
    record {
      made = record {
        stands = replaced s c.args.self.now.store c.write_revision.new.self.store c.publish.new.self.store Current c.args.current.now
            (HasFiles files) (HasNext files n c.args.revision.now c.args.properties.now) (HasFiles (with_revision files new c.args.current.now))
            before (c.publish.ensures.replaces before.stands.honest) (e.ok before.stands.honest) (published files n c.args.revision.now c.args.properties.now c.args.current.now (sym saved.count) counts);
        count = omega (arith, counts_few c.args.current.now n counts, c.saturating_add-self.ensures, c.publish.ensures.count, c.write_revision.ensures.count, saved.count, length-append files.revisions (new ∷ []));
        layout = c.publish.ensures.layout ∙ c.write_revision.ensures.layout ∙ saved.layout;
        goes_on = e.done ∙ c.write_revision.ensures.goes_on ∙ saved.goes_on;
      };
      stands = swapped_now s c.write_revision.new.self.store c.publish.new.self.store Current c.args.current.now
          (HasNext files n c.args.revision.now c.args.properties.now) (HasEither files (with_revision files (c.args.revision.now, c.args.properties.now) c.args.current.now))
          before.stands (c.publish.ensures.replaces before.stands.honest) (publishing files n c.args.revision.now c.args.properties.now c.args.current.now (sym saved.count) counts);
      stop = swapped s c.args.self.now.store c.write_revision.new.self.store c.publish.new.self.store Current c.args.current.now
          (HasFiles files) (HasNext files n c.args.revision.now c.args.properties.now) (HasEither files (with_revision files (c.args.revision.now, c.args.properties.now) c.args.current.now))
          before (c.publish.ensures.replaces before.stands.honest) (publishing files n c.args.revision.now c.args.properties.now c.args.current.now (sym saved.count) counts) (λ f p. inl p);
    }
