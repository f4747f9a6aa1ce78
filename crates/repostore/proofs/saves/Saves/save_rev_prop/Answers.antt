use Rattle.std.proofs.Common.{◌≡◌, ◌<◌, ℕ, Option, sym, ap, subst, ◌∙◌, inl, arith, length}
use Rattle.store_files.specs.{declared.name.FileName.FileName, declared.name.FileName.TheVariants.Properties}
use Rattle.fsfs_text.specs.Formats.{layout_in, shard_in}
use Rattle.repostore.specs.{Files.{HasFiles, properties_name, with_properties, HasEither}, Saving.{IsWritten, Replaces}}
use Rattle.repostore.proofs.{Reaching.{properties_are, properties_may_be, length-second}, Steps.{begun, swapped, swapped_now, replaced, ok_gives_both}}
use Rattle.repostore.proofs.saves.Saves.save_rev_prop.Goals as goal

pub returns-clause-saved : goal.returns-clause-saved
returns-clause-saved g c = λ files saved there.
    let s = g.S.Store in
    let start = c.args.self.now.store in
    let new = c.publish.new.self.store in
    let lt : c.args.revision < length files.revisions = omega (arith, saved.count, there) in
    let at = begun s start (HasFiles files) (λ f. g.met.S.Store.only_now start f) saved.stands in
    let name_is : Properties c.shard-shard.result c.args.revision ≡ properties_name (layout_in files.format) c.args.revision =
    ap (λ (x : Option ℕ). Properties x c.args.revision) (c.shard-shard.ensures ∙ ap (λ l. shard_in l c.args.revision) saved.layout) in
    let replaces = subst (λ (name : FileName). Replaces s name c.args.properties.now start new) name_is (c.publish.ensures.replaces saved.stands.honest) in
    record {
      made = ok_gives_both c.publish.result (λ written done. record {
        stands = replaced s start start new (properties_name (layout_in files.format) c.args.revision) c.args.properties.now (HasFiles files) (HasFiles files) (HasFiles (with_properties files c.args.revision c.args.properties.now)) at
            replaces (subst (λ (name : FileName). IsWritten s name c.args.properties.now new) name_is written) (properties_are files c.args.revision c.args.properties.now lt);
        count = c.publish.ensures.count ∙ saved.count ∙ sym (length-second files.revisions c.args.revision c.args.properties.now);
        layout = c.publish.ensures.layout ∙ saved.layout;
        goes_on = done ∙ saved.goes_on;
      }) (c.publish.ensures.ok saved.stands.honest) c.publish.ensures.done;
      stands = swapped_now s start new (properties_name (layout_in files.format) c.args.revision) c.args.properties.now (HasFiles files) (HasEither files (with_properties files c.args.revision c.args.properties.now)) saved.stands
          replaces (properties_may_be files c.args.revision c.args.properties.now lt);
      stop = swapped s start start new (properties_name (layout_in files.format) c.args.revision) c.args.properties.now (HasFiles files) (HasFiles files) (HasEither files (with_properties files c.args.revision c.args.properties.now)) at
          replaces (properties_may_be files c.args.revision c.args.properties.now lt) (λ f p. inl p);
    }
