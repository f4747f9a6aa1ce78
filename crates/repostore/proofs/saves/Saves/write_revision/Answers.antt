use Rattle.std.proofs.Common.{◌≡◌, ◌≤◌, ℕ, Option, Some, sym, ap, ◌∙◌, arith, length}
use Rattle.fsfs_text.specs.Formats.{layout_in, shard_in}
use Rattle.store_files.specs.{Folders.Folder, declared.name.FileName.TheVariants.{Revision, Properties}}
use Rattle.repostore.specs.{Files.HasFiles, Saving.HasNext}
use Rattle.repostore.proofs.{Reaching.{behind_revision, behind_properties, behind_properties_too, next_is}, Steps.{begun, wrote, with_bytes, ok_gives_both}}
use Rattle.repostore.proofs.saves.Saves.write_revision.Goals as goal

pub returns-in_err-write_new-clause-going : goal.returns-in_err-write_new-clause-going
returns-in_err-write_new-clause-going g c = λ files saved.
    let s = g.S.Store in
    let n = c.args.self.now.count in
    let start = c.args.self.now.store in
    let P = HasFiles files in
    let le : length files.revisions ≤ n = omega (arith, saved.count) in
    let at = begun s start P (λ f. g.met.S.Store.only_now start f) saved.stands in
    let w = c.write_new.ensures in
    wrote s start start c.write_new.new.self (Revision c.shard-shard.result n) P P P at w.honest w.others w.stop w.time
    (λ d f same. behind_revision d f files c.shard-shard.result n le same) (λ f p. p)

pub returns-clause-going : goal.returns-clause-going
returns-clause-going g c = λ files saved.
    let s = g.S.Store in
    let n = c.args.self.now.count in
    let start = c.args.self.now.store in
    let P = HasFiles files in
    let le : length files.revisions ≤ n = omega (arith, saved.count) in
    let at = begun s start P (λ f. g.met.S.Store.only_now start f) saved.stands in
    let w = c.write_new.ensures in
    let first = wrote s start start c.write_new.new.self (Revision c.shard-shard.result n) P P P at w.honest w.others w.stop w.time
    (λ d f same. behind_revision d f files c.shard-shard.result n le same) (λ f p. p) in
    let v = c.write_new-2.ensures in
    wrote s start c.write_new.new.self c.write_new-2.new.self (Properties c.shard-shard.result n) P P P first v.honest v.others v.stop v.time
    (λ d f same. behind_properties d f files c.shard-shard.result n le same) (λ f p. p)

pub returns-clause-ok : goal.returns-clause-ok
returns-clause-ok g c = λ files saved.
    let s = g.S.Store in
    let n = c.args.self.now.count in
    let start = c.args.self.now.store in
    let P = HasFiles files in
    let shard : c.shard-shard.result ≡ shard_in (layout_in files.format) n = c.shard-shard.ensures ∙ ap (λ l. shard_in l n) saved.layout in
    let Q : Folder → Type 0 = λ f. HasFiles files f × (f (Revision c.shard-shard.result n) ≡ Some c.args.revision.now) in
    let le : length files.revisions ≤ n = omega (arith, saved.count) in
    let at = begun s start P (λ f. g.met.S.Store.only_now start f) saved.stands in
    let w = c.write_new.ensures in
    let first = wrote s start start c.write_new.new.self (Revision c.shard-shard.result n) P P P at w.honest w.others w.stop w.time
    (λ d f same. behind_revision d f files c.shard-shard.result n le same) (λ f p. p) in
    let u = c.in_ok-write_new.ensures in
    let here = with_bytes s start c.write_new.new.self (Revision c.shard-shard.result n) c.args.revision.now P P Q first
    (u.written saved.stands.honest) (u.kept saved.stands.honest) (λ f has is. (has, is)) in
    let v = c.write_new-2.ensures in
    let second = wrote s start c.write_new.new.self c.write_new-2.new.self (Properties c.shard-shard.result n) P Q Q here v.honest v.others v.stop v.time
    (λ d f same. behind_properties_too d f files c.shard-shard.result c.shard-shard.result n c.args.revision.now le same) (λ f q. q.0) in
    ok_gives_both c.write_new-2.result
    (λ written kept. with_bytes s start c.write_new-2.new.self (Properties c.shard-shard.result n) c.args.properties.now P Q (HasNext files n c.args.revision.now c.args.properties.now) second
    written kept (λ f has is. next_is files n c.args.revision.now c.args.properties.now f
    (has.0, ap (λ (x : Option ℕ). f (Revision x n)) (sym shard) ∙ has.1) (ap (λ (x : Option ℕ). f (Properties x n)) (sym shard) ∙ is)))
    (v.written (w.honest.0 saved.stands.honest)) (v.kept (w.honest.0 saved.stands.honest))
