use Rattle.std.proofs.Common.{◌≡◌, ◌+◌, ℕ, Option, Some, sym, ap, ◌∙◌}
use Rattle.fsfs_text.specs.Formats.{shard_in}
use Rattle.store_files.specs.{Folders.Folder, declared.name.FileName.TheVariants.{Revision, Properties}}
use Rattle.repository_creation.specs.Migrating.{HasSome, IsFree}
use Rattle.repostore.proofs.Steps.{begun, stands_too, wrote, with_bytes, ok_gives_both}
use Rattle.repository_creation.proofs.Copying.{revision_stays, properties_stay, one_more}
use Rattle.repository_creation.proofs.migrating.write_pair.Goals as goal

pub returns-in_err-write_new-clause-going : goal.returns-in_err-write_new-clause-going
returns-in_err-write_new-clause-going g c = λ there from copied here.
    let s = g.T.Store in
    let n = c.args.number in
    let to = c.args.layout in
    let start = c.args.to.now in
    let mid = c.write_new.new.self in
    let shard = c.shard-shard.result in
    let Q = HasSome there from copied to n in
    let free = stands_too s start Q IsFree (λ f has. has.free) here in
    let at = begun s start IsFree (λ f. g.met.T.Store.only_now start f) free in
    let w = c.write_new.ensures in
    let first = wrote s start start mid (Revision shard n) IsFree Q Q (record { stands = here; run = at.run }) w.honest w.others w.stop w.time
    (λ d f same. revision_stays there from copied to n d f shard same) (λ f has. has.free) in
    record { stands = stands_too s mid Q IsFree (λ f has. has.free) first.stands; run = first.run }

pub returns-clause-going : goal.returns-clause-going
returns-clause-going g c = λ there from copied here.
    let s = g.T.Store in
    let n = c.args.number in
    let to = c.args.layout in
    let start = c.args.to.now in
    let mid = c.write_new.new.self in
    let shard = c.shard-shard.result in
    let Q = HasSome there from copied to n in
    let free = stands_too s start Q IsFree (λ f has. has.free) here in
    let at = begun s start IsFree (λ f. g.met.T.Store.only_now start f) free in
    let w = c.write_new.ensures in
    let first = wrote s start start mid (Revision shard n) IsFree Q Q (record { stands = here; run = at.run }) w.honest w.others w.stop w.time
    (λ d f same. revision_stays there from copied to n d f shard same) (λ f has. has.free) in
    let new = c.write_new-2.new.self in
    let v = c.write_new-2.ensures in
    let second = wrote s start mid new (Properties shard n) IsFree Q Q first v.honest v.others v.stop v.time
    (λ d f same. properties_stay there from copied to n d f shard same) (λ f has. has.free) in
    record { stands = stands_too s new Q IsFree (λ f has. has.free) second.stands; run = second.run }

pub returns-clause-made : goal.returns-clause-made
returns-clause-made g c = λ there from copied here are.
    let s = g.T.Store in
    let n = c.args.number in
    let to = c.args.layout in
    let start = c.args.to.now in
    let mid = c.write_new.new.self in
    let shard = c.shard-shard.result in
    let Q = HasSome there from copied to n in
    let free = stands_too s start Q IsFree (λ f has. has.free) here in
    let at = begun s start IsFree (λ f. g.met.T.Store.only_now start f) free in
    let w = c.write_new.ensures in
    let first = wrote s start start mid (Revision shard n) IsFree Q Q (record { stands = here; run = at.run }) w.honest w.others w.stop w.time
    (λ d f same. revision_stays there from copied to n d f shard same) (λ f has. has.free) in
    let new = c.write_new-2.new.self in
    let R : Folder → Type 0 = λ f. Q f × (f (Revision shard n) ≡ Some c.args.revision.now) in
    let u = c.in_ok-write_new.ensures in
    let written = with_bytes s start mid (Revision shard n) c.args.revision.now IsFree Q R first
    (u.written here.honest) (u.kept here.honest) (λ f has is. (has, is)) in
    let v = c.write_new-2.ensures in
    let second = wrote s start mid new (Properties shard n) IsFree R R written v.honest v.others v.stop v.time
    (λ d f same has. (properties_stay there from copied to n d f shard same has.0, same (Revision shard n) (λ x. cc) ∙ has.1)) (λ f has. has.0.free) in
    let named : shard ≡ shard_in to n = c.shard-shard.ensures in
    ok_gives_both c.write_new-2.result
    (λ is kept. (with_bytes s start new (Properties shard n) c.args.properties.now IsFree R (HasSome there from copied to (n + 1)) second is kept
    (λ f has p. one_more there from copied to n f c.args.revision.now c.args.properties.now are has.0
    (ap (λ (x : Option ℕ). f (Revision x n)) (sym named) ∙ has.1) (ap (λ (x : Option ℕ). f (Properties x n)) (sym named) ∙ p))).stands)
    (v.written (w.honest.0 here.honest)) (v.kept (w.honest.0 here.honest))
