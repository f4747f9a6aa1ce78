use Rattle.std.proofs.Common.{Some, refl, ap, ◌∙◌}
use Rattle.store_files.specs.declared.name.FileName.TheVariants.{RepositoryFormat, Kind, Uuid}
use Rattle.repository_creation.specs.{Creating.IsFreeWith, Migrating.{HasSome, IsFree}}
use Rattle.repostore.proofs.Steps.{begun, stands_too, wrote, with_bytes, ok_gives_both}
use Rattle.repository_creation.proofs.Copying.{free_stays}
use Rattle.repository_creation.proofs.migrating.write_head.Goals as goal

pub returns-in_err-write_new-clause-going : goal.returns-in_err-write_new-clause-going
returns-in_err-write_new-clause-going g c = λ there here.
    let s = g.T.Store in
    let start = c.args.to.now in
    let Q = IsFreeWith there in
    let free = stands_too s start Q IsFree (λ f has. has.free) here in
    let at = begun s start IsFree (λ f. g.met.T.Store.only_now start f) free in
    let w0 = wrote s start start c.write_new.new.self RepositoryFormat IsFree Q Q (record { stands = here; run = at.run }) c.write_new.ensures.honest c.write_new.ensures.others c.write_new.ensures.stop c.write_new.ensures.time
    (free_stays there RepositoryFormat (λ x. cc) (λ x. cc)) (λ f has. has.free) in
    record { stands = stands_too s c.write_new.new.self Q IsFree (λ f has. has.free) w0.stands; run = w0.run }

pub returns-in_err-write_new-2-clause-going : goal.returns-in_err-write_new-2-clause-going
returns-in_err-write_new-2-clause-going g c = λ there here.
    let s = g.T.Store in
    let start = c.args.to.now in
    let Q = IsFreeWith there in
    let free = stands_too s start Q IsFree (λ f has. has.free) here in
    let at = begun s start IsFree (λ f. g.met.T.Store.only_now start f) free in
    let w0 = wrote s start start c.write_new.new.self RepositoryFormat IsFree Q Q (record { stands = here; run = at.run }) c.write_new.ensures.honest c.write_new.ensures.others c.write_new.ensures.stop c.write_new.ensures.time
    (free_stays there RepositoryFormat (λ x. cc) (λ x. cc)) (λ f has. has.free) in
    let w1 = wrote s start c.write_new.new.self c.write_new-2.new.self Kind IsFree Q Q w0 c.write_new-2.ensures.honest c.write_new-2.ensures.others c.write_new-2.ensures.stop c.write_new-2.ensures.time
    (free_stays there Kind (λ x. cc) (λ x. cc)) (λ f has. has.free) in
    record { stands = stands_too s c.write_new-2.new.self Q IsFree (λ f has. has.free) w1.stands; run = w1.run }

pub returns-clause-going : goal.returns-clause-going
returns-clause-going g c = λ there here.
    let s = g.T.Store in
    let start = c.args.to.now in
    let Q = IsFreeWith there in
    let free = stands_too s start Q IsFree (λ f has. has.free) here in
    let at = begun s start IsFree (λ f. g.met.T.Store.only_now start f) free in
    let w0 = wrote s start start c.write_new.new.self RepositoryFormat IsFree Q Q (record { stands = here; run = at.run }) c.write_new.ensures.honest c.write_new.ensures.others c.write_new.ensures.stop c.write_new.ensures.time
    (free_stays there RepositoryFormat (λ x. cc) (λ x. cc)) (λ f has. has.free) in
    let w1 = wrote s start c.write_new.new.self c.write_new-2.new.self Kind IsFree Q Q w0 c.write_new-2.ensures.honest c.write_new-2.ensures.others c.write_new-2.ensures.stop c.write_new-2.ensures.time
    (free_stays there Kind (λ x. cc) (λ x. cc)) (λ f has. has.free) in
    let w2 = wrote s start c.write_new-2.new.self c.write_new-3.new.self Uuid IsFree Q Q w1 c.write_new-3.ensures.honest c.write_new-3.ensures.others c.write_new-3.ensures.stop c.write_new-3.ensures.time
    (free_stays there Uuid (λ x. cc) (λ x. cc)) (λ f has. has.free) in
    record { stands = stands_too s c.write_new-3.new.self Q IsFree (λ f has. has.free) w2.stands; run = w2.run }

pub returns-clause-made : goal.returns-clause-made
returns-clause-made g c = λ there from layout copied here is.
    let s = g.T.Store in
    let start = c.args.to.now in
    let Q = IsFreeWith there in
    let free = stands_too s start Q IsFree (λ f has. has.free) here in
    let at = begun s start IsFree (λ f. g.met.T.Store.only_now start f) free in
    let w0 = wrote s start start c.write_new.new.self RepositoryFormat IsFree Q Q (record { stands = here; run = at.run }) c.write_new.ensures.honest c.write_new.ensures.others c.write_new.ensures.stop c.write_new.ensures.time
    (free_stays there RepositoryFormat (λ x. cc) (λ x. cc)) (λ f has. has.free) in
    let w1 = wrote s start c.write_new.new.self c.write_new-2.new.self Kind IsFree Q Q w0 c.write_new-2.ensures.honest c.write_new-2.ensures.others c.write_new-2.ensures.stop c.write_new-2.ensures.time
    (free_stays there Kind (λ x. cc) (λ x. cc)) (λ f has. has.free) in
    let w2 = wrote s start c.write_new-2.new.self c.write_new-3.new.self Uuid IsFree Q Q w1 c.write_new-3.ensures.honest c.write_new-3.ensures.others c.write_new-3.ensures.stop c.write_new-3.ensures.time
    (free_stays there Uuid (λ x. cc) (λ x. cc)) (λ f has. has.free) in
    let h = c.write_new-2.ensures.honest.0 (c.write_new.ensures.honest.0 here.honest) in
    ok_gives_both c.write_new-3.result
    (λ done kept. (with_bytes s start c.write_new-3.new.self Uuid c.args.uuid.now IsFree Q (HasSome there from copied layout 0) w2 done kept
    (λ f has u. record { free = has.free; locks_are = has.locks_are; uuid_is = u ∙ ap Some is; revisions_are = refl })).stands)
    (c.write_new-3.ensures.written h) (c.write_new-3.ensures.kept h)
