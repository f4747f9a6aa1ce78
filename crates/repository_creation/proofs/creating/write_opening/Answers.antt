use Rattle.std.proofs.Common.{[], ◌∷◌, inl, refl, rules, subst, sym, ap, ◌∙◌}
use Rattle.std.specs.Prelude.{IsErr}
use Rattle.fsfs_text.specs.Formats.{shard_in}
use Rattle.store_files.specs.declared.name.FileName.TheVariants.{Format, Kind, Uuid, Current, Revision, Properties, RepositoryFormat}
use Rattle.repostore.specs.Files.{HasFiles}
use Rattle.repository_creation.specs.Creating.{IsFreeWith, IsFreeOrHas}
use Rattle.repostore.proofs.{Reaching.created, Steps.{swapped, replaced}}
use Rattle.repository_creation.proofs.Beginning.{Begins, Opened, TheFiles, opening_is, opening_may_be, starts, one_more, is_written, is_free, leaves_free}
use Rattle.repository_creation.proofs.Beginning.{not_replaced}
use Rattle.repository_creation.proofs.creating.write_opening.Goals as goal

pub returns-in-Ok-clause-made : goal.returns-in-Ok-clause-made
returns-in-Ok-clause-made g c = λ h0 count.
    let s = g.S.Store in
    let h1 = c.write_new.ensures.honest.0 h0 in
    let h2 = c.write_new-2.ensures.honest.0 h1 in
    let h3 = c.write_new-3.ensures.honest.0 h2 in
    let h4 = c.write_new-4.ensures.honest.0 h3 in
    let h5 = c.write_new-5.ensures.honest.0 h4 in
    let h6 = c.write_new-6.ensures.honest.0 h5 in
    let o = c.args.opening in
    created (s.holds c.args.store.now) (s.holds c.write_new.new.self) (s.holds c.write_new-2.new.self) (s.holds c.write_new-3.new.self) (s.holds c.write_new-4.new.self) (s.holds c.write_new-5.new.self) (s.holds c.write_new-6.new.self) (s.holds c.replace.new.self)
    c.shard-shard.result o.format.now o.uuid.now o.revision.now o.properties.now o.current.now (c.shard-shard.ensures ∙ ap (λ l. shard_in l 0) c.layout_in.ensures) count
    (c.write_new.ensures.others h0) (c.write_new-2.ensures.others h1) (c.write_new-3.ensures.others h2) (c.write_new-4.ensures.others h3) (c.write_new-5.ensures.others h4) (c.write_new-6.ensures.others h5) (c.replace.ensures.others h6)
    (c.in_ok-write_new-3.ensures.written h2) (c.in_ok-write_new-4.ensures.written h3) (c.in_ok-write_new-5.ensures.written h4) (c.in_ok-write_new-6.ensures.written h5) (c.in-Ok.ensures.written h6)

pub returns-in_err-write_new-clause-creates : goal.returns-in_err-write_new-clause-creates
returns-in_err-write_new-clause-creates g c = λ locks free.
    let s = g.S.Store in
    let start = c.args.store.now in
    let o = c.args.opening in
    let at = starts s locks start (λ f. g.met.S.Store.only_now start f) free in
    let w0 = one_more s locks start c.args.store.now c.write_new.new.self RepositoryFormat ([]) (λ e. cc) (λ e. cc) tt at c.write_new.ensures.honest c.write_new.ensures.others c.write_new.ensures.stop c.write_new.ensures.time in
    record {
      stop = λ count. leaves_free s locks start c.write_new.new.self _ w0.run;
      kept = λ count. search rules;
      again = λ fails steady. is_free s locks start c.write_new.new.self ([]) w0;
    }

pub returns-in_err-write_new-2-clause-creates : goal.returns-in_err-write_new-2-clause-creates
returns-in_err-write_new-2-clause-creates g c = λ locks free.
    let s = g.S.Store in
    let start = c.args.store.now in
    let o = c.args.opening in
    let at = starts s locks start (λ f. g.met.S.Store.only_now start f) free in
    let w0 = one_more s locks start c.args.store.now c.write_new.new.self RepositoryFormat ([]) (λ e. cc) (λ e. cc) tt at c.write_new.ensures.honest c.write_new.ensures.others c.write_new.ensures.stop c.write_new.ensures.time in
    let d0 = is_written s locks start c.write_new.new.self RepositoryFormat o.repository_format.now ([]) w0 (c.in_ok-write_new.ensures.written free.honest) (c.in_ok-write_new.ensures.kept free.honest) in
    let h0 = c.write_new.ensures.honest.0 free.honest in
    let w1 = one_more s locks start c.write_new.new.self c.write_new-2.new.self Kind ((RepositoryFormat, o.repository_format.now) ∷ []) (λ e. cc) (λ e. cc) (λ e. cc, tt) d0 c.write_new-2.ensures.honest c.write_new-2.ensures.others c.write_new-2.ensures.stop c.write_new-2.ensures.time in
    record {
      stop = λ count. leaves_free s locks start c.write_new-2.new.self _ w1.run;
      kept = λ count. search rules;
      again = λ fails steady. is_free s locks start c.write_new-2.new.self ((RepositoryFormat, o.repository_format.now) ∷ []) w1;
    }

pub returns-in_err-write_new-3-clause-creates : goal.returns-in_err-write_new-3-clause-creates
returns-in_err-write_new-3-clause-creates g c = λ locks free.
    let s = g.S.Store in
    let start = c.args.store.now in
    let o = c.args.opening in
    let at = starts s locks start (λ f. g.met.S.Store.only_now start f) free in
    let w0 = one_more s locks start c.args.store.now c.write_new.new.self RepositoryFormat ([]) (λ e. cc) (λ e. cc) tt at c.write_new.ensures.honest c.write_new.ensures.others c.write_new.ensures.stop c.write_new.ensures.time in
    let d0 = is_written s locks start c.write_new.new.self RepositoryFormat o.repository_format.now ([]) w0 (c.in_ok-write_new.ensures.written free.honest) (c.in_ok-write_new.ensures.kept free.honest) in
    let h0 = c.write_new.ensures.honest.0 free.honest in
    let w1 = one_more s locks start c.write_new.new.self c.write_new-2.new.self Kind ((RepositoryFormat, o.repository_format.now) ∷ []) (λ e. cc) (λ e. cc) (λ e. cc, tt) d0 c.write_new-2.ensures.honest c.write_new-2.ensures.others c.write_new-2.ensures.stop c.write_new-2.ensures.time in
    let d1 = is_written s locks start c.write_new-2.new.self Kind o.kind.now ((RepositoryFormat, o.repository_format.now) ∷ []) w1 (c.in_ok-write_new-2.ensures.written h0) (c.in_ok-write_new-2.ensures.kept h0) in
    let h1 = c.write_new-2.ensures.honest.0 h0 in
    let w2 = one_more s locks start c.write_new-2.new.self c.write_new-3.new.self Uuid ((Kind, o.kind.now) ∷ (RepositoryFormat, o.repository_format.now) ∷ []) (λ e. cc) (λ e. cc) (λ e. cc, (λ e. cc, tt)) d1 c.write_new-3.ensures.honest c.write_new-3.ensures.others c.write_new-3.ensures.stop c.write_new-3.ensures.time in
    record {
      stop = λ count. leaves_free s locks start c.write_new-3.new.self _ w2.run;
      kept = λ count. search rules;
      again = λ fails steady. is_free s locks start c.write_new-3.new.self ((Kind, o.kind.now) ∷ (RepositoryFormat, o.repository_format.now) ∷ []) w2;
    }

pub returns-in_err-write_new-4-clause-creates : goal.returns-in_err-write_new-4-clause-creates
returns-in_err-write_new-4-clause-creates g c = λ locks free.
    let s = g.S.Store in
    let start = c.args.store.now in
    let o = c.args.opening in
    let at = starts s locks start (λ f. g.met.S.Store.only_now start f) free in
    let w0 = one_more s locks start c.args.store.now c.write_new.new.self RepositoryFormat ([]) (λ e. cc) (λ e. cc) tt at c.write_new.ensures.honest c.write_new.ensures.others c.write_new.ensures.stop c.write_new.ensures.time in
    let d0 = is_written s locks start c.write_new.new.self RepositoryFormat o.repository_format.now ([]) w0 (c.in_ok-write_new.ensures.written free.honest) (c.in_ok-write_new.ensures.kept free.honest) in
    let h0 = c.write_new.ensures.honest.0 free.honest in
    let w1 = one_more s locks start c.write_new.new.self c.write_new-2.new.self Kind ((RepositoryFormat, o.repository_format.now) ∷ []) (λ e. cc) (λ e. cc) (λ e. cc, tt) d0 c.write_new-2.ensures.honest c.write_new-2.ensures.others c.write_new-2.ensures.stop c.write_new-2.ensures.time in
    let d1 = is_written s locks start c.write_new-2.new.self Kind o.kind.now ((RepositoryFormat, o.repository_format.now) ∷ []) w1 (c.in_ok-write_new-2.ensures.written h0) (c.in_ok-write_new-2.ensures.kept h0) in
    let h1 = c.write_new-2.ensures.honest.0 h0 in
    let w2 = one_more s locks start c.write_new-2.new.self c.write_new-3.new.self Uuid ((Kind, o.kind.now) ∷ (RepositoryFormat, o.repository_format.now) ∷ []) (λ e. cc) (λ e. cc) (λ e. cc, (λ e. cc, tt)) d1 c.write_new-3.ensures.honest c.write_new-3.ensures.others c.write_new-3.ensures.stop c.write_new-3.ensures.time in
    let d2 = is_written s locks start c.write_new-3.new.self Uuid o.uuid.now ((Kind, o.kind.now) ∷ (RepositoryFormat, o.repository_format.now) ∷ []) w2 (c.in_ok-write_new-3.ensures.written h1) (c.in_ok-write_new-3.ensures.kept h1) in
    let h2 = c.write_new-3.ensures.honest.0 h1 in
    let w3 = one_more s locks start c.write_new-3.new.self c.write_new-4.new.self (Revision c.shard-shard.result 0) ((Uuid, o.uuid.now) ∷ (Kind, o.kind.now) ∷ (RepositoryFormat, o.repository_format.now) ∷ []) (λ e. cc) (λ e. cc) (λ e. cc, (λ e. cc, (λ e. cc, tt))) d2 c.write_new-4.ensures.honest c.write_new-4.ensures.others c.write_new-4.ensures.stop c.write_new-4.ensures.time in
    record {
      stop = λ count. leaves_free s locks start c.write_new-4.new.self _ w3.run;
      kept = λ count. search rules;
      again = λ fails steady. is_free s locks start c.write_new-4.new.self ((Uuid, o.uuid.now) ∷ (Kind, o.kind.now) ∷ (RepositoryFormat, o.repository_format.now) ∷ []) w3;
    }

pub returns-in_err-write_new-5-clause-creates : goal.returns-in_err-write_new-5-clause-creates
returns-in_err-write_new-5-clause-creates g c = λ locks free.
    let s = g.S.Store in
    let start = c.args.store.now in
    let o = c.args.opening in
    let at = starts s locks start (λ f. g.met.S.Store.only_now start f) free in
    let w0 = one_more s locks start c.args.store.now c.write_new.new.self RepositoryFormat ([]) (λ e. cc) (λ e. cc) tt at c.write_new.ensures.honest c.write_new.ensures.others c.write_new.ensures.stop c.write_new.ensures.time in
    let d0 = is_written s locks start c.write_new.new.self RepositoryFormat o.repository_format.now ([]) w0 (c.in_ok-write_new.ensures.written free.honest) (c.in_ok-write_new.ensures.kept free.honest) in
    let h0 = c.write_new.ensures.honest.0 free.honest in
    let w1 = one_more s locks start c.write_new.new.self c.write_new-2.new.self Kind ((RepositoryFormat, o.repository_format.now) ∷ []) (λ e. cc) (λ e. cc) (λ e. cc, tt) d0 c.write_new-2.ensures.honest c.write_new-2.ensures.others c.write_new-2.ensures.stop c.write_new-2.ensures.time in
    let d1 = is_written s locks start c.write_new-2.new.self Kind o.kind.now ((RepositoryFormat, o.repository_format.now) ∷ []) w1 (c.in_ok-write_new-2.ensures.written h0) (c.in_ok-write_new-2.ensures.kept h0) in
    let h1 = c.write_new-2.ensures.honest.0 h0 in
    let w2 = one_more s locks start c.write_new-2.new.self c.write_new-3.new.self Uuid ((Kind, o.kind.now) ∷ (RepositoryFormat, o.repository_format.now) ∷ []) (λ e. cc) (λ e. cc) (λ e. cc, (λ e. cc, tt)) d1 c.write_new-3.ensures.honest c.write_new-3.ensures.others c.write_new-3.ensures.stop c.write_new-3.ensures.time in
    let d2 = is_written s locks start c.write_new-3.new.self Uuid o.uuid.now ((Kind, o.kind.now) ∷ (RepositoryFormat, o.repository_format.now) ∷ []) w2 (c.in_ok-write_new-3.ensures.written h1) (c.in_ok-write_new-3.ensures.kept h1) in
    let h2 = c.write_new-3.ensures.honest.0 h1 in
    let w3 = one_more s locks start c.write_new-3.new.self c.write_new-4.new.self (Revision c.shard-shard.result 0) ((Uuid, o.uuid.now) ∷ (Kind, o.kind.now) ∷ (RepositoryFormat, o.repository_format.now) ∷ []) (λ e. cc) (λ e. cc) (λ e. cc, (λ e. cc, (λ e. cc, tt))) d2 c.write_new-4.ensures.honest c.write_new-4.ensures.others c.write_new-4.ensures.stop c.write_new-4.ensures.time in
    let d3 = is_written s locks start c.write_new-4.new.self (Revision c.shard-shard.result 0) o.revision.now ((Uuid, o.uuid.now) ∷ (Kind, o.kind.now) ∷ (RepositoryFormat, o.repository_format.now) ∷ []) w3 (c.in_ok-write_new-4.ensures.written h2) (c.in_ok-write_new-4.ensures.kept h2) in
    let h3 = c.write_new-4.ensures.honest.0 h2 in
    let w4 = one_more s locks start c.write_new-4.new.self c.write_new-5.new.self (Properties c.shard-shard.result 0) (((Revision c.shard-shard.result 0), o.revision.now) ∷ (Uuid, o.uuid.now) ∷ (Kind, o.kind.now) ∷ (RepositoryFormat, o.repository_format.now) ∷ []) (λ e. cc) (λ e. cc) (λ e. cc, (λ e. cc, (λ e. cc, (λ e. cc, tt)))) d3 c.write_new-5.ensures.honest c.write_new-5.ensures.others c.write_new-5.ensures.stop c.write_new-5.ensures.time in
    record {
      stop = λ count. leaves_free s locks start c.write_new-5.new.self _ w4.run;
      kept = λ count. search rules;
      again = λ fails steady. is_free s locks start c.write_new-5.new.self (((Revision c.shard-shard.result 0), o.revision.now) ∷ (Uuid, o.uuid.now) ∷ (Kind, o.kind.now) ∷ (RepositoryFormat, o.repository_format.now) ∷ []) w4;
    }

pub returns-in_err-write_new-6-clause-creates : goal.returns-in_err-write_new-6-clause-creates
returns-in_err-write_new-6-clause-creates g c = λ locks free.
    let s = g.S.Store in
    let start = c.args.store.now in
    let o = c.args.opening in
    let at = starts s locks start (λ f. g.met.S.Store.only_now start f) free in
    let w0 = one_more s locks start c.args.store.now c.write_new.new.self RepositoryFormat ([]) (λ e. cc) (λ e. cc) tt at c.write_new.ensures.honest c.write_new.ensures.others c.write_new.ensures.stop c.write_new.ensures.time in
    let d0 = is_written s locks start c.write_new.new.self RepositoryFormat o.repository_format.now ([]) w0 (c.in_ok-write_new.ensures.written free.honest) (c.in_ok-write_new.ensures.kept free.honest) in
    let h0 = c.write_new.ensures.honest.0 free.honest in
    let w1 = one_more s locks start c.write_new.new.self c.write_new-2.new.self Kind ((RepositoryFormat, o.repository_format.now) ∷ []) (λ e. cc) (λ e. cc) (λ e. cc, tt) d0 c.write_new-2.ensures.honest c.write_new-2.ensures.others c.write_new-2.ensures.stop c.write_new-2.ensures.time in
    let d1 = is_written s locks start c.write_new-2.new.self Kind o.kind.now ((RepositoryFormat, o.repository_format.now) ∷ []) w1 (c.in_ok-write_new-2.ensures.written h0) (c.in_ok-write_new-2.ensures.kept h0) in
    let h1 = c.write_new-2.ensures.honest.0 h0 in
    let w2 = one_more s locks start c.write_new-2.new.self c.write_new-3.new.self Uuid ((Kind, o.kind.now) ∷ (RepositoryFormat, o.repository_format.now) ∷ []) (λ e. cc) (λ e. cc) (λ e. cc, (λ e. cc, tt)) d1 c.write_new-3.ensures.honest c.write_new-3.ensures.others c.write_new-3.ensures.stop c.write_new-3.ensures.time in
    let d2 = is_written s locks start c.write_new-3.new.self Uuid o.uuid.now ((Kind, o.kind.now) ∷ (RepositoryFormat, o.repository_format.now) ∷ []) w2 (c.in_ok-write_new-3.ensures.written h1) (c.in_ok-write_new-3.ensures.kept h1) in
    let h2 = c.write_new-3.ensures.honest.0 h1 in
    let w3 = one_more s locks start c.write_new-3.new.self c.write_new-4.new.self (Revision c.shard-shard.result 0) ((Uuid, o.uuid.now) ∷ (Kind, o.kind.now) ∷ (RepositoryFormat, o.repository_format.now) ∷ []) (λ e. cc) (λ e. cc) (λ e. cc, (λ e. cc, (λ e. cc, tt))) d2 c.write_new-4.ensures.honest c.write_new-4.ensures.others c.write_new-4.ensures.stop c.write_new-4.ensures.time in
    let d3 = is_written s locks start c.write_new-4.new.self (Revision c.shard-shard.result 0) o.revision.now ((Uuid, o.uuid.now) ∷ (Kind, o.kind.now) ∷ (RepositoryFormat, o.repository_format.now) ∷ []) w3 (c.in_ok-write_new-4.ensures.written h2) (c.in_ok-write_new-4.ensures.kept h2) in
    let h3 = c.write_new-4.ensures.honest.0 h2 in
    let w4 = one_more s locks start c.write_new-4.new.self c.write_new-5.new.self (Properties c.shard-shard.result 0) (((Revision c.shard-shard.result 0), o.revision.now) ∷ (Uuid, o.uuid.now) ∷ (Kind, o.kind.now) ∷ (RepositoryFormat, o.repository_format.now) ∷ []) (λ e. cc) (λ e. cc) (λ e. cc, (λ e. cc, (λ e. cc, (λ e. cc, tt)))) d3 c.write_new-5.ensures.honest c.write_new-5.ensures.others c.write_new-5.ensures.stop c.write_new-5.ensures.time in
    let d4 = is_written s locks start c.write_new-5.new.self (Properties c.shard-shard.result 0) o.properties.now (((Revision c.shard-shard.result 0), o.revision.now) ∷ (Uuid, o.uuid.now) ∷ (Kind, o.kind.now) ∷ (RepositoryFormat, o.repository_format.now) ∷ []) w4 (c.in_ok-write_new-5.ensures.written h3) (c.in_ok-write_new-5.ensures.kept h3) in
    let h4 = c.write_new-5.ensures.honest.0 h3 in
    let w5 = one_more s locks start c.write_new-5.new.self c.write_new-6.new.self Current (((Properties c.shard-shard.result 0), o.properties.now) ∷ ((Revision c.shard-shard.result 0), o.revision.now) ∷ (Uuid, o.uuid.now) ∷ (Kind, o.kind.now) ∷ (RepositoryFormat, o.repository_format.now) ∷ []) (λ e. cc) (λ e. cc) (λ e. cc, (λ e. cc, (λ e. cc, (λ e. cc, (λ e. cc, tt))))) d4 c.write_new-6.ensures.honest c.write_new-6.ensures.others c.write_new-6.ensures.stop c.write_new-6.ensures.time in
    record {
      stop = λ count. leaves_free s locks start c.write_new-6.new.self _ w5.run;
      kept = λ count. search rules;
      again = λ fails steady. is_free s locks start c.write_new-6.new.self (((Properties c.shard-shard.result 0), o.properties.now) ∷ ((Revision c.shard-shard.result 0), o.revision.now) ∷ (Uuid, o.uuid.now) ∷ (Kind, o.kind.now) ∷ (RepositoryFormat, o.repository_format.now) ∷ []) w5;
    }

pub returns-in-Err-clause-creates : goal.returns-in-Err-clause-creates
returns-in-Err-clause-creates g c = λ locks free.
    let s = g.S.Store in
    let start = c.args.store.now in
    let o = c.args.opening in
    let at = starts s locks start (λ f. g.met.S.Store.only_now start f) free in
    let w0 = one_more s locks start c.args.store.now c.write_new.new.self RepositoryFormat ([]) (λ e. cc) (λ e. cc) tt at c.write_new.ensures.honest c.write_new.ensures.others c.write_new.ensures.stop c.write_new.ensures.time in
    let d0 = is_written s locks start c.write_new.new.self RepositoryFormat o.repository_format.now ([]) w0 (c.in_ok-write_new.ensures.written free.honest) (c.in_ok-write_new.ensures.kept free.honest) in
    let h0 = c.write_new.ensures.honest.0 free.honest in
    let w1 = one_more s locks start c.write_new.new.self c.write_new-2.new.self Kind ((RepositoryFormat, o.repository_format.now) ∷ []) (λ e. cc) (λ e. cc) (λ e. cc, tt) d0 c.write_new-2.ensures.honest c.write_new-2.ensures.others c.write_new-2.ensures.stop c.write_new-2.ensures.time in
    let d1 = is_written s locks start c.write_new-2.new.self Kind o.kind.now ((RepositoryFormat, o.repository_format.now) ∷ []) w1 (c.in_ok-write_new-2.ensures.written h0) (c.in_ok-write_new-2.ensures.kept h0) in
    let h1 = c.write_new-2.ensures.honest.0 h0 in
    let w2 = one_more s locks start c.write_new-2.new.self c.write_new-3.new.self Uuid ((Kind, o.kind.now) ∷ (RepositoryFormat, o.repository_format.now) ∷ []) (λ e. cc) (λ e. cc) (λ e. cc, (λ e. cc, tt)) d1 c.write_new-3.ensures.honest c.write_new-3.ensures.others c.write_new-3.ensures.stop c.write_new-3.ensures.time in
    let d2 = is_written s locks start c.write_new-3.new.self Uuid o.uuid.now ((Kind, o.kind.now) ∷ (RepositoryFormat, o.repository_format.now) ∷ []) w2 (c.in_ok-write_new-3.ensures.written h1) (c.in_ok-write_new-3.ensures.kept h1) in
    let h2 = c.write_new-3.ensures.honest.0 h1 in
    let w3 = one_more s locks start c.write_new-3.new.self c.write_new-4.new.self (Revision c.shard-shard.result 0) ((Uuid, o.uuid.now) ∷ (Kind, o.kind.now) ∷ (RepositoryFormat, o.repository_format.now) ∷ []) (λ e. cc) (λ e. cc) (λ e. cc, (λ e. cc, (λ e. cc, tt))) d2 c.write_new-4.ensures.honest c.write_new-4.ensures.others c.write_new-4.ensures.stop c.write_new-4.ensures.time in
    let d3 = is_written s locks start c.write_new-4.new.self (Revision c.shard-shard.result 0) o.revision.now ((Uuid, o.uuid.now) ∷ (Kind, o.kind.now) ∷ (RepositoryFormat, o.repository_format.now) ∷ []) w3 (c.in_ok-write_new-4.ensures.written h2) (c.in_ok-write_new-4.ensures.kept h2) in
    let h3 = c.write_new-4.ensures.honest.0 h2 in
    let w4 = one_more s locks start c.write_new-4.new.self c.write_new-5.new.self (Properties c.shard-shard.result 0) (((Revision c.shard-shard.result 0), o.revision.now) ∷ (Uuid, o.uuid.now) ∷ (Kind, o.kind.now) ∷ (RepositoryFormat, o.repository_format.now) ∷ []) (λ e. cc) (λ e. cc) (λ e. cc, (λ e. cc, (λ e. cc, (λ e. cc, tt)))) d3 c.write_new-5.ensures.honest c.write_new-5.ensures.others c.write_new-5.ensures.stop c.write_new-5.ensures.time in
    let d4 = is_written s locks start c.write_new-5.new.self (Properties c.shard-shard.result 0) o.properties.now (((Revision c.shard-shard.result 0), o.revision.now) ∷ (Uuid, o.uuid.now) ∷ (Kind, o.kind.now) ∷ (RepositoryFormat, o.repository_format.now) ∷ []) w4 (c.in_ok-write_new-5.ensures.written h3) (c.in_ok-write_new-5.ensures.kept h3) in
    let h4 = c.write_new-5.ensures.honest.0 h3 in
    let w5 = one_more s locks start c.write_new-5.new.self c.write_new-6.new.self Current (((Properties c.shard-shard.result 0), o.properties.now) ∷ ((Revision c.shard-shard.result 0), o.revision.now) ∷ (Uuid, o.uuid.now) ∷ (Kind, o.kind.now) ∷ (RepositoryFormat, o.repository_format.now) ∷ []) (λ e. cc) (λ e. cc) (λ e. cc, (λ e. cc, (λ e. cc, (λ e. cc, (λ e. cc, tt))))) d4 c.write_new-6.ensures.honest c.write_new-6.ensures.others c.write_new-6.ensures.stop c.write_new-6.ensures.time in
    let d5 = is_written s locks start c.write_new-6.new.self Current o.current.now (((Properties c.shard-shard.result 0), o.properties.now) ∷ ((Revision c.shard-shard.result 0), o.revision.now) ∷ (Uuid, o.uuid.now) ∷ (Kind, o.kind.now) ∷ (RepositoryFormat, o.repository_format.now) ∷ []) w5 (c.in_ok-write_new-6.ensures.written h4) (c.in_ok-write_new-6.ensures.kept h4) in
    let h5 = c.write_new-6.ensures.honest.0 h4 in
    let r = c.replace.ensures in
    let old = c.write_new-6.new.self in
    let new = c.replace.new.self in
    record {
      stop = λ count. swapped s start old new Format o.format.now (IsFreeWith locks) (Begins locks (Opened c.shard-shard.result o.repository_format.now o.kind.now o.uuid.now o.revision.now o.properties.now o.current.now)) (IsFreeOrHas (TheFiles locks c.shard-shard.result o.format.now o.repository_format.now o.kind.now o.uuid.now o.revision.now o.properties.now o.current.now (c.shard-shard.ensures ∙ ap (λ l. shard_in l 0) c.layout_in.ensures) count)) d5
          (record { honest = r.honest.0 h5; others = r.others h5; either = r.either h5; stop = r.stop h5; time = r.time h5 })
          (opening_may_be locks c.shard-shard.result o.format.now o.repository_format.now o.kind.now o.uuid.now o.revision.now o.properties.now o.current.now (c.shard-shard.ensures ∙ ap (λ l. shard_in l 0) c.layout_in.ensures) count) (λ f is. inl is.free);
      kept = λ count. search rules;
      again = λ fails steady. not_replaced s locks start old new (Opened c.shard-shard.result o.repository_format.now o.kind.now o.uuid.now o.revision.now o.properties.now o.current.now) (s.in_doubt old) (s.in_doubt new) c.replace.result d5 (subst IsErr (sym c.in-Err.is) refl) (r.honest.0 h5)
          (sym (steady ∙ sym (c.write_new-6.ensures.doubt ∙ c.write_new-5.ensures.doubt ∙ c.write_new-4.ensures.doubt ∙ c.write_new-3.ensures.doubt ∙ c.write_new-2.ensures.doubt ∙ c.write_new.ensures.doubt)))
          r.doubt.0.0 (r.refused h5) (r.unchanged h5);
    }

pub returns-in-Ok-clause-creates : goal.returns-in-Ok-clause-creates
returns-in-Ok-clause-creates g c = λ locks free.
    let s = g.S.Store in
    let start = c.args.store.now in
    let o = c.args.opening in
    let at = starts s locks start (λ f. g.met.S.Store.only_now start f) free in
    let w0 = one_more s locks start c.args.store.now c.write_new.new.self RepositoryFormat ([]) (λ e. cc) (λ e. cc) tt at c.write_new.ensures.honest c.write_new.ensures.others c.write_new.ensures.stop c.write_new.ensures.time in
    let d0 = is_written s locks start c.write_new.new.self RepositoryFormat o.repository_format.now ([]) w0 (c.in_ok-write_new.ensures.written free.honest) (c.in_ok-write_new.ensures.kept free.honest) in
    let h0 = c.write_new.ensures.honest.0 free.honest in
    let w1 = one_more s locks start c.write_new.new.self c.write_new-2.new.self Kind ((RepositoryFormat, o.repository_format.now) ∷ []) (λ e. cc) (λ e. cc) (λ e. cc, tt) d0 c.write_new-2.ensures.honest c.write_new-2.ensures.others c.write_new-2.ensures.stop c.write_new-2.ensures.time in
    let d1 = is_written s locks start c.write_new-2.new.self Kind o.kind.now ((RepositoryFormat, o.repository_format.now) ∷ []) w1 (c.in_ok-write_new-2.ensures.written h0) (c.in_ok-write_new-2.ensures.kept h0) in
    let h1 = c.write_new-2.ensures.honest.0 h0 in
    let w2 = one_more s locks start c.write_new-2.new.self c.write_new-3.new.self Uuid ((Kind, o.kind.now) ∷ (RepositoryFormat, o.repository_format.now) ∷ []) (λ e. cc) (λ e. cc) (λ e. cc, (λ e. cc, tt)) d1 c.write_new-3.ensures.honest c.write_new-3.ensures.others c.write_new-3.ensures.stop c.write_new-3.ensures.time in
    let d2 = is_written s locks start c.write_new-3.new.self Uuid o.uuid.now ((Kind, o.kind.now) ∷ (RepositoryFormat, o.repository_format.now) ∷ []) w2 (c.in_ok-write_new-3.ensures.written h1) (c.in_ok-write_new-3.ensures.kept h1) in
    let h2 = c.write_new-3.ensures.honest.0 h1 in
    let w3 = one_more s locks start c.write_new-3.new.self c.write_new-4.new.self (Revision c.shard-shard.result 0) ((Uuid, o.uuid.now) ∷ (Kind, o.kind.now) ∷ (RepositoryFormat, o.repository_format.now) ∷ []) (λ e. cc) (λ e. cc) (λ e. cc, (λ e. cc, (λ e. cc, tt))) d2 c.write_new-4.ensures.honest c.write_new-4.ensures.others c.write_new-4.ensures.stop c.write_new-4.ensures.time in
    let d3 = is_written s locks start c.write_new-4.new.self (Revision c.shard-shard.result 0) o.revision.now ((Uuid, o.uuid.now) ∷ (Kind, o.kind.now) ∷ (RepositoryFormat, o.repository_format.now) ∷ []) w3 (c.in_ok-write_new-4.ensures.written h2) (c.in_ok-write_new-4.ensures.kept h2) in
    let h3 = c.write_new-4.ensures.honest.0 h2 in
    let w4 = one_more s locks start c.write_new-4.new.self c.write_new-5.new.self (Properties c.shard-shard.result 0) (((Revision c.shard-shard.result 0), o.revision.now) ∷ (Uuid, o.uuid.now) ∷ (Kind, o.kind.now) ∷ (RepositoryFormat, o.repository_format.now) ∷ []) (λ e. cc) (λ e. cc) (λ e. cc, (λ e. cc, (λ e. cc, (λ e. cc, tt)))) d3 c.write_new-5.ensures.honest c.write_new-5.ensures.others c.write_new-5.ensures.stop c.write_new-5.ensures.time in
    let d4 = is_written s locks start c.write_new-5.new.self (Properties c.shard-shard.result 0) o.properties.now (((Revision c.shard-shard.result 0), o.revision.now) ∷ (Uuid, o.uuid.now) ∷ (Kind, o.kind.now) ∷ (RepositoryFormat, o.repository_format.now) ∷ []) w4 (c.in_ok-write_new-5.ensures.written h3) (c.in_ok-write_new-5.ensures.kept h3) in
    let h4 = c.write_new-5.ensures.honest.0 h3 in
    let w5 = one_more s locks start c.write_new-5.new.self c.write_new-6.new.self Current (((Properties c.shard-shard.result 0), o.properties.now) ∷ ((Revision c.shard-shard.result 0), o.revision.now) ∷ (Uuid, o.uuid.now) ∷ (Kind, o.kind.now) ∷ (RepositoryFormat, o.repository_format.now) ∷ []) (λ e. cc) (λ e. cc) (λ e. cc, (λ e. cc, (λ e. cc, (λ e. cc, (λ e. cc, tt))))) d4 c.write_new-6.ensures.honest c.write_new-6.ensures.others c.write_new-6.ensures.stop c.write_new-6.ensures.time in
    let d5 = is_written s locks start c.write_new-6.new.self Current o.current.now (((Properties c.shard-shard.result 0), o.properties.now) ∷ ((Revision c.shard-shard.result 0), o.revision.now) ∷ (Uuid, o.uuid.now) ∷ (Kind, o.kind.now) ∷ (RepositoryFormat, o.repository_format.now) ∷ []) w5 (c.in_ok-write_new-6.ensures.written h4) (c.in_ok-write_new-6.ensures.kept h4) in
    let h5 = c.write_new-6.ensures.honest.0 h4 in
    let r = c.replace.ensures in
    let old = c.write_new-6.new.self in
    let new = c.replace.new.self in
    record {
      stop = λ count. swapped s start old new Format o.format.now (IsFreeWith locks) (Begins locks (Opened c.shard-shard.result o.repository_format.now o.kind.now o.uuid.now o.revision.now o.properties.now o.current.now)) (IsFreeOrHas (TheFiles locks c.shard-shard.result o.format.now o.repository_format.now o.kind.now o.uuid.now o.revision.now o.properties.now o.current.now (c.shard-shard.ensures ∙ ap (λ l. shard_in l 0) c.layout_in.ensures) count)) d5
          (record { honest = r.honest.0 h5; others = r.others h5; either = r.either h5; stop = r.stop h5; time = r.time h5 })
          (opening_may_be locks c.shard-shard.result o.format.now o.repository_format.now o.kind.now o.uuid.now o.revision.now o.properties.now o.current.now (c.shard-shard.ensures ∙ ap (λ l. shard_in l 0) c.layout_in.ensures) count) (λ f is. inl is.free);
      kept = λ count.
          replaced s start old new Format o.format.now (IsFreeWith locks) (Begins locks (Opened c.shard-shard.result o.repository_format.now o.kind.now o.uuid.now o.revision.now o.properties.now o.current.now)) (HasFiles (TheFiles locks c.shard-shard.result o.format.now o.repository_format.now o.kind.now o.uuid.now o.revision.now o.properties.now o.current.now (c.shard-shard.ensures ∙ ap (λ l. shard_in l 0) c.layout_in.ensures) count)) d5
          (record { honest = r.honest.0 h5; others = r.others h5; either = r.either h5; stop = r.stop h5; time = r.time h5 })
          (record { read = c.in-Ok.ensures.written h5; left = c.in-Ok.ensures.kept h5 }) (opening_is locks c.shard-shard.result o.format.now o.repository_format.now o.kind.now o.uuid.now o.revision.now o.properties.now o.current.now (c.shard-shard.ensures ∙ ap (λ l. shard_in l 0) c.layout_in.ensures) count);
      again = λ fails steady. absurd (search rules);
    }
