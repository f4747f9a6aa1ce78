use Rattle.std.proofs.Common.{sym, ◌∙◌}
use Rattle.repository_creation.specs.Creating.{opening_files}
use Rattle.repository_creation.proofs.Beginning.{looked, behind}
use Rattle.repository_creation.proofs.creating.create.Goals as goal

pub returns-clause-creates : goal.returns-clause-creates
returns-clause-creates g c = λ locks honest free.
    let s = g.S.Store in
    let r = c.read.ensures in
    let mid = c.read.new.self in
    let seen = looked s locks c.args.store.now mid (λ f. g.met.S.Store.only_now c.args.store.now f) free (c.write_opening.ensures.honest.1 honest) r.same r.stop r.time in
    let then = c.write_opening.ensures.creates locks seen.0 in
    record {
      stop = λ count. behind s locks c.args.store.now mid c.write_opening.new.store (opening_files c.args.opening locks) seen.1 (then.stop count);
      kept = then.kept;
      again = λ fails steady. then.again fails (steady ∙ sym r.doubt);
    }
