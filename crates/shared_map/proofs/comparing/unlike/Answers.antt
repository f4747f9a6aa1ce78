use Rattle.std.proofs.Common.{map, take, refl}
use Rattle.std.specs.Map.Iter.{deref}
use Rattle.shared_map.proofs.Unlike.{stands, turn, from_more, known_more}
use Rattle.shared_map.proofs.comparing.unlike.Goals as goal

pub loop-entry-preserved : goal.loop-entry-preserved
loop-entry-preserved g c =
    let es = c.args.entries.now in
    let i = c.loop-entry.entry-index in
    let e = c.entry-item.result in
    let old = map deref c.loop-entry.list.items in
    let new = map deref c.list_unlike.new.list.items in record {
      from = from_more (map deref c.args.others.now) (map deref es) old new e.now
          (stands es i e e.now c.loop-entry-test.true c.entry-item.is refl) c.loop-entry.invariant.from c.in_ok-list_unlike.ensures;
      others = known_more (map deref c.args.others.now) (map deref (take i es)) _ old new e.now (turn es i e c.loop-entry-test.true c.entry-item.is)
          c.loop-entry.invariant.others c.in_ok-list_unlike.ensures;
    }
