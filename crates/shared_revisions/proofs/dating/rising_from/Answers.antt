use Rattle.std.proofs.Common.{◌+◌, arith, refl, sym, ◌∙◌}
use Rattle.shared_revisions.proofs.{Rising.{rises_around, rises_behind, rises_past}, dating.rising_from.Goals.{then-next-count, else-next-count}}
use Rattle.shared_revisions.proofs.dating.rising_from.Goals as goal

pub returns-then-rises_to-2 : goal.returns-then-rises_to-2
returns-then-rises_to-2 c =
    rises_around c.args.lists.now c.args.place (c.args.place + 1) c.args.from refl c.requires.others
    (c.rises_to.ensures c.if-rises_to.true)
    (elim c.if-next-count.branch [
      | then-next-count w ↦
          rises_past c.args.lists.now (c.args.place + 1)
          (omega (arith, w.if-next-count.true, c.len-count.ensures.length))
      | else-next-count w ↦
          w.rises_to-else-next-count.ensures (sym w.value-is ∙ c.if-rises_to-2.true)
    ])

pub returns-else-rises_to : goal.returns-else-rises_to
returns-else-rises_to c =
    rises_behind c.args.lists.now c.args.place (c.args.place + 1) c.args.from c.max.result refl
    c.max.ensures c.requires.others
