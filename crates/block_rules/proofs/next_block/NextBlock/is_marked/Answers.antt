use Rattle.std.proofs.{Common.{◌+◌, length, ap, sym, ◌∙◌}, lemmas.Bool.false≢true}
use Rattle.svnpath.specs.Paths.{PathValue}
use Rattle.block_rules.specs.Ways.{id_at}
use Rattle.block_rules.proofs.Steps.{new_to}
use Rattle.block_rules.proofs.next_block.NextBlock.is_marked.Goals as goal

pub returns-then-is_new-clause-marked : goal.returns-then-is_new-clause-marked
returns-then-is_new-clause-marked c =
    let tree = c.args.self in
    let along = new_to tree c.args.path.now c.find.new.self c.find.ensures.way (c.in_ok-id.ensures.path ∙ c.components.ensures)
    (c.in_ok-id.ensures.whole ∙ ap (λ (p : PathValue). length p + 1) c.components.ensures) in
    let found = c.in_ok-id.ensures.found ∙ ap (id_at tree) c.components.ensures in (
      λ yes. record {
        last = sym along ∙ sym c.is_new.ensures ∙ c.if-is_new.true;
        own = λ i node at is. c.has_own_mark.ensures.0 yes i node (found ∙ at) is;
      },
      λ marked. c.has_own_mark.ensures.1 (λ i node at is. marked.own i node (sym found ∙ at) is),
    )

pub returns-else-is_new-clause-marked : goal.returns-else-is_new-clause-marked
returns-else-is_new-clause-marked c =
    let along = new_to c.args.self c.args.path.now c.find.new.self c.find.ensures.way (c.in_ok-id.ensures.path ∙ c.components.ensures)
    (c.in_ok-id.ensures.whole ∙ ap (λ (p : PathValue). length p + 1) c.components.ensures) in (
      λ yes. absurd (false≢true (sym c.if-is_new.false ∙ yes)),
      λ marked. c.is_new.ensures ∙ along ∙ marked.last,
    )
