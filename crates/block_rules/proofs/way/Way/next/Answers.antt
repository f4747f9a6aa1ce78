use Rattle.std.proofs.{Common.{◌≡◌, suc, List, length, take, Option, sym, ap, refl, arith, ◌∙◌}, lemmas.Option.slice_get_read}
use Rattle.svnpath.specs.Paths.{PathValue}
use Rattle.noderevs.specs.{Nodes.kid_at, declared.node_rev.NodeId.NodeId}
use Rattle.block_rules.specs.{Rules.{beside, past_of}, Ways.id_at}
use Rattle.block_rules.proofs.Steps.{found_next}
use Rattle.block_rules.proofs.way.Way.next.Goals as goal

pub returns-in-Some : goal.returns-in-Some
returns-in-Some c =
    let tree = c.args.tree in
    let path : PathValue = c.args.self.now.path.now in
    let ids : List (Option NodeId) = c.args.self.now.ids.items in
    let look = beside (past_of tree.nodes.now) tree.block.now in
    let above = c.in-Some.above in
    let name = c.index-self-above.result in
    let id = c.index.result.now in
    let one = c.in-Some.ensures in
    let depth : c.len.result ≡ length ids = omega (arith, c.len.ensures, c.args.self.now.ids.ok.0) in
    let more : length ids ≡ suc above = omega (arith, one.0, one.1, depth) in
    let known : id ≡ id_at tree (take above path) =
    c.requires.way above id (slice_get_read ids (length ids) above id refl (omega (arith, more)) c.index.ensures) in
    c.kid.ensures ∙ ap (λ n. kid_at look id n) (sym c.index-self-above.is)
    ∙ ap (λ i. kid_at look i name) known
    ∙ sym (found_next tree path above (length ids) name more (omega (arith, more, c.requires.more)) c.index-self-above.is)

pub returns-in-None : goal.returns-in-None
returns-in-None c =
    let tree = c.args.tree in
    let path : PathValue = c.args.self.now.path.now in
    let ids : List (Option NodeId) = c.args.self.now.ids.items in
    let depth : c.len.result ≡ length ids = omega (arith, c.len.ensures, c.args.self.now.ids.ok.0) in
    let none : length ids ≡ 0 = omega (arith, c.in-None.ensures, depth) in
    sym (ap (λ d. id_at tree (take d path)) none)
