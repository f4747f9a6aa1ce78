use Rattle.std.proofs.Common.{◌∷◌, ◌++◌, [], map, reverse, sym, ap, take, ◌∙◌, arith}
use Rattle.std.proofs.lemmas.List.{get_or-reverse, length-reverse, map-append, take_all, take_more}
use Rattle.filed_trees.proofs.Rows.{piece_of}
use Rattle.filed_trees.proofs.blocks.by_offset.Goals as goal

pub loop-k-preserved : goal.loop-k-preserved
loop-k-preserved c =
    let pieces = c.args.pieces.now in
    let k = c.loop-k.k in
    let within = c.loop-k-test.true in
    let piece = c.index-pieces-pieces.result in
    ap (map piece_of) c.in_ok-push.ensures.items
    ∙ map-append piece_of c.loop-k.rows.items _
    ∙ ap (λ l. l ++ piece ∷ []) c.loop-k.invariant
    ∙ ap (λ p. take k (reverse pieces) ++ p ∷ []) (c.index-pieces-pieces.is ∙ sym (get_or-reverse pieces k piece within))
    ∙ sym (take_more (reverse pieces) k piece (omega (arith, within, length-reverse pieces)))

pub returns : goal.returns
returns c =
    let pieces = c.args.pieces.now in
    c.loop-k.invariant ∙ take_all c.loop-k.k (reverse pieces) (omega (arith, c.loop-k-test.false, length-reverse pieces))
