-- The pieces so far, and then all of them.
use Rattle.std.proofs.{Common.{◌≡◌, ◌+◌, ◌++◌, take, drop, take_all, sym, ap, ◌∙◌, arith}, lemmas.Result.err_from_is_err_and}
use Rattle.std.specs.List.{flat_map}
use Rattle.items.specs.{Stream.Splits, View.values_of}
use Rattle.items.proofs.{Rows.{decoded_none, decoded_more}, Failed.{fault_of_stream, flat-more, flat-split}, Unique.one_split}
use Rattle.items.proofs.stream.decode.Goals as goal

pub loop-piece-init : goal.loop-piece-init
loop-piece-init c = decoded_none c.new-items.result.items c.new-reader.result c.new-items.ensures.items c.new-reader.ensures

pub returns-clause-only : goal.returns-clause-only
returns-clause-only c others rest s =
    let pieces = c.args.pieces.now in
    let d = c.loop-piece.invariant in
    let all : take c.loop-piece.piece-index pieces ≡ pieces = take_all c.loop-piece.piece-index pieces (omega arith) in
    let stream = flat_map (λ piece. piece.items) pieces in
    let mine : Splits stream (values_of c.loop-piece.items.items) c.loop-piece.reader.rest =
    record { front = d.front; whole = ap (λ x. flat_map (λ piece. piece.items) x) (sym all) ∙ d.whole; row = d.row; partial = d.no_item } in
    one_split stream (values_of c.loop-piece.items.items) others c.loop-piece.reader.rest rest mine s

pub loop-piece-preserved : goal.loop-piece-preserved
loop-piece-preserved c =
    let pieces = c.args.pieces.now in
    let i = c.loop-piece.piece-index in
    let l = c.loop-piece in
    let fed = c.in_ok-feed.ensures.ok ∙ ap (λ x. record l.reader { rest = l.reader.rest ++ x }) c.as_slice.ensures.value in
    decoded_more (flat_map (λ piece. piece.items) (take i pieces)) c.piece-item.result.items (flat_map (λ piece. piece.items) (take (i + 1) pieces)) l.items.items c.take_all.new.items.items l.reader c.feed.new.self c.take_all.new.reader
    l.invariant fed c.in_ok-take_all.ensures.ok (flat-more (λ piece. piece.items) pieces i c.piece-item.result c.loop-piece-test.true c.piece-item.is)

pub returns-in_err-take_all-clause-fault : goal.returns-in_err-take_all-clause-fault
returns-in_err-take_all-clause-fault c =
    let pieces = c.args.pieces.now in
    let i = c.loop-piece.piece-index in
    let l = c.loop-piece in
    let p = err_from_is_err_and c.from_residual-in_err-take_all.result c.from_residual-in_err-take_all.ensures.1 in
    let fed = c.in_ok-feed.ensures.ok ∙ ap (λ x. record l.reader { rest = l.reader.rest ++ x }) c.as_slice.ensures.value in
    let later = flat_map (λ piece. piece.items) (drop (i + 1) pieces) in
    rw (p.1, p.2)
    (fault_of_stream (flat_map (λ piece. piece.items) (take i pieces)) c.piece-item.result.items later (flat_map (λ piece. piece.items) pieces) l.items.items l.reader c.feed.new.self _
    l.invariant fed c.in_err-take_all.ensures.fault (flat-split (λ piece. piece.items) pieces i c.piece-item.result c.loop-piece-test.true c.piece-item.is))
