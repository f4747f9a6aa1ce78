-- Node revisions are at rising offsets.
use Rattle.std.proofs.{Common.{◌≡◌, ◌+◌, ◌<◌, ◌≤◌, ℕ, zero, suc, List, [], ◌∷◌, ◌++◌, length, Some, arith}, lemmas.List.length-append}
use Rattle.std.specs.Prelude.{slice_get}
use Rattle.fsfs_nodes.specs.{declared.node.FileNode.FileNode, Nodes.{identity_lines, content_lines, origin_lines, node_bytes}}
use Rattle.fsfs.specs.Files.{ArePlaced, IsPlaced, Piece, brought, piece_bytes}

node_long : (node : FileNode) → 0 < length (node_bytes node)
node_long node =
    omega (arith, length-append (identity_lines node) (content_lines node ++ origin_lines node ++ 10 ∷ []), length-append (content_lines node) (origin_lines node ++ 10 ∷ []), length-append (origin_lines node) (10 ∷ []))

-- the place of one is before its end
within : (n offset : ℕ) (piece : Piece) → IsPlaced n offset piece → piece.node.id.offset < offset + length (piece_bytes piece)
within n offset piece placed =
    let t = length-append (brought piece.text) (brought piece.properties ++ node_bytes piece.node) in
    let p = length-append (brought piece.properties) (node_bytes piece.node) in
    omega (arith, t, p, node_long piece.node, placed.place)

pub same_first : (piece other : Piece) → Some piece ≡ Some other → piece ≡ other
same_first piece other e = cc e

-- and none before the first
not_before : (n offset : ℕ) (pieces : List Piece) (k : ℕ) (piece : Piece) → ArePlaced n offset pieces → slice_get pieces k ≡ Some piece
    → offset ≤ piece.node.id.offset
not_before n offset [] k piece placed is = absurd (cc is)
not_before n offset (first ∷ pieces) zero piece placed is =
    let same : first.node.id.offset ≡ piece.node.id.offset = λ i. (same_first first piece is i).node.id.offset in
    omega (arith, placed.0.place, same)
not_before n offset (first ∷ pieces) (suc k) piece placed is =
    omega (arith, not_before n (offset + length (piece_bytes first)) pieces k piece placed.1 is)

pub rising : (n offset : ℕ) (pieces : List Piece) (j k : ℕ) (piece later : Piece) → ArePlaced n offset pieces → slice_get pieces j ≡ Some piece
    → slice_get pieces k ≡ Some later
    → j < k → piece.node.id.offset < later.node.id.offset
rising n offset [] j k piece later placed is at lt = absurd (cc is)
rising n offset (first ∷ pieces) j zero piece later placed is at lt = absurd (omega (arith, lt))
rising n offset (first ∷ pieces) zero (suc k) piece later placed is at lt =
    let same : first.node.id.offset ≡ piece.node.id.offset = λ i. (same_first first piece is i).node.id.offset in
    omega (arith, within n offset first placed.0, same, not_before n (offset + length (piece_bytes first)) pieces k later placed.1 at)
rising n offset (first ∷ pieces) (suc j) (suc k) piece later placed is at lt =
    rising n (offset + length (piece_bytes first)) pieces j k piece later placed.1 is at (omega (arith, lt))

-- each is of this revision
pub all_own : (n offset : ℕ) (pieces : List Piece) (k : ℕ) (piece : Piece) → ArePlaced n offset pieces → slice_get pieces k ≡ Some piece
    → piece.node.id.revision ≡ n
all_own n offset [] k piece placed is = absurd (cc is)
all_own n offset (first ∷ pieces) zero piece placed is =
    let same : first.node.id.revision ≡ piece.node.id.revision = λ i. (same_first first piece is i).node.id.revision in
    omega (arith, same, placed.0.own)
all_own n offset (first ∷ pieces) (suc k) piece placed is = all_own n (offset + length (piece_bytes first)) pieces k piece placed.1 is
