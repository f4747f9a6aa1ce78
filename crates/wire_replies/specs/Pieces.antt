-- The pieces in which a text is sent.
use Rattle.std.specs.{Prelude.{ℕ, ◌*◌, List, drop, length, map, take}, Int.div_ceil, List.range_with_len}
use Rattle.wire_replies.specs.declared.contents.TheConstants.{PIECE}

-- the bytes of a piece that begins at a place of a text: 65,536, or as many as are left
abbrev pub piece_from : List ℕ → ℕ → List ℕ
piece_from text start = take PIECE (drop start text)

-- the pieces of a text, one after another
abbrev pub pieces : List ℕ → List (List ℕ)
pieces text =
    map (λ n. piece_from text (n * PIECE)) (range_with_len 0 (div_ceil (length text) PIECE))
