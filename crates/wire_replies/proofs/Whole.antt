-- The pieces of a text make it up.
use Rattle.std.proofs.Common.{arith, ◌≡◌, ℕ, zero, suc, ◌+◌, ◌-◌, ◌*◌, ◌<◌, ◌≤◌, min, List, [], ◌∷◌, ◌++◌, ◌∙◌, length, get_or, map, drop, take, refl, sym, ap}
use Rattle.std.proofs.{Common.{subst, append-nil}, Math.Seq.take-add, lemmas.Grind.div_ceil_times, lemmas.List.{length-drop, length-take, take_all}}
use Rattle.std.proofs.{lemmas.List.Folds.concat-append, lemmas.List.FromFn.{get_or-map-range_with_len, length-map-range_with_len, map-range_with_len_more}}
use Rattle.std.specs.List.{All, concat, range_with_len}
use Rattle.wire_replies.specs.{Pieces.pieces, declared.contents.TheConstants.PIECE}
use Rattle.wire_replies.proofs.Telling.{numbered, piece_count}

-- the first pieces are the front of the text
front_whole : (text : List ℕ) (n : ℕ) → concat (map (numbered text) (range_with_len 0 n)) ≡ take (n * PIECE) text
front_whole text zero = refl
front_whole text (suc n) =
    let one : suc n ≡ n + 1 = omega arith in
    let ends : n * PIECE + PIECE ≡ suc n * PIECE = omega arith in
    ap (λ m. concat (map (numbered text) (range_with_len 0 m))) one
    ∙ ap concat (map-range_with_len_more (numbered text) 0 n n (omega arith))
    ∙ concat-append (map (numbered text) (range_with_len 0 n)) (numbered text n ∷ [])
    ∙ ap (λ front. front ++ (numbered text n ++ [])) (front_whole text n)
    ∙ ap (λ piece. take (n * PIECE) text ++ piece) (append-nil (numbered text n))
    ∙ sym (take-add (n * PIECE) PIECE text)
    ∙ ap (λ m. take m text) ends

pub pieces_whole : (text : List ℕ) → concat (pieces text) ≡ text
pieces_whole text =
    front_whole text (piece_count text)
    ∙ take_all (piece_count text * PIECE) text (div_ceil_times (length text) PIECE (omega arith)).0

-- a piece that there is begins within the text
begins_within : (len count k : ℕ) → count * PIECE < len + PIECE → k < count → k * PIECE < len
begins_within len count k bound within = omega arith

long_enough : (len start size : ℕ) → start < len → size ≡ min PIECE (len - start) → (0 < size) × (size ≤ PIECE)
long_enough len start size within is = (omega arith, omega arith)

pub pieces_sized : (text : List ℕ) → All (λ piece. (0 < length piece) × (length piece ≤ PIECE)) (pieces text)
pieces_sized text k d within =
    let count = piece_count text in
    let k_within : k < count = subst (λ n. k < n) (length-map-range_with_len (numbered text) 0 count) within in
    let one : get_or (pieces text) k d ≡ numbered text k = get_or-map-range_with_len (numbered text) 0 count k k d k_within (omega arith) in
    let starts = begins_within (length text) count k (div_ceil_times (length text) PIECE (omega arith)).1 k_within in
    let size : length (numbered text k) ≡ min PIECE (length text - k * PIECE) =
    length-take PIECE (drop (k * PIECE) text) ∙ ap (min PIECE) (length-drop (k * PIECE) text) in
    subst (λ piece. (0 < length piece) × (length piece ≤ PIECE)) (sym one) (long_enough (length text) (k * PIECE) (length (numbered text k)) starts size)
