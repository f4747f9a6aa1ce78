-- A piece more behind others.
use Rattle.std.proofs.{Common.{◌≡◌, ℕ, List, [], ◌∷◌, ◌++◌, refl, sym, ap, subst, ◌∙◌, append-nil}, lemmas.Grind.flat_map-append}
use Rattle.machine.specs.{declared.env.Env.Env, Hearing.Input}
use Rattle.conversations.specs.Pieces.{Piece, bytes_of, ComesInPieces, GivesAll}

-- what a feed brings is a piece
abbrev pub fed_piece : (env : Env) (bytes : List ℕ) → List Input → Piece
fed_piece env bytes inputs = record { env = env; bytes = bytes; inputs = inputs }

-- one cut after another
pub both_cuts : (pieces others : List Piece) (stream mid rest : List ℕ) → ComesInPieces stream pieces mid → ComesInPieces mid others rest → ComesInPieces stream (pieces ++ others) rest
both_cuts [] others stream mid rest is next = subst (λ (xs : List ℕ). ComesInPieces xs others rest) is next
both_cuts (piece ∷ pieces) others stream mid rest (some, bound, after, yields, cut) next =
    (some, bound, after, yields, both_cuts pieces others after mid rest cut next)

-- a piece more was handed in
pub gives_more : {E : Type 0} (gives : E → Env → E → Type 0) (pieces : List Piece) (piece : Piece) (a b c : E)
    → GivesAll gives a pieces b → gives b piece.env c → GivesAll gives a (pieces ++ piece ∷ []) c
gives_more {E} gives [] piece a b c same next = (c, subst (λ (x : E). gives x piece.env c) same next, refl)
gives_more gives (first ∷ pieces) piece a b c (between, given, rest) next = (between, given, gives_more gives pieces piece between b c rest next)

pub bytes_of-more : (pieces : List Piece) (piece : Piece) → bytes_of pieces ++ piece.bytes ≡ bytes_of (pieces ++ piece ∷ [])
bytes_of-more pieces piece = ap (λ (bs : List ℕ). bytes_of pieces ++ bs) (sym (append-nil piece.bytes)) ∙ sym (flat_map-append _ pieces (piece ∷ []))
