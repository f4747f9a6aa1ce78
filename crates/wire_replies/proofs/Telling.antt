-- A text in pieces, as far as it is sent.
use Rattle.std.proofs.Common.{arith, ◌≡◌, ℕ, ◌+◌, ◌*◌, ◌≤◌, List, [], ◌∷◌, ◌++◌, ◌∙◌, length, map, drop, take, sym, ap, subst, append_assoc}
use Rattle.std.proofs.{lemmas.List.{map-append, take-append-drop}, lemmas.List.FromFn.{take-map-range_with_len, map-range_with_len_more}}
use Rattle.std.specs.{Prelude.Result, Int.div_ceil, List.range_with_len}
use Rattle.wire_replies.specs.{Pieces.{piece_from, pieces}, Replies.{contents, print}, Sinks.{WritesPart, Says}, declared.contents.TheConstants.PIECE}
use Rattle.wire_replies.specs.{declared.reply.Reply.Reply, declared.reply.Reply.TheVariants.Piece}
use Rattle.wire_replies.proofs.Parts.{both_written, part_behind, part_first, said_behind}

-- a piece by its number
abbrev pub numbered : List ℕ → ℕ → List ℕ
numbered text n = piece_from text (n * PIECE)

-- the replies of the first pieces
abbrev pub told : List ℕ → ℕ → List Reply
told text n = map Piece (map (numbered text) (range_with_len 0 n))

-- how many pieces a text has
abbrev pub piece_count : List ℕ → ℕ
piece_count text = div_ceil (length text) PIECE

-- the reply of one piece
abbrev pub told_at : List ℕ → ℕ → List Reply
told_at text n = Piece (numbered text n) ∷ []

-- what is told behind so many pieces
abbrev pub told_behind : List ℕ → ℕ → List Reply
told_behind text n = map Piece (drop n (pieces text)) ++ Piece [] ∷ []

pub told_more : (text : List ℕ) (n : ℕ) → told text (n + 1) ≡ told text n ++ told_at text n
told_more text n =
    ap (map Piece) (map-range_with_len_more (numbered text) 0 n n (omega arith))
    ∙ map-append Piece (map (numbered text) (range_with_len 0 n)) (numbered text n ∷ [])

pub contents_split : (text : List ℕ) (n : ℕ) → n ≤ piece_count text → contents text ≡ told text n ++ told_behind text n
contents_split text n within =
    let front : take n (pieces text) ≡ map (numbered text) (range_with_len 0 n) = take-map-range_with_len (numbered text) 0 (piece_count text) n within in
    ap (λ ps. map Piece ps ++ Piece [] ∷ []) (sym (take-append-drop n (pieces text)))
    ∙ ap (λ rs. rs ++ Piece [] ∷ []) (map-append Piece (take n (pieces text)) (drop n (pieces text)))
    ∙ append_assoc (map Piece (take n (pieces text))) (map Piece (drop n (pieces text))) (Piece [] ∷ [])
    ∙ ap (λ ps. map Piece ps ++ told_behind text n) front

module _ {S : Type 0} (writes : S → S → List ℕ → Type 0) (more : (s t u : S) (first second : List ℕ) → writes s t first → writes t u second → writes s u (first ++ second)) where
  -- one piece more is written
  pub piece_written : (s t u : S) (text : List ℕ) (n : ℕ) → writes s t (print (told text n)) → writes t u (print (told_at text n)) → writes s u (print (told text (n + 1)))
  piece_written s t u text n before now =
      subst (λ (rs : List Reply). writes s u (print rs)) (sym (told_more text n)) (both_written writes more s t u (told text n) (told_at text n) before now)

  -- a part of one piece more is written
  pub piece_failed : (s t u : S) (text : List ℕ) (n : ℕ) → n + 1 ≤ piece_count text → writes s t (print (told text n)) → WritesPart (writes t u) (print (told_at text n)) → WritesPart (writes s u) (print (contents text))
  piece_failed s t u text n within before part =
      let whole : contents text ≡ told text n ++ (told_at text n ++ told_behind text (n + 1)) =
      contents_split text (n + 1) within ∙ ap (λ rs. rs ++ told_behind text (n + 1)) (told_more text n) ∙ append_assoc (told text n) (told_at text n) (told_behind text (n + 1)) in
      subst (λ (rs : List Reply). WritesPart (writes s u) (print rs)) (sym whole)
      (part_behind writes more s t u (told text n) (told_at text n ++ told_behind text (n + 1)) before
      (part_first (writes t u) (told_at text n) (told_behind text (n + 1)) part))

  -- the end, as far as it is written
  pub end_said : {T E : Type 0} (r : Result T E) (s t u : S) (text : List ℕ) (n : ℕ) → n ≡ piece_count text → writes s t (print (told text n))
      → Says r (writes t u) (Piece [] ∷ []) → Says r (writes s u) (contents text)
  end_said r s t u text n all before said =
      subst (λ (m : ℕ). Says r (writes s u) (told text m ++ Piece [] ∷ [])) all (said_behind writes more r s t u (told text n) (Piece [] ∷ []) before said)
