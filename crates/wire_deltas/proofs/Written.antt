-- Replies that are written one after another, and the windows of a delta among them.
use Rattle.std.proofs.Common.{arith, ◌≡◌, ◌≤◌, ◌+◌, ◌-◌, ℕ, zero, suc, List, [], ◌∷◌, ◌++◌, map, sym, ap, subst, ◌∙◌, append-nil, append_assoc}
use Rattle.std.proofs.{lemmas.List.map-append, lemmas.List.FromFn.map-range_with_len_more}
use Rattle.std.specs.List.{range_with_len}
use Rattle.text_deltas.specs.Deltas.{nth_window}
use Rattle.wire_edits.specs.declared.editing.EditorCommand.TheVariants.{TextDeltaChunk}
use Rattle.wire_replies.specs.{Replies.print, Sinks.WritesPart, declared.reply.Reply.Reply, declared.reply.Reply.TheVariants.{Chunk, Edit}}
use Rattle.wire_replies.proofs.Parts.{both_written, part_behind, part_first}

-- replies that are made one by one
module _ (told : ℕ → List Reply) (next : ℕ → Reply) (grows : (n : ℕ) → told (n + 1) ≡ told n ++ next n ∷ []) where
  -- so many, from one on
  abbrev behind : ℕ → ℕ → List Reply
  behind n zero = []
  behind n (suc k) = next n ∷ behind (n + 1) k

  split : (n k : ℕ) → told (n + k) ≡ told n ++ behind n k
  split n zero = let e : n + 0 ≡ n = omega arith in ap told e ∙ sym (append-nil (told n))
  split n (suc k) =
      let e : n + suc k ≡ (n + 1) + k = omega arith in
      ap told e ∙ split (n + 1) k ∙ ap (λ rs. rs ++ behind (n + 1) k) (grows n) ∙ append_assoc (told n) (next n ∷ []) (behind (n + 1) k)

  module _ {S : Type 0} (writes : S → S → List ℕ → Type 0) (more : (s t u : S) (first second : List ℕ) → writes s t first → writes t u second → writes s u (first ++ second)) where
    -- one more is written
    pub next_on : (s t u : S) (n : ℕ) → writes s t (print (told n)) → writes t u (print (next n ∷ [])) → writes s u (print (told (n + 1)))
    next_on s t u n before now =
        subst (λ (rs : List Reply). writes s u (print rs)) (sym (grows n)) (both_written writes more s t u (told n) (next n ∷ []) before now)

    -- where one fails, a part of all is written
    pub next_failed : (s t u : S) (n count : ℕ) → n + 1 ≤ count → writes s t (print (told n)) → WritesPart (writes t u) (print (next n ∷ []))
        → WritesPart (writes s u) (print (told count))
    next_failed s t u n count within before part =
        let e : count ≡ n + suc (count - (n + 1)) = omega (arith, within) in
        let left : List Reply = behind (n + 1) (count - (n + 1)) in
        subst (λ (rs : List Reply). WritesPart (writes s u) (print rs)) (sym (ap told e ∙ split n (suc (count - (n + 1)))))
        (part_behind writes more s t u (told n) (next n ∷ left) before (part_first (writes t u) (next n ∷ []) left part))

-- the strings of the first windows
abbrev pub strings : List ℕ → List ℕ → ℕ → List Reply
strings before text n = map Chunk (map (nth_window before text) (range_with_len 0 n))

pub strings_grow : (before text : List ℕ) (n : ℕ) → strings before text (n + 1) ≡ strings before text n ++ Chunk (nth_window before text n) ∷ []
strings_grow before text n =
    ap (map Chunk) (map-range_with_len_more (nth_window before text) 0 n n (omega arith))
    ∙ map-append Chunk (map (nth_window before text) (range_with_len 0 n)) (nth_window before text n ∷ [])

-- the commands of the first windows
abbrev pub chunks : List ℕ → List ℕ → List ℕ → ℕ → List Reply
chunks token before text n = map Edit (map (TextDeltaChunk token) (map (nth_window before text) (range_with_len 0 n)))

pub chunks_grow : (token before text : List ℕ) (n : ℕ) → chunks token before text (n + 1) ≡ chunks token before text n ++ Edit (TextDeltaChunk token (nth_window before text n)) ∷ []
chunks_grow token before text n =
    ap (λ ws. map Edit (map (TextDeltaChunk token) ws)) (map-range_with_len_more (nth_window before text) 0 n n (omega arith))
    ∙ ap (map Edit) (map-append (TextDeltaChunk token) (map (nth_window before text) (range_with_len 0 n)) (nth_window before text n ∷ []))
    ∙ map-append Edit (map (TextDeltaChunk token) (map (nth_window before text) (range_with_len 0 n))) (TextDeltaChunk token (nth_window before text n) ∷ [])
