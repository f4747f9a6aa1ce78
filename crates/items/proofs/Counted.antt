-- How many items begin in the bytes that the scanner takes: as many as there are in the item that they spell.
use Rattle.std.proofs.Common.{◌≡◌, ℕ, zero, suc, ◌+◌, ◌-◌, ◌*◌, ◌≤◌, ◌<◌, List, [], ◌∷◌, ◌++◌, length, Bool, true, false, cond, ◌==◌, nat_le, nat_lt, IsTrue}
use Rattle.std.proofs.Common.{refl, sym, ap, ◌∙◌, subst, take, drop, slice_index, append-nil, append_assoc, take-add, take-append-drop, take_all}
use Rattle.std.proofs.{Common.{length-take-le, length-drop, arith}, Math.Dec.eqb-suc-zero, lemmas.Bool.Decides.nat_tests, lemmas.List.take_more}
use Rattle.std.specs.Char.{is_ascii_digit, is_ascii_alphabetic}
use Rattle.items.specs.declared.scan.Lex.TheVariants as lexes
use Rattle.items.specs.declared.scan.Defect.TheVariants as defects
use Rattle.items.specs.declared.scan.Step.TheVariants as steps
use Rattle.items.specs.declared.scan.End.TheVariants as ends
use Rattle.items.specs.{declared.scan.Lex.Lex, declared.scan.Scan.Scan, declared.scan.Step.Step, declared.scan.End.End}
use Rattle.items.specs.Word.{EachPasses, IsSpace, IsDigit, IsWord, is_space, is_word_byte}
use Rattle.items.specs.Values.{ItemValue, word, number, string, list, ItemValues, none, more, Limits, limits, IsWithin, AreWithin}
use Rattle.items.specs.{Spelling.{value_behind, IsNumeral, Spaced, IsBody, AreSpelled}, Scan.{at, on, step, step_in, gap_step, number_step, behind_body}}
use Rattle.items.specs.{Run.{unfinished, whole, outcome_of, run, start, IsScanned, EndsSo, Skips}, Stream.IsItem, Unread.Unread}
use Rattle.items.specs.{Counting.{item_count, row_count, IsFewest, CountsItems}, Tally.{enters, begun, tally_of, tally, IsCounted, lacking_in, lacking}}
use Rattle.items.proofs.Classes.{space-no_word, space-no_digit, space-no_colon, digit-no_space, digit-no_opening, digit-no_closing, letter-no_space}
use Rattle.items.proofs.Classes.{letter-no_opening, letter-no_closing, letter-no_digit, le-test, value-grows}
use Rattle.items.proofs.{Complete.{run-item, run-word, run-letters, run-number, run-string, run-closing}, Ahead.First, Sound.ends_item}
use Rattle.items.proofs.{Completed.{closers, onward-closers, run-opening_space, some_string, run-append}, Defects.nine_fits, Faults.begins-take}
use Rattle.items.proofs.Scanned.{item_there, wrong_there}

-- ---- the bytes of an item, token by token

abbrev onward : Limits → ℕ → List ℕ → ℕ
onward l d rest = cond (d == 0) 0 (tally l rest (at d lexes.Gap))

after : (l : Limits) (d b : ℕ) (rest : List ℕ) (from : Lex) → enters from lexes.Gap ≡ false → IsSpace b → tally_of (tally l rest) from (behind_body d b) ≡ onward l d rest
unfolding behind_body
after l d b rest from quiet h =
    let e : is_space b ≡ true = h in
    let next : ℕ = tally l rest (at d lexes.Gap) in
    rw e
    (elim (d == 0) as (λ v. tally_of (tally l rest) from (cond v steps.Whole (on d lexes.Gap)) ≡ cond v 0 next) [ true ↦ refl | false ↦ ap (λ v. cond v (suc next) next) quiet ])

onward-suc : (l : Limits) (d : ℕ) (rest : List ℕ) → onward l (suc d) rest ≡ tally l rest (at (suc d) lexes.Gap)
onward-suc l d rest = rw eqb-suc-zero

tally-spaces : (l : Limits) (d : ℕ) (gap rest : List ℕ) → EachPasses IsSpace gap → tally l (gap ++ rest) (at d lexes.Gap) ≡ tally l rest (at d lexes.Gap)
unfolding tally step_in gap_step
tally-spaces l d [] rest h = refl
tally-spaces l d (b ∷ bs) rest h = let e : is_space b ≡ true = h.0 in rw e (tally-spaces l d bs rest h.1)

tally-letters : (l : Limits) (d : ℕ) (w : List ℕ) (last : ℕ) (rest : List ℕ) → EachPasses (λ c. IsTrue (is_word_byte c)) w → IsSpace last → tally l (w ++ (last ∷ rest)) (at d lexes.Word) ≡ onward l d rest
unfolding tally step_in
tally-letters l d [] last rest h s = rw (space-no_word last s) (after l d last rest lexes.Word refl s)
tally-letters l d (b ∷ bs) last rest h s = let e : is_word_byte b ≡ true = h.0 in rw e (tally-letters l d bs last rest h.1 s)

tally-word : (l : Limits) (d : ℕ) (w : List ℕ) (last : ℕ) (rest : List ℕ) → IsWord w → IsSpace last → tally l (w ++ (last ∷ rest)) (at d lexes.Gap) ≡ suc (onward l d rest)
unfolding tally step_in gap_step
tally-word l d [] last rest h s = absurd h
tally-word l d (b ∷ bs) last rest h s =
    let e : is_ascii_alphabetic b ≡ true = h.0 in
    rw (letter-no_space b e, letter-no_opening b e, letter-no_closing b e, letter-no_digit b e, e) (ap suc (tally-letters l d bs last rest h.1 s))

tally-digits : (l : Limits) (d n : ℕ) (ds rest : List ℕ) → EachPasses IsDigit ds → value_behind n ds ≤ l.number → tally l (ds ++ rest) (at d (lexes.Number n)) ≡ tally l rest (at d (lexes.Number (value_behind n ds)))
unfolding tally step_in number_step
tally-digits l d n [] rest h le = refl
tally-digits l d n (b ∷ bs) rest h le =
    let e : is_ascii_digit b ≡ true = h.0 in
    let fits : nat_le (10 * n + (b - 48)) l.number ≡ true = le-test _ _ (omega (arith, value-grows (10 * n + (b - 48)) bs)) in
    rw (e, fits) (tally-digits l d (10 * n + (b - 48)) bs rest h.1 le)

tally-numeral : (l : Limits) (d n : ℕ) (ds rest : List ℕ) → IsNumeral ds n → n ≤ l.number → tally l (ds ++ rest) (at d lexes.Gap) ≡ suc (tally l rest (at d (lexes.Number n)))
unfolding tally step_in gap_step
tally-numeral l d n [] rest h le = absurd h
tally-numeral l d n (b ∷ bs) rest h le =
    let e : is_ascii_digit b ≡ true = h.0 in
    let fits : value_behind (b - 48) bs ≤ l.number = omega (arith, h.2) in
    rw (digit-no_space b e, digit-no_opening b e, digit-no_closing b e, e)
    (ap suc (tally-digits l d (b - 48) bs rest h.1 fits ∙ ap (λ k. tally l rest (at d (lexes.Number k))) h.2))

tally-number : (l : Limits) (d n last : ℕ) (rest : List ℕ) → IsSpace last → tally l (last ∷ rest) (at d (lexes.Number n)) ≡ onward l d rest
unfolding tally step_in number_step
tally-number l d n last rest s = rw (space-no_digit last s, space-no_colon last s) (after l d last rest (lexes.Number n) refl s)

tally-colon : (l : Limits) (d n : ℕ) (rest : List ℕ) → n ≤ l.string → tally l (58 ∷ rest) (at d (lexes.Number n)) ≡ tally l rest (at d (lexes.Tail n))
unfolding tally step_in number_step
tally-colon l d n rest le = rw (le-test n l.string le)

tally-string : (l : Limits) (d : ℕ) (s : List ℕ) (last : ℕ) (rest : List ℕ) → IsSpace last → tally l (s ++ (last ∷ rest)) (at d (lexes.Tail (length s))) ≡ onward l d rest
unfolding tally step_in
tally-string l d [] last rest h = after l d last rest (lexes.Tail 0) refl h
tally-string l d (b ∷ bs) last rest h =
    let less : suc (length bs) - 1 ≡ length bs = omega arith in
    rw (eqb-suc-zero, less) (tally-string l d bs last rest h)

tally-opening : (l : Limits) (d opening : ℕ) (rest : List ℕ) → d < l.depth → IsSpace opening → tally l (40 ∷ opening ∷ rest) (at d lexes.Gap) ≡ suc (tally l rest (at (suc d) lexes.Gap))
unfolding tally step_in gap_step
tally-opening l d opening rest h s =
    let e : is_space opening ≡ true = s in
    let room : nat_lt d l.depth ≡ true = grind (arith, nat_tests) in
    let one : d + 1 ≡ suc d = omega arith in
    rw (room, e, one)

tally-closing : (l : Limits) (d last : ℕ) (rest : List ℕ) → IsSpace last → tally l (41 ∷ last ∷ rest) (at (suc d) lexes.Gap) ≡ onward l d rest
unfolding tally step_in gap_step
tally-closing l d last rest s =
    let less : suc d - 1 ≡ d = omega arith in
    rw (eqb-suc-zero, less) (after l d last rest (lexes.Tail 0) refl s)

-- what is counted of a body, is counted of an item
tally-spaced : (Body : List ℕ → Type 0) (n : ℕ) (l : Limits) (d : ℕ) (bytes rest : List ℕ)
    → ((body : List ℕ) (last : ℕ) → Body body → IsSpace last → tally l (body ++ (last ∷ rest)) (at d lexes.Gap) ≡ n + onward l d rest)
    → Spaced Body bytes → tally l (bytes ++ rest) (at d lexes.Gap) ≡ n + onward l d rest
tally-spaced Body n l d bytes rest go p =
    ap (λ x. tally l (x ++ rest) (at d lexes.Gap)) p.whole
    ∙ ap (λ x. tally l x (at d lexes.Gap)) (simp append_assoc)
    ∙ tally-spaces l d p.gap (p.body ++ (p.last ∷ rest)) p.spaces
    ∙ go p.body p.last p.middle p.ends

one_more : (n : ℕ) → suc n ≡ 1 + n
one_more n = omega arith

mutual
  tally-body : (l : Limits) (d : ℕ) (t : ItemValue) (body : List ℕ) (last : ℕ) (rest : List ℕ) → IsBody t body → IsWithin l d t → IsSpace last → tally l (body ++ (last ∷ rest)) (at d lexes.Gap) ≡ item_count t + onward l d rest
  tally-body l d (word w) body last rest b h s = ap (λ x. tally l (x ++ (last ∷ rest)) (at d lexes.Gap)) b.1 ∙ tally-word l d w last rest b.0 s ∙ one_more (onward l d rest)
  tally-body l d (number n) body last rest b h s = tally-numeral l d n body (last ∷ rest) b h ∙ ap suc (tally-number l d n last rest s) ∙ one_more (onward l d rest)
  tally-body l d (string x) body last rest b h s =
      ap (λ y. tally l (y ++ (last ∷ rest)) (at d lexes.Gap)) b.whole
      ∙ ap (λ y. tally l y (at d lexes.Gap)) (append_assoc b.count (58 ∷ x) (last ∷ rest))
      ∙ tally-numeral l d (length x) b.count (58 ∷ (x ++ (last ∷ rest))) b.numeral h.1
      ∙ ap suc (tally-colon l d (length x) (x ++ (last ∷ rest)) h.0 ∙ tally-string l d x last rest s)
      ∙ one_more (onward l d rest)
  tally-body l d (list ts) body last rest b h s =
      let behind : List ℕ = b.gap ++ (41 ∷ last ∷ rest) in
      let inside : tally l (b.inner ++ behind) (at (suc d) lexes.Gap) ≡ row_count ts + onward l d rest =
      tally-row l d ts b.inner behind b.middle h.1
      ∙ ap (λ n. row_count ts + n) (tally-spaces l (suc d) b.gap (41 ∷ last ∷ rest) b.spaces ∙ tally-closing l d last rest s) in
      let all : tally l (b.inner ++ behind) (at (suc d) lexes.Gap) ≡ row_count ts + onward l d rest → suc (tally l (b.inner ++ behind) (at (suc d) lexes.Gap)) ≡ suc (row_count ts) + onward l d rest = λ e. omega (arith, e) in
      ap (λ y. tally l (y ++ (last ∷ rest)) (at d lexes.Gap)) b.whole
      ∙ ap (λ y. tally l (40 ∷ b.opening ∷ y) (at d lexes.Gap)) (simp append_assoc)
      ∙ tally-opening l d b.opening (b.inner ++ behind) h.0 b.opens
      ∙ all inside

  tally-row : (l : Limits) (d : ℕ) (ts : ItemValues) (inner rest : List ℕ) → AreSpelled ts inner → AreWithin l (suc d) ts → tally l (inner ++ rest) (at (suc d) lexes.Gap) ≡ row_count ts + tally l rest (at (suc d) lexes.Gap)
  tally-row l d none inner rest e h = let zero_more : tally l rest (at (suc d) lexes.Gap) ≡ 0 + tally l rest (at (suc d) lexes.Gap) = omega arith in ap (λ x. tally l (x ++ rest) (at (suc d) lexes.Gap)) e ∙ zero_more
  tally-row l d (more t ts) inner rest j h =
      let behind : ℕ = tally l rest (at (suc d) lexes.Gap) in
      let first : tally l (j.front ++ (j.rest ++ rest)) (at (suc d) lexes.Gap) ≡ item_count t + onward l (suc d) (j.rest ++ rest) =
      tally-spaced (λ body. IsBody t body) (item_count t) l (suc d) j.front (j.rest ++ rest) (λ body last b s. tally-body l (suc d) t body last (j.rest ++ rest) b h.0 s) j.first in
      let others : onward l (suc d) (j.rest ++ rest) ≡ row_count ts + behind = onward-suc l d (j.rest ++ rest) ∙ tally-row l d ts j.rest rest j.others h.1 in
      let sum : item_count t + (row_count ts + behind) ≡ (item_count t + row_count ts) + behind = omega arith in
      ap (λ x. tally l (x ++ rest) (at (suc d) lexes.Gap)) j.whole
      ∙ ap (λ x. tally l x (at (suc d) lexes.Gap)) (append_assoc j.front j.rest rest)
      ∙ first ∙ ap (λ n. item_count t + n) others ∙ sum

-- an item has so many items as begin in its bytes
tally-item : (l : Limits) (t : ItemValue) (bytes : List ℕ) → Spaced (λ body. IsBody t body) bytes → IsWithin l 0 t → tally l bytes start ≡ item_count t
tally-item l t bytes p h =
    let all : tally l (bytes ++ []) start ≡ item_count t + onward l 0 [] = tally-spaced (λ body. IsBody t body) (item_count t) l 0 bytes [] (λ body last b s. tally-body l 0 t body last [] b h s) p in
    let sum : item_count t + onward l 0 [] ≡ item_count t = omega arith in
    ap (λ x. tally l x start) (sym (append-nil bytes)) ∙ all ∙ sum

some_items : (t : ItemValue) → 1 ≤ item_count t
some_items (word w) = omega arith
some_items (number n) = omega arith
some_items (string s) = omega arith
some_items (list ts) = omega arith

-- ---- the bytes of a scan, one after another

tally-append : (l : Limits) (a b : List ℕ) (s t : Scan) → run l a s ≡ unfinished t → tally l (a ++ b) s ≡ tally l a s + tally l b t
unfolding run tally
tally-append l [] b s t h =
    let same : s ≡ t = cc in
    let sum : tally l b t ≡ 0 + tally l b t = omega arith in
    ap (tally l b) same ∙ sum
tally-append l (x ∷ xs) b s t h = go (λ u e. tally-append l xs b u t e) (step l s x) h
  where
    go : ((u : Scan) → run l xs u ≡ unfinished t → tally l (xs ++ b) u ≡ tally l xs u + tally l b t) → (st : Step) → outcome_of (run l xs) st x xs ≡ unfinished t → tally_of (tally l (xs ++ b)) s.lex st ≡ tally_of (tally l xs) s.lex st + tally l b t
    go again (steps.On u) h =
        let e : tally l (xs ++ b) u ≡ tally l xs u + tally l b t = again u h in
        let f : suc (tally l (xs ++ b) u) ≡ suc (tally l xs u) + tally l b t = omega (arith, e) in
        elim (enters s.lex u.lex) as (λ v. cond v (suc (tally l (xs ++ b) u)) (tally l (xs ++ b) u) ≡ cond v (suc (tally l xs u)) (tally l xs u) + tally l b t) [ true ↦ f | false ↦ e ]
    go again steps.Whole h = let never : ⊥ = cc in absurd never
    go again (steps.Bad e) h = let never : ⊥ = cc in absurd never

tally-one : (s t : Scan) (b : ℕ) → step limits s b ≡ steps.On t → tally limits (b ∷ []) s ≡ begun s.lex t.lex
unfolding tally
tally-one s t b e =
    ap (tally_of (tally limits []) s.lex) e
    ∙ elim (enters s.lex t.lex) as (λ v. cond v (suc 0) 0 ≡ cond v 1 0) [ true ↦ refl | false ↦ refl ]

begun_most : (from to : Lex) → begun from to ≤ 1
begun_most from to = elim (enters from to) as (λ v. cond v 1 0 ≤ 1) [ true ↦ omega arith | false ↦ omega arith ]

pub counted_more : (bytes : List ℕ) (n items : ℕ) (s t : Scan) → IsScanned bytes n s → IsCounted bytes n items → n < length bytes → step limits s (slice_index bytes n) ≡ steps.On t → IsCounted bytes (n + 1) (items + begun s.lex t.lex)
counted_more bytes n items s t i c h e =
    let b : ℕ = slice_index bytes n in
    let counts : tally limits (take (n + 1) bytes) start ≡ items + begun s.lex t.lex =
    ap (λ x. tally limits x start) (take_more bytes n 0 h)
    ∙ tally-append limits (take n bytes) (b ∷ []) start s i.reached
    ∙ ap (λ k. k + tally limits (b ∷ []) s) c.1
    ∙ ap (λ k. items + k) (tally-one s t b e) in
    (omega (arith, c.0, begun_most s.lex t.lex), counts)

tally-tail : (l : Limits) (d k : ℕ) (xs : List ℕ) → length xs ≤ k → tally l xs (at d (lexes.Tail k)) ≡ 0
unfolding tally step_in
tally-tail l d k [] le = refl
tally-tail l d zero (x ∷ xs) le = let never : ⊥ = omega arith in absurd never
tally-tail l d (suc k) (x ∷ xs) le =
    let less : suc k - 1 ≡ k = omega arith in
    rw (eqb-suc-zero, less) (tally-tail l d k xs (omega arith))

pub counted_skip : (bytes : List ℕ) (n items : ℕ) (s t : Scan) (k : ℕ) → IsScanned bytes n s → IsCounted bytes n items → Skips s t k (length bytes - n) → IsCounted bytes (n + k) items
counted_skip bytes n items s t k i c p =
    let within : n ≤ length bytes = i.within in
    let fits : k ≤ length bytes - n = p.fits in
    let room : k ≤ length (drop n bytes) = omega (arith, length-drop n bytes) in
    let len : length (take k (drop n bytes)) ≡ k = length-take-le k (drop n bytes) room in
    let most : length (take k (drop n bytes)) ≤ p.left = omega (arith, len, p.most) in
    let none_more : items + 0 ≡ items = omega arith in
    let counts : tally limits (take (n + k) bytes) start ≡ items =
    ap (λ x. tally limits x start) (take-add n k bytes)
    ∙ tally-append limits (take n bytes) (take k (drop n bytes)) start s i.reached
    ∙ ap (λ m. m + tally limits (take k (drop n bytes)) s) c.1
    ∙ ap (λ m. items + m) (ap (tally limits (take k (drop n bytes))) p.is_tail ∙ tally-tail limits s.depth p.left (take k (drop n bytes)) most)
    ∙ none_more in
    (omega (arith, c.0), counts)

pub none_counted : (bytes : List ℕ) → IsCounted bytes 0 0
unfolding tally
none_counted bytes = (omega arith, refl)

-- ---- the end of an unfinished scan

onward-none : (l : Limits) (d : ℕ) → onward l d (closers d) ≡ 0
unfolding closers
onward-none l zero = refl
onward-none l (suc d) = onward-suc l d (closers (suc d)) ∙ tally-closing l d 32 (closers d) refl ∙ onward-none l d

-- it can be brought to an end by bytes in which no more begin than are lacking
record Ends (l : Limits) (s : Scan) : Type 0 where
  bytes : List ℕ
  ends : run l bytes s ≡ whole []
  counts : tally l bytes s ≡ lacking s

between : (l : Limits) (d : ℕ) → Ends l (at d lexes.Gap)
unfolding closers
between l zero = record { bytes = 97 ∷ 32 ∷ []; ends = run-word l 0 (97 ∷ []) 32 [] (refl, tt) refl; counts = tally-word l 0 (97 ∷ []) 32 [] (refl, tt) refl }
between l (suc d) =
    let none_lacks : 0 ≡ lacking_in (suc d) lexes.Gap = rw eqb-suc-zero in
    record {
      bytes = closers (suc d);
      ends = run-closing l d 32 (closers d) refl ∙ onward-closers l d;
      counts = tally-closing l d 32 (closers d) refl ∙ onward-none l d ∙ none_lacks;
    }

tally-opening_space : (l : Limits) (d : ℕ) (c : List ℕ) → tally l (32 ∷ c) (at d lexes.Open) ≡ tally l c (at d lexes.Gap)
unfolding tally step_in
tally-opening_space l d c = refl

end_counted : (l : Limits) (d : ℕ) (lex : Lex) → Ends l (at d lex)
end_counted l d lexes.Gap = between l d
end_counted l d lexes.Open =
    let e : Ends l (at d lexes.Gap) = between l d in
    record { bytes = 32 ∷ e.bytes; ends = run-opening_space l d e.bytes ∙ e.ends; counts = tally-opening_space l d e.bytes ∙ e.counts }
end_counted l d lexes.Word =
    record { bytes = 32 ∷ closers d; ends = run-letters l d [] 32 (closers d) tt refl ∙ onward-closers l d; counts = tally-letters l d [] 32 (closers d) tt refl ∙ onward-none l d }
end_counted l d (lexes.Number n) =
    record { bytes = 32 ∷ closers d; ends = run-number l d n 32 (closers d) refl ∙ onward-closers l d; counts = tally-number l d n 32 (closers d) refl ∙ onward-none l d }
end_counted l d (lexes.Tail k) =
    let p = some_string k in
    let bytes : List ℕ = p.0 ++ (32 ∷ closers d) in
    record {
      bytes = bytes;
      ends = ap (λ n. run l bytes (at d (lexes.Tail n))) (sym p.1) ∙ run-string l d p.0 32 (closers d) refl ∙ onward-closers l d;
      counts = ap (λ n. tally l bytes (at d (lexes.Tail n))) (sym p.1) ∙ tally-string l d p.0 32 (closers d) refl ∙ onward-none l d;
    }

-- and by none in which fewer do
least_between : (bytes : List ℕ) → run limits bytes start ≡ whole [] → 1 ≤ tally limits bytes start
least_between bytes h =
    let f : First (λ x. x ≡ []) limits bytes = ends_item limits nine_fits bytes [] h in
    let all : bytes ≡ f.front = f.whole ∙ ap (λ x. f.front ++ x) f.goes ∙ append-nil f.front in
    let count : tally limits bytes start ≡ item_count f.item = ap (λ x. tally limits x start) all ∙ tally-item limits f.item f.front f.spelled f.within in
    omega (arith, count, some_items f.item)

least_opened : (bytes : List ℕ) → run limits bytes (at 0 lexes.Open) ≡ whole [] → 1 ≤ tally limits bytes (at 0 lexes.Open)
unfolding run tally step_in
least_opened [] h = let never : ⊥ = cc in absurd never
least_opened (b ∷ bs) h = go (is_space b) h
  where
    go : (v : Bool) → outcome_of (run limits bs) (cond v (on 0 lexes.Gap) (steps.Bad defects.Malformed)) b bs ≡ whole [] → 1 ≤ tally_of (tally limits bs) lexes.Open (cond v (on 0 lexes.Gap) (steps.Bad defects.Malformed))
    go true h = least_between bs h
    go false h = let never : ⊥ = cc in absurd never

least_of : (d : ℕ) (lex : Lex) (bytes : List ℕ) → run limits bytes (at d lex) ≡ whole [] → lacking_in d lex ≤ tally limits bytes (at d lex)
least_of zero lexes.Gap bytes h = least_between bytes h
least_of zero lexes.Open bytes h = least_opened bytes h
least_of (suc d) lexes.Gap bytes h = let none_lacks : lacking_in (suc d) lexes.Gap ≡ 0 = rw eqb-suc-zero in omega (arith, none_lacks)
least_of (suc d) lexes.Open bytes h = let none_lacks : lacking_in (suc d) lexes.Open ≡ 0 = rw eqb-suc-zero in omega (arith, none_lacks)
least_of d lexes.Word bytes h = omega arith
least_of d (lexes.Number n) bytes h = omega arith
least_of d (lexes.Tail n) bytes h = omega arith

-- ---- the count of a reader

fewest : (bytes : List ℕ) (items : ℕ) (s : Scan) → run limits bytes start ≡ unfinished s → tally limits bytes start ≡ items → IsFewest (items + lacking s) bytes
fewest bytes items s reached counted =
    let e : Ends limits s = end_counted limits s.depth s.lex in
    let all : List ℕ = bytes ++ e.bytes in
    let f : First (λ x. x ≡ []) limits all = ends_item limits nine_fits all [] (run-append limits bytes e.bytes start s reached ∙ e.ends) in
    let same : f.front ≡ all = sym (append-nil f.front) ∙ ap (λ x. f.front ++ x) (sym f.goes) ∙ sym f.whole in
    let P : List ℕ → Type 0 = λ x. IsItem limits f.item x in
    let sum : (others : List ℕ) → tally limits (bytes ++ others) start ≡ items + tally limits others s =
    λ others. tally-append limits bytes others start s reached ∙ ap (λ n. n + tally limits others s) counted in
    record {
      item = f.item;
      rest = e.bytes;
      is_item = subst P same (record { spelled = f.spelled; within = f.within });
      count = sym (tally-item limits f.item f.front f.spelled f.within) ∙ ap (λ x. tally limits x start) same ∙ sum e.bytes ∙ ap (λ n. items + n) e.counts;
      least = λ t others i. (
          let ends : run limits (bytes ++ others) start ≡ whole [] = ap (λ x. run limits x start) (sym (append-nil (bytes ++ others))) ∙ run-item limits t (bytes ++ others) [] i.spelled i.within in
          let behind : run limits others s ≡ whole [] = sym (run-append limits bytes others start s reached) ∙ ends in
          let has : tally limits (bytes ++ others) start ≡ item_count t = tally-item limits t (bytes ++ others) i.spelled i.within in
          omega (arith, least_of s.depth s.lex others behind, sum others, has));
    }

pub counts_items : (bytes : List ℕ) (n items : ℕ) (s : Scan) (end : End) → IsScanned bytes n s → IsCounted bytes n items → EndsSo bytes n s end → CountsItems (items + lacking s) bytes
counts_items bytes n items s ends.More i c e no_item begins =
    let every : take n bytes ≡ bytes = take_all n bytes (omega (arith, e)) in
    fewest bytes items s (ap (λ x. run limits x start) (sym every) ∙ i.reached) (ap (λ x. tally limits x start) (sym every) ∙ c.1)
counts_items bytes n items s ends.Whole i c e no_item begins =
    let t = item_there bytes n s i e.0 e.1 in
    absurd (no_item t.0 (take (n + 1) bytes) (drop (n + 1) bytes) t.1 (sym (take-append-drop (n + 1) bytes)))
counts_items bytes n items s (ends.Bad d) i c e no_item begins =
    let old : Unread = record { place = 0; rest = bytes } in
    let wrong = wrong_there old n s d i e.0 e.1 in
    absurd (wrong.faulty.bad (begins-take limits (wrong.count + 1) bytes begins))
