-- Bytes that spell an item within the limits bring the scanner to its end, and no further.
use Rattle.std.proofs.Common.{◌≡◌, ℕ, suc, ◌+◌, ◌-◌, ◌*◌, ◌≤◌, ◌<◌, List, [], ◌∷◌, ◌++◌, length, true, false, cond, ◌==◌, nat_le, nat_lt, IsTrue, refl, ap, ◌∙◌}
use Rattle.std.proofs.{Common.{append_assoc, arith}, Math.Dec.eqb-suc-zero, lemmas.Bool.Decides.nat_tests}
use Rattle.std.specs.Char.{is_ascii_digit, is_ascii_alphabetic}
use Rattle.items.specs.declared.scan.Lex.TheVariants as lexes
use Rattle.items.specs.declared.scan.Step.TheVariants as steps
use Rattle.items.specs.Word.{EachPasses, IsSpace, IsDigit, IsWord, is_space, is_word_byte}
use Rattle.items.specs.Values.{ItemValue, word, number, string, list, ItemValues, none, more, Limits, IsWithin, AreWithin}
use Rattle.items.specs.{Spelling.{value_behind, IsNumeral, Spaced, IsBody, AreSpelled}, Scan.{at, on, step_in, gap_step, number_step, behind_body}}
use Rattle.items.specs.Run.{Outcome, whole, outcome_of, run}
use Rattle.items.proofs.Classes.{space-no_word, space-no_digit, space-no_colon, digit-no_space, digit-no_opening, digit-no_closing, letter-no_space}
use Rattle.items.proofs.Classes.{letter-no_opening, letter-no_closing, letter-no_digit, le-test, value-grows}

-- the whitespace behind a body is taken
abbrev pub onward : Limits → ℕ → List ℕ → Outcome
onward l d rest = cond (d == 0) (whole rest) (run l rest (at d lexes.Gap))

after : (l : Limits) (d b : ℕ) (rest : List ℕ) → IsSpace b → outcome_of (run l rest) (behind_body d b) b rest ≡ onward l d rest
unfolding behind_body
after l d b rest h =
    let e : is_space b ≡ true = h in
    rw e
    (elim (d == 0) as (λ v. outcome_of (run l rest) (cond v steps.Whole (on d lexes.Gap)) b rest ≡ cond v (whole rest) (run l rest (at d lexes.Gap))) [ true ↦ refl | false ↦ refl ])

pub onward-suc : (l : Limits) (d : ℕ) (rest : List ℕ) → onward l (suc d) rest ≡ run l rest (at (suc d) lexes.Gap)
onward-suc l d rest = rw eqb-suc-zero

pub run-spaces : (l : Limits) (d : ℕ) (gap rest : List ℕ) → EachPasses IsSpace gap → run l (gap ++ rest) (at d lexes.Gap) ≡ run l rest (at d lexes.Gap)
unfolding run step_in gap_step
run-spaces l d [] rest h = refl
run-spaces l d (b ∷ bs) rest h = let e : is_space b ≡ true = h.0 in rw e (run-spaces l d bs rest h.1)

pub run-letters : (l : Limits) (d : ℕ) (w : List ℕ) (last : ℕ) (rest : List ℕ) → EachPasses (λ c. IsTrue (is_word_byte c)) w → IsSpace last → run l (w ++ (last ∷ rest)) (at d lexes.Word) ≡ onward l d rest
unfolding run step_in
run-letters l d [] last rest h s = rw (space-no_word last s) (after l d last rest s)
run-letters l d (b ∷ bs) last rest h s = let e : is_word_byte b ≡ true = h.0 in rw e (run-letters l d bs last rest h.1 s)

pub run-word : (l : Limits) (d : ℕ) (w : List ℕ) (last : ℕ) (rest : List ℕ) → IsWord w → IsSpace last → run l (w ++ (last ∷ rest)) (at d lexes.Gap) ≡ onward l d rest
unfolding run step_in gap_step
run-word l d [] last rest h s = absurd h
run-word l d (b ∷ bs) last rest h s =
    let e : is_ascii_alphabetic b ≡ true = h.0 in
    rw (letter-no_space b e, letter-no_opening b e, letter-no_closing b e, letter-no_digit b e, e) (run-letters l d bs last rest h.1 s)

run-digits : (l : Limits) (d n : ℕ) (ds rest : List ℕ) → EachPasses IsDigit ds → value_behind n ds ≤ l.number → run l (ds ++ rest) (at d (lexes.Number n)) ≡ run l rest (at d (lexes.Number (value_behind n ds)))
unfolding run step_in number_step
run-digits l d n [] rest h le = refl
run-digits l d n (b ∷ bs) rest h le =
    let e : is_ascii_digit b ≡ true = h.0 in
    let fits : nat_le (10 * n + (b - 48)) l.number ≡ true = le-test _ _ (omega (arith, value-grows (10 * n + (b - 48)) bs)) in
    rw (e, fits) (run-digits l d (10 * n + (b - 48)) bs rest h.1 le)

run-numeral : (l : Limits) (d n : ℕ) (ds rest : List ℕ) → IsNumeral ds n → n ≤ l.number → run l (ds ++ rest) (at d lexes.Gap) ≡ run l rest (at d (lexes.Number n))
unfolding run step_in gap_step
run-numeral l d n [] rest h le = absurd h
run-numeral l d n (b ∷ bs) rest h le =
    let e : is_ascii_digit b ≡ true = h.0 in
    let fits : value_behind (b - 48) bs ≤ l.number = omega (arith, h.2) in
    rw (digit-no_space b e, digit-no_opening b e, digit-no_closing b e, e) (run-digits l d (b - 48) bs rest h.1 fits ∙ ap (λ k. run l rest (at d (lexes.Number k))) h.2)

pub run-number : (l : Limits) (d n last : ℕ) (rest : List ℕ) → IsSpace last → run l (last ∷ rest) (at d (lexes.Number n)) ≡ onward l d rest
unfolding run step_in number_step
run-number l d n last rest s = rw (space-no_digit last s, space-no_colon last s) (after l d last rest s)

run-colon : (l : Limits) (d n : ℕ) (rest : List ℕ) → n ≤ l.string → run l (58 ∷ rest) (at d (lexes.Number n)) ≡ run l rest (at d (lexes.Tail n))
unfolding run step_in number_step
run-colon l d n rest le = rw (le-test n l.string le)

pub run-string : (l : Limits) (d : ℕ) (s : List ℕ) (last : ℕ) (rest : List ℕ) → IsSpace last → run l (s ++ (last ∷ rest)) (at d (lexes.Tail (length s))) ≡ onward l d rest
unfolding run step_in
run-string l d [] last rest h = after l d last rest h
run-string l d (b ∷ bs) last rest h =
    let less : suc (length bs) - 1 ≡ length bs = omega arith in
    rw (eqb-suc-zero, less) (run-string l d bs last rest h)

run-opening : (l : Limits) (d opening : ℕ) (rest : List ℕ) → d < l.depth → IsSpace opening → run l (40 ∷ opening ∷ rest) (at d lexes.Gap) ≡ run l rest (at (suc d) lexes.Gap)
unfolding run step_in gap_step
run-opening l d opening rest h s =
    let e : is_space opening ≡ true = s in
    let room : nat_lt d l.depth ≡ true = grind (arith, nat_tests) in
    let one : d + 1 ≡ suc d = omega arith in
    rw (room, e, one)

pub run-closing : (l : Limits) (d last : ℕ) (rest : List ℕ) → IsSpace last → run l (41 ∷ last ∷ rest) (at (suc d) lexes.Gap) ≡ onward l d rest
unfolding run step_in gap_step
run-closing l d last rest s =
    let less : suc d - 1 ≡ d = omega arith in
    rw (eqb-suc-zero, less) (after l d last rest s)

-- what a body does, an item does
pub run-spaced : (Body : List ℕ → Type 0) (l : Limits) (d : ℕ) (bytes rest : List ℕ)
    → ((body : List ℕ) (last : ℕ) → Body body → IsSpace last → run l (body ++ (last ∷ rest)) (at d lexes.Gap) ≡ onward l d rest)
    → Spaced Body bytes → run l (bytes ++ rest) (at d lexes.Gap) ≡ onward l d rest
run-spaced Body l d bytes rest go p =
    ap (λ x. run l (x ++ rest) (at d lexes.Gap)) p.whole
    ∙ ap (λ x. run l x (at d lexes.Gap)) (simp append_assoc)
    ∙ run-spaces l d p.gap (p.body ++ (p.last ∷ rest)) p.spaces
    ∙ go p.body p.last p.middle p.ends

mutual
  run-body : (l : Limits) (d : ℕ) (t : ItemValue) (body : List ℕ) (last : ℕ) (rest : List ℕ) → IsBody t body → IsWithin l d t → IsSpace last → run l (body ++ (last ∷ rest)) (at d lexes.Gap) ≡ onward l d rest
  run-body l d (word w) body last rest b h s = ap (λ x. run l (x ++ (last ∷ rest)) (at d lexes.Gap)) b.1 ∙ run-word l d w last rest b.0 s
  run-body l d (number n) body last rest b h s = run-numeral l d n body (last ∷ rest) b h ∙ run-number l d n last rest s
  run-body l d (string x) body last rest b h s =
      ap (λ y. run l (y ++ (last ∷ rest)) (at d lexes.Gap)) b.whole
      ∙ ap (λ y. run l y (at d lexes.Gap)) (append_assoc b.count (58 ∷ x) (last ∷ rest))
      ∙ run-numeral l d (length x) b.count (58 ∷ (x ++ (last ∷ rest))) b.numeral h.1
      ∙ run-colon l d (length x) (x ++ (last ∷ rest)) h.0
      ∙ run-string l d x last rest s
  run-body l d (list ts) body last rest b h s =
      ap (λ y. run l (y ++ (last ∷ rest)) (at d lexes.Gap)) b.whole
      ∙ ap (λ y. run l (40 ∷ b.opening ∷ y) (at d lexes.Gap)) (simp append_assoc)
      ∙ run-opening l d b.opening (b.inner ++ (b.gap ++ (41 ∷ last ∷ rest))) h.0 b.opens
      ∙ run-row l d ts b.inner (b.gap ++ (41 ∷ last ∷ rest)) b.middle h.1
      ∙ run-spaces l (suc d) b.gap (41 ∷ last ∷ rest) b.spaces
      ∙ run-closing l d last rest s

  run-row : (l : Limits) (d : ℕ) (ts : ItemValues) (inner rest : List ℕ) → AreSpelled ts inner → AreWithin l (suc d) ts → run l (inner ++ rest) (at (suc d) lexes.Gap) ≡ run l rest (at (suc d) lexes.Gap)
  run-row l d none inner rest e h = ap (λ x. run l (x ++ rest) (at (suc d) lexes.Gap)) e
  run-row l d (more t ts) inner rest j h =
      ap (λ x. run l (x ++ rest) (at (suc d) lexes.Gap)) j.whole
      ∙ ap (λ x. run l x (at (suc d) lexes.Gap)) (append_assoc j.front j.rest rest)
      ∙ run-spaced (λ body. IsBody t body) l (suc d) j.front (j.rest ++ rest) (λ body last b s. run-body l (suc d) t body last (j.rest ++ rest) b h.0 s) j.first
      ∙ onward-suc l d (j.rest ++ rest)
      ∙ run-row l d ts j.rest rest j.others h.1

-- the item is whole just there, whatever follows
pub run-item : (l : Limits) (t : ItemValue) (bytes rest : List ℕ) → Spaced (λ body. IsBody t body) bytes → IsWithin l 0 t → run l (bytes ++ rest) (at 0 lexes.Gap) ≡ whole rest
run-item l t bytes rest p h = run-spaced (λ body. IsBody t body) l 0 bytes rest (λ body last b s. run-body l 0 t body last rest b h s) p
