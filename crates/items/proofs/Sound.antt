-- Where the scanner comes to the end of an item, the bytes up to there spell one within the limits.
use Rattle.std.proofs.Common.{◌≡◌, ℕ, suc, ◌+◌, ◌-◌, ◌*◌, ◌≤◌, ◌<◌, inl, inr, List, [], ◌∷◌, ◌++◌, length, ◌==◌, refl, sym, ap, ap₂, ◌∙◌, subst, append_assoc}
use Rattle.std.proofs.{Common.arith, lemmas.Bool.Decides.nat_tests}
use Rattle.items.specs.{declared.scan.Lex.Lex, declared.scan.Step.Step, Word.{IsDigit, is_space, is_word_byte}}
use Rattle.items.specs.{Values.{word, number, string, list, none, Limits}, Spelling.{value_behind, Bracketed, Counted, AreSpelled}}
use Rattle.items.specs.{Scan.{at, on, step_in, gap_step, number_step, behind_body}, Run.{whole, outcome_of, run}}
use Rattle.items.specs.declared.scan.Lex.TheVariants as lexes
use Rattle.items.specs.declared.scan.Step.TheVariants as steps
use Rattle.items.proofs.Steps.{split, AfterCase, GapCase, NumberCase, after-case, gap-case, number-case}
use Rattle.items.proofs.Ahead.{Inside, After, First, Gaps, Ends, Opened, Letters, Strings, Digits, Goes, gap-space, next-body}

small_digit : (b : ℕ) → IsDigit b → b - 48 ≤ 9
small_digit b h = let e : IsDigit b = h in grind (arith, nat_tests)

module _ (Q : List ℕ → Type 0) (l : Limits) (nine : 9 ≤ l.number) (rest : List ℕ) (end : Q rest) (b : ℕ) (bs : List ℕ) (ahead : (d : ℕ) (lex : Lex) → run l bs (at d lex) ≡ whole rest → Goes Q l d lex bs) where
  -- the item ends in the scan of these bytes
  abbrev Comes : Step → Type 0
  Comes st = outcome_of (run l bs) st b bs ≡ whole rest

  comes : (st u : Step) → st ≡ u → Comes st → Comes u
  comes st u e h = subst Comes e h

  behind : (d : ℕ) (st : Step) → AfterCase d b st → Comes st → Ends Q l d (b ∷ bs)
  behind d st (AfterCase.ends h z e) c =
      let same : whole bs ≡ whole rest = comes st steps.Whole e c in
      let is : rest ≡ bs = cc in
      let P : ℕ → Type 0 = λ k. After Q l k bs in
      record { last = b; rest = bs; ends = h; goes = subst P (sym z) (subst Q is end); whole = refl }
  behind d st (AfterCase.goes k h z e) c =
      let P : ℕ → Type 0 = λ k. After Q l k bs in
      let G : ℕ → Type 0 = λ k. Gaps Q l k bs in
      let there : Gaps Q l (suc k) bs = subst G z (ahead d lexes.Gap (comes st (on d lexes.Gap) e c)) in
      record { last = b; rest = bs; ends = h; goes = subst P (sym z) there; whole = refl }
  behind d st (AfterCase.wrong e) c = let never : ⊥ = cc (comes st _ e c) in absurd never

  numbered : (d : ℕ) → IsDigit b → Digits Q l d (b - 48) bs → Gaps Q l d (b ∷ bs)
  numbered d h n =
      let most : value_behind (b - 48) n.digits ≤ l.number = n.most (omega (arith, small_digit b h)) in
      elim n.goes [
        | inl e ↦ next-body Q l d (number (value_behind (b - 48) n.digits)) (b ∷ n.digits) n.tail (b ∷ bs) (h, n.each, refl) most e (ap (λ x. b ∷ x) n.whole)
        | inr k ↦
            let s : Strings Q l d (value_behind (b - 48) n.digits) k.rest = k.goes in
            let body : Counted s.string (b ∷ (n.digits ++ (58 ∷ s.string))) = record { count = b ∷ n.digits; numeral = (h, n.each, sym s.count); whole = refl } in
            let same : b ∷ bs ≡ (b ∷ (n.digits ++ (58 ∷ s.string))) ++ s.tail =
            ap (λ x. b ∷ x) (n.whole ∙ ap (λ x. n.digits ++ x) (k.whole ∙ ap (λ x. 58 ∷ x) s.whole) ∙ sym (append_assoc n.digits (58 ∷ s.string) s.tail)) in
            next-body Q l d (string s.string) (b ∷ (n.digits ++ (58 ∷ s.string))) s.tail (b ∷ bs) body (omega (arith, s.count, k.most), omega (arith, s.count, most)) s.goes same
      ]

  listed : (d : ℕ) → b ≡ 40 → d < l.depth → Opened Q l (suc d) bs → Gaps Q l d (b ∷ bs)
  listed d h lt o =
      let i : Inside (After Q l d) l (suc d) o.rest = o.goes in
      let tail : List ℕ = i.last ∷ i.rest in
      let body : List ℕ = 40 ∷ o.opening ∷ (i.inner ++ (i.gap ++ (41 ∷ []))) in
      let is : Bracketed (λ inner. AreSpelled i.items inner) body = record { opening = o.opening; inner = i.inner; gap = i.gap; opens = o.opens; middle = i.spelled; spaces = i.spaces; whole = refl } in
      let inside : (i.inner ++ (i.gap ++ (41 ∷ []))) ++ tail ≡ i.inner ++ (i.gap ++ (41 ∷ tail)) = simp append_assoc in
      let same : b ∷ bs ≡ body ++ tail = ap₂ (λ x y. x ∷ y) h (o.whole ∙ ap (λ x. o.opening ∷ x) (i.whole ∙ sym inside)) in
      next-body Q l d (list i.items) body tail (b ∷ bs) is (lt, i.within) (record { last = i.last; rest = i.rest; ends = i.ends; goes = i.goes; whole = refl }) same

  closed : (d k : ℕ) → b ≡ 41 → d ≡ suc k → Strings Q l k 0 bs → Gaps Q l d (b ∷ bs)
  closed d k h z s =
      let none_left : s.string ≡ [] = nothing s.string s.count in
      let e : Ends Q l k s.tail = s.goes in
      let G : ℕ → Type 0 = λ k. Gaps Q l k (b ∷ bs) in
      let same : bs ≡ e.last ∷ e.rest = s.whole ∙ ap (λ x. x ++ s.tail) none_left ∙ e.whole in
      subst G (sym z) (record { items = none; inner = []; gap = []; last = e.last; rest = e.rest; spelled = refl; within = tt; spaces = tt; ends = e.ends; goes = e.goes; whole = ap₂ (λ x y. x ∷ y) h same })
    where
      nothing : (xs : List ℕ) → length xs ≡ 0 → xs ≡ []
      nothing [] h = refl
      nothing (x ∷ xs) h = let never : ⊥ = omega arith in absurd never

  between : (d : ℕ) (st : Step) → GapCase l d b st → Comes st → Gaps Q l d (b ∷ bs)
  between d st (GapCase.space h e) c = gap-space Q l d b bs h (ahead d lexes.Gap (comes st _ e c))
  between d st (GapCase.opening h lt e) c = listed d h lt (ahead (suc d) lexes.Open (comes st _ e c))
  between d st (GapCase.closing k h z e) c = closed d k h z (ahead k (lexes.Tail 0) (comes st _ e c))
  between d st (GapCase.digit h e) c = numbered d h (ahead d (lexes.Number (b - 48)) (comes st _ e c))
  between d st (GapCase.letter h e) c =
      let w : Letters Q l d bs = ahead d lexes.Word (comes st _ e c) in
      next-body Q l d (word (b ∷ w.letters)) (b ∷ w.letters) w.tail (b ∷ bs) ((h, w.each), refl) tt w.goes (ap (λ x. b ∷ x) w.whole)
  between d st (GapCase.deep e) c = let never : ⊥ = cc (comes st _ e c) in absurd never
  between d st (GapCase.wrong e) c = let never : ⊥ = cc (comes st _ e c) in absurd never

  in_number : (d n : ℕ) (st : Step) → NumberCase l d n b st → Comes st → Digits Q l d n (b ∷ bs)
  in_number d n st (NumberCase.digit h le e) c =
      let r : Digits Q l d (10 * n + (b - 48)) bs = ahead d (lexes.Number (10 * n + (b - 48))) (comes st _ e c) in
      record { digits = b ∷ r.digits; tail = r.tail; each = (h, r.each); most = λ _. r.most le; goes = r.goes; whole = ap (λ x. b ∷ x) r.whole }
  in_number d n st (NumberCase.colon h le e) c =
      let s : Strings Q l d n bs = ahead d (lexes.Tail n) (comes st _ e c) in
      record { digits = []; tail = b ∷ bs; each = tt; most = λ h. h; goes = inr (record { rest = bs; most = le; goes = s; whole = ap (λ x. x ∷ bs) h }); whole = refl }
  in_number d n st (NumberCase.large e) c = let never : ⊥ = cc (comes st _ e c) in absurd never
  in_number d n st (NumberCase.long e) c = let never : ⊥ = cc (comes st _ e c) in absurd never
  in_number d n st (NumberCase.other e) c =
      record { digits = []; tail = b ∷ bs; each = tt; most = λ h. h; goes = inl (behind d (behind_body d b) (after-case d b) (comes st _ e c)); whole = refl }

  pub here : (d : ℕ) (lex : Lex) → Comes (step_in l d lex b) → Goes Q l d lex (b ∷ bs)
  unfolding step_in
  here d lexes.Gap c = between d (gap_step l d b) (gap-case l d b) c
  here d lexes.Open c =
      split (λ st. Comes st → Opened Q l d (b ∷ bs)) (is_space b)
      (λ h c. record { opening = b; rest = bs; opens = h; goes = ahead d lexes.Gap c; whole = refl })
      (λ _ c. let never : ⊥ = cc c in absurd never) c
  here d lexes.Word c =
      split (λ st. Comes st → Letters Q l d (b ∷ bs)) (is_word_byte b)
      (λ h c. let w : Letters Q l d bs = ahead d lexes.Word c in record { letters = b ∷ w.letters; tail = w.tail; each = (h, w.each); goes = w.goes; whole = ap (λ x. b ∷ x) w.whole })
      (λ _ c. record { letters = []; tail = b ∷ bs; each = tt; goes = behind d (behind_body d b) (after-case d b) c; whole = refl }) c
  here d (lexes.Number n) c = in_number d n (number_step l d n b) (number-case l d n b) c
  here d (lexes.Tail n) c =
      split (λ st. Comes st → Strings Q l d n (b ∷ bs)) (n == 0)
      (λ h c. record { string = []; tail = b ∷ bs; count = grind (arith, nat_tests); goes = behind d (behind_body d b) (after-case d b) c; whole = refl })
      (λ h c. let s : Strings Q l d (n - 1) bs = ahead d (lexes.Tail (n - 1)) c in
      let positive : 0 < n = grind (arith, nat_tests) in
      record { string = b ∷ s.string; tail = s.tail; count = omega (arith, s.count); goes = s.goes; whole = ap (λ x. b ∷ x) s.whole }) c

pub goes : (Q : List ℕ → Type 0) (l : Limits) → 9 ≤ l.number → (rest : List ℕ) → Q rest → (bytes : List ℕ) (d : ℕ) (lex : Lex) → run l bytes (at d lex) ≡ whole rest → Goes Q l d lex bytes
unfolding run
goes Q l nine rest end [] d lex h = let never : ⊥ = cc in absurd never
goes Q l nine rest end (b ∷ bs) d lex h = here Q l nine rest end b bs (λ d lex h. goes Q l nine rest end bs d lex h) d lex h

-- an item ends there
pub ends_item : (l : Limits) → 9 ≤ l.number → (bytes rest : List ℕ) → run l bytes (at 0 lexes.Gap) ≡ whole rest → First (λ x. x ≡ rest) l bytes
ends_item l nine bytes rest h = goes (λ x. x ≡ rest) l nine rest refl bytes 0 lexes.Gap h
