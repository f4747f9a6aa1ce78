-- Each unfinished scan can be brought to an end.
use Rattle.std.proofs.Common.{◌≡◌, ℕ, zero, suc, List, [], ◌∷◌, ◌++◌, length, refl, sym, ap, ◌∙◌}
use Rattle.items.specs.{declared.scan.Lex.Lex, declared.scan.Step.Step, declared.scan.Scan.Scan, Values.Limits, Scan.{at, step, step_in}}
use Rattle.items.specs.Run.{unfinished, whole, outcome_of, run}
use Rattle.items.specs.declared.scan.Lex.TheVariants as lexes
use Rattle.items.specs.declared.scan.Step.TheVariants as steps
use Rattle.items.proofs.Complete.{onward, onward-suc, run-letters, run-number, run-string, run-closing, run-word}

-- `) ` for each open list
unfoldable pub closers : ℕ → List ℕ
closers zero = []
closers (suc d) = 41 ∷ 32 ∷ closers d

pub onward-closers : (l : Limits) (d : ℕ) → onward l d (closers d) ≡ whole []
unfolding closers
onward-closers l zero = refl
onward-closers l (suc d) = onward-suc l d (closers (suc d)) ∙ run-closing l d 32 (closers d) refl ∙ onward-closers l d

pub some_string : (k : ℕ) → (s : List ℕ) × (length s ≡ k)
some_string zero = ([], refl)
some_string (suc k) = let p = some_string k in (0 ∷ p.0, ap suc p.1)

-- from between items
gap_end : (l : Limits) (d : ℕ) → (c : List ℕ) × (run l c (at d lexes.Gap) ≡ whole [])
unfolding closers
gap_end l zero = (97 ∷ 32 ∷ [], run-word l 0 (97 ∷ []) 32 [] (refl, tt) refl)
gap_end l (suc d) = (closers (suc d), run-closing l d 32 (closers d) refl ∙ onward-closers l d)

pub run-opening_space : (l : Limits) (d : ℕ) (c : List ℕ) → run l (32 ∷ c) (at d lexes.Open) ≡ run l c (at d lexes.Gap)
unfolding run step_in
run-opening_space l d c = refl

pub end_of : (l : Limits) (d : ℕ) (lex : Lex) → (c : List ℕ) × (run l c (at d lex) ≡ whole [])
end_of l d lexes.Gap = gap_end l d
end_of l d lexes.Open = let p = gap_end l d in (32 ∷ p.0, run-opening_space l d p.0 ∙ p.1)
end_of l d lexes.Word = (32 ∷ closers d, run-letters l d [] 32 (closers d) tt refl ∙ onward-closers l d)
end_of l d (lexes.Number n) = (32 ∷ closers d, run-number l d n 32 (closers d) refl ∙ onward-closers l d)
end_of l d (lexes.Tail k) =
    let p = some_string k in
    (p.0 ++ (32 ∷ closers d), ap (λ n. run l (p.0 ++ (32 ∷ closers d)) (at d (lexes.Tail n))) (sym p.1) ∙ run-string l d p.0 32 (closers d) refl ∙ onward-closers l d)

-- an unfinished scan goes on from where it is
pub run-append : (l : Limits) (a b : List ℕ) (s t : Scan) → run l a s ≡ unfinished t → run l (a ++ b) s ≡ run l b t
unfolding run
run-append l [] b s t h = let same : s ≡ t = cc in ap (run l b) same
run-append l (x ∷ xs) b s t h = go (λ u e. run-append l xs b u t e) (step l s x) h
  where
    go : ((u : Scan) → run l xs u ≡ unfinished t → run l (xs ++ b) u ≡ run l b t) → (st : Step) → outcome_of (run l xs) st x xs ≡ unfinished t → outcome_of (run l (xs ++ b)) st x (xs ++ b) ≡ run l b t
    go again (steps.On u) h = again u h
    go again steps.Whole h = let never : ⊥ = cc in absurd never
    go again (steps.Bad e) h = let never : ⊥ = cc in absurd never
