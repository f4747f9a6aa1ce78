-- The scanner over a whole stream, item after item.
use Rattle.std.proofs.Common.{◌≡◌, ℕ, zero, suc, ◌≤◌, ◌<◌, List, [], ◌∷◌, ◌++◌, length, refl, sym, ap, ◌∙◌, subst, append_assoc, append-nil, length-append}
use Rattle.std.proofs.Common.{arith}
use Rattle.items.specs.{declared.scan.Defect.Defect, declared.scan.Scan.Scan, declared.scan.Step.Step}
use Rattle.items.specs.{Values.{ItemValue, ItemValues, none, more, Limits, IsWithin, AreWithin}, Spelling.{Spaced, IsBody, AreSpelled}, Stream.{IsRow, Begins}}
use Rattle.items.specs.{Scan.step, Run.{Outcome, unfinished, whole, bad, outcome_of, run, start}}
use Rattle.items.specs.declared.scan.Step.TheVariants as steps
use Rattle.items.proofs.{Complete.run-item, Ahead.First, Sound.ends_item, Completed.{end_of, run-append}}

pub data Flow : Type 0 where
  going : Scan → Flow
  stopped : Defect → Flow

abbrev pub flow_of : (Scan → Flow) → Step → Flow
flow_of go (steps.On s) = go s
flow_of go steps.Whole = go start
flow_of go (steps.Bad d) = stopped d

unfoldable pub flow : Limits → List ℕ → Scan → Flow
flow l [] s = going s
flow l (b ∷ bs) s = flow_of (flow l bs) (step l s b)

-- what the scanner of one item says of the stream
abbrev pub Tells : Limits → Flow → Outcome → Type 0
Tells l f (unfinished t) = f ≡ going t
Tells l f (whole rest) = f ≡ flow l rest start
Tells l f (bad d rest) = f ≡ stopped d

pub told : (l : Limits) (bytes : List ℕ) (s : Scan) → Tells l (flow l bytes s) (run l bytes s)
unfolding run flow
told l [] s = refl
told l (b ∷ bs) s = go (told l bs) (step l s b)
  where
    go : ((t : Scan) → Tells l (flow l bs t) (run l bs t)) → (st : Step) → Tells l (flow_of (flow l bs) st) (outcome_of (run l bs) st b bs)
    go again (steps.On t) = again t
    go again steps.Whole = refl
    go again (steps.Bad d) = refl

pub flow-append : (l : Limits) (a b : List ℕ) (s t : Scan) → flow l a s ≡ going t → flow l (a ++ b) s ≡ flow l b t
unfolding flow
flow-append l [] b s t h = let same : s ≡ t = cc in ap (flow l b) same
flow-append l (x ∷ xs) b s t h = go (λ u e. flow-append l xs b u t e) (step l s x) h
  where
    go : ((u : Scan) → flow l xs u ≡ going t → flow l (xs ++ b) u ≡ flow l b t) → (st : Step) → flow_of (flow l xs) st ≡ going t → flow_of (flow l (xs ++ b)) st ≡ flow l b t
    go again (steps.On u) h = again u h
    go again steps.Whole h = again start h
    go again (steps.Bad e) h = let never : ⊥ = cc in absurd never

-- and the front of what goes on goes on
pub flow-front : (l : Limits) (a b : List ℕ) (s t : Scan) → flow l (a ++ b) s ≡ going t → (u : Scan) × (flow l a s ≡ going u)
unfolding flow
flow-front l [] b s t h = (s, refl)
flow-front l (x ∷ xs) b s t h = go (λ u e. flow-front l xs b u t e) (step l s x) h
  where
    go : ((u : Scan) → flow l (xs ++ b) u ≡ going t → (v : Scan) × (flow l xs u ≡ going v)) → (st : Step) → flow_of (flow l (xs ++ b)) st ≡ going t → (v : Scan) × (flow_of (flow l xs) st ≡ going v)
    go again (steps.On u) h = again u h
    go again steps.Whole h = again start h
    go again (steps.Bad e) h = let never : ⊥ = cc in absurd never

flow-item : (l : Limits) (t : ItemValue) (bytes rest : List ℕ) → Spaced (λ body. IsBody t body) bytes → IsWithin l 0 t → flow l (bytes ++ rest) start ≡ flow l rest start
flow-item l t bytes rest p w =
    let e : run l (bytes ++ rest) start ≡ whole rest = run-item l t bytes rest p w in
    subst (Tells l (flow l (bytes ++ rest) start)) e (told l (bytes ++ rest) start)

pub flow-row : (l : Limits) (ts : ItemValues) (bytes : List ℕ) → AreSpelled ts bytes → AreWithin l 0 ts → flow l bytes start ≡ going start
unfolding flow
flow-row l none bytes e w = ap (λ x. flow l x start) e
flow-row l (more t ts) bytes j w = ap (λ x. flow l x start) j.whole ∙ flow-item l t j.front j.rest j.first w.0 ∙ flow-row l ts j.rest j.others w.1

-- what begins a row goes on
pub begins-flow : (l : Limits) (bytes : List ℕ) → Begins l bytes → (s : Scan) × (flow l bytes start ≡ going s)
begins-flow l bytes b = flow-front l bytes b.rest start start (flow-row l b.items (bytes ++ b.rest) b.row.spelled b.row.within)

row_of_one : (l : Limits) (t : ItemValue) (bytes : List ℕ) → Spaced (λ body. IsBody t body) bytes → IsWithin l 0 t → IsRow l (more t none) bytes
row_of_one l t bytes p w = record { spelled = record { front = bytes; rest = []; first = p; others = refl; whole = sym (append-nil bytes) }; within = (w, tt) }

row_more : (l : Limits) (t : ItemValue) (ts : ItemValues) (front rest : List ℕ) → Spaced (λ body. IsBody t body) front → IsWithin l 0 t → IsRow l ts rest → IsRow l (more t ts) (front ++ rest)
row_more l t ts front rest p w r = record { spelled = record { front = front; rest = rest; first = p; others = r.spelled; whole = refl }; within = (w, r.within) }

pub unfinished-begins : (l : Limits) → 9 ≤ l.number → (bytes : List ℕ) (t : Scan) → run l bytes start ≡ unfinished t → Begins l bytes
unfinished-begins l nine bytes t h =
    let c = end_of l t.depth t.lex in
    let f : First (λ x. x ≡ []) l (bytes ++ c.0) = ends_item l nine (bytes ++ c.0) [] (run-append l bytes c.0 start t h ∙ c.1) in
    let same : f.front ≡ bytes ++ c.0 = sym (append-nil f.front) ∙ ap (λ x. f.front ++ x) (sym f.goes) ∙ sym f.whole in
    let P : List ℕ → Type 0 = λ x. IsRow l (more f.item none) x in
    record { items = more f.item none; rest = c.0; row = subst P same (row_of_one l f.item f.front f.spelled f.within) }

spaced-length : (Body : List ℕ → Type 0) (bytes : List ℕ) → Spaced Body bytes → 0 < length bytes
spaced-length Body bytes p =
    let e : length bytes ≡ length (p.gap ++ (p.body ++ (p.last ∷ []))) = ap length p.whole in
    omega (arith, e, length-append p.gap (p.body ++ (p.last ∷ [])), length-append p.body (p.last ∷ []))

begins-behind : (l : Limits) (bytes rest : List ℕ) → First (λ x. x ≡ rest) l bytes → Begins l rest → Begins l bytes
begins-behind l bytes rest f b =
    let row : IsRow l (more f.item b.items) (f.front ++ (rest ++ b.rest)) = row_more l f.item b.items f.front (rest ++ b.rest) f.spelled f.within b.row in
    let same : f.front ++ (rest ++ b.rest) ≡ bytes ++ b.rest = sym (append_assoc f.front rest b.rest) ∙ ap (λ x. x ++ b.rest) (ap (λ x. f.front ++ x) (sym f.goes) ∙ sym f.whole) in
    let P : List ℕ → Type 0 = λ x. IsRow l (more f.item b.items) x in
    record { items = more f.item b.items; rest = b.rest; row = subst P same row }

first-shorter : (l : Limits) (bytes rest : List ℕ) → First (λ x. x ≡ rest) l bytes → length rest < length bytes
first-shorter l bytes rest f =
    omega (arith, spaced-length (λ body. IsBody f.item body) f.front f.spelled, ap length f.whole, length-append f.front f.rest, ap length f.goes)

-- what goes on begins a row
flow-begins_within : (l : Limits) → 9 ≤ l.number → (n : ℕ) (bytes : List ℕ) (s : Scan) → length bytes < n → flow l bytes start ≡ going s → Begins l bytes
flow-begins_within l nine zero bytes s le h = let never : ⊥ = omega arith in absurd never
flow-begins_within l nine (suc n) bytes s le h = go (λ rest le e. flow-begins_within l nine n rest s le e) (run l bytes start) refl
  where
    go : ((rest : List ℕ) → length rest < n → flow l rest start ≡ going s → Begins l rest) → (o : Outcome) → run l bytes start ≡ o → Begins l bytes
    go again (unfinished t) e = unfinished-begins l nine bytes t e
    go again (whole rest) e =
        let same : flow l bytes start ≡ flow l rest start = subst (Tells l (flow l bytes start)) e (told l bytes start) in
        let f : First (λ x. x ≡ rest) l bytes = ends_item l nine bytes rest e in
        begins-behind l bytes rest f (again rest (omega (arith, first-shorter l bytes rest f)) (sym same ∙ h))
    go again (bad d rest) e =
        let same : flow l bytes start ≡ stopped d = subst (Tells l (flow l bytes start)) e (told l bytes start) in
        let never : ⊥ = cc (same, h) in absurd never

pub flow-begins : (l : Limits) → 9 ≤ l.number → (bytes : List ℕ) (s : Scan) → flow l bytes start ≡ going s → Begins l bytes
flow-begins l nine bytes s h = flow-begins_within l nine (suc (length bytes)) bytes s (omega arith) h
