-- Where a stream is faulty, and what is wrong there.
use Rattle.std.proofs.Common.{◌≡◌, ℕ, zero, suc, ◌+◌, ◌≤◌, ◌<◌, ◌⊎◌, inl, inr, Bool, true, false, cond, nat_le, nat_lt, List, [], ◌∷◌, ◌++◌, take, refl, sym}
use Rattle.std.proofs.{Common.{ap, ◌∙◌, subst, le_refl, le_trans, le-add_right, le-add_left, lit≤, arith}, lemmas.Bool.Decides.nat_tests}
use Rattle.items.specs.{declared.scan.Defect.Defect, declared.scan.Scan.Scan, declared.scan.Step.Step, Values.{Limits, limits}}
use Rattle.items.specs.{Stream.{Begins, IsFaulty, IsDefect}, Scan.{step, step_in}, Run.start}
use Rattle.items.specs.declared.scan.Defect.TheVariants as defects
use Rattle.items.specs.declared.scan.Step.TheVariants as steps
use Rattle.items.proofs.{Shapes.{Shape, shape}, Flow.{going, stopped, flow_of, flow, flow-append, flow-front, begins-flow, flow-begins}}

-- the scan comes to a byte that is wrong
pub record Stops (n : ℕ) (stream : List ℕ) (d : Defect) : Type 0 where
  pub scan : Scan
  pub byte : ℕ
  pub reached : flow limits (take n stream) start ≡ going scan
  pub next : take (n + 1) stream ≡ take n stream ++ (byte ∷ [])
  pub wrong : step limits scan byte ≡ steps.Bad d

-- no limit of the one is over the other's
record IsUpTo (l m : Limits) : Type 0 where
  depth : l.depth ≤ m.depth
  number : l.number ≤ m.number
  string : l.string ≤ m.string

lt-test : (k n : ℕ) → k < n → nat_lt k n ≡ true
lt-test k n h = grind (arith, nat_tests)

le-test : (k n : ℕ) → k ≤ n → nat_le k n ≡ true
le-test k n h = grind (arith, nat_tests)

step-lift : (l m : Limits) (s : Scan) (b : ℕ) (t : Step) → IsUpTo l m → step l s b ≡ t → ((d : Defect) → t ≡ steps.Bad d → ⊥) → step m s b ≡ t
step-lift l m s b t u e good = go (shape s.depth s.lex b)
  where
    bool : (v : Bool) → (v ≡ true → step m s b ≡ t) → (v ≡ false → step m s b ≡ t) → step m s b ≡ t
    bool true f g = f refl
    bool false f g = g refl

    go : Shape (λ l. step_in l s.depth s.lex b) → step m s b ≡ t
    go (Shape.goes v f) = f m ∙ sym (f l) ∙ e
    go (Shape.ends f) = f m ∙ sym (f l) ∙ e
    go (Shape.wrong f) = f m ∙ sym (f l) ∙ e
    go (Shape.deepens v k f) =
        bool (nat_lt k l.depth) (λ h. f m ∙ ap (λ x. cond x (steps.On v) (steps.Bad defects.TooDeep)) (lt-test k m.depth (let up : l.depth ≤ m.depth = u.depth in grind (arith, nat_tests)) ∙ sym h) ∙ sym (f l) ∙ e)
        (λ h. absurd (good defects.TooDeep (sym e ∙ f l ∙ ap (λ x. cond x (steps.On v) (steps.Bad defects.TooDeep)) h)))
    go (Shape.counts v k f) =
        bool (nat_le k l.number) (λ h. f m ∙ ap (λ x. cond x (steps.On v) (steps.Bad defects.NumberTooLarge)) (le-test k m.number (let up : l.number ≤ m.number = u.number in grind (arith, nat_tests)) ∙ sym h) ∙ sym (f l) ∙ e)
        (λ h. absurd (good defects.NumberTooLarge (sym e ∙ f l ∙ ap (λ x. cond x (steps.On v) (steps.Bad defects.NumberTooLarge)) h)))
    go (Shape.holds v k f) =
        bool (nat_le k l.string) (λ h. f m ∙ ap (λ x. cond x (steps.On v) (steps.Bad defects.StringTooLong)) (le-test k m.string (let up : l.string ≤ m.string = u.string in grind (arith, nat_tests)) ∙ sym h) ∙ sym (f l) ∙ e)
        (λ h. absurd (good defects.StringTooLong (sym e ∙ f l ∙ ap (λ x. cond x (steps.On v) (steps.Bad defects.StringTooLong)) h)))

-- what goes on under some limits goes on in the same way under wider ones
flow-lift : (l m : Limits) (bytes : List ℕ) (s t : Scan) → IsUpTo l m → flow l bytes s ≡ going t → flow m bytes s ≡ going t
unfolding flow
flow-lift l m [] s t u h = h
flow-lift l m (b ∷ bs) s t u h = go (λ v e. flow-lift l m bs v t u e) (step l s b) refl h
  where
    go : ((v : Scan) → flow l bs v ≡ going t → flow m bs v ≡ going t) → (st : Step) → step l s b ≡ st → flow_of (flow l bs) st ≡ going t → flow_of (flow m bs) (step m s b) ≡ going t
    go again (steps.On v) e h = ap (flow_of (flow m bs)) (step-lift l m s b (steps.On v) u e (λ d x. let never : ⊥ = cc in never)) ∙ again v h
    go again steps.Whole e h = ap (flow_of (flow m bs)) (step-lift l m s b steps.Whole u e (λ d x. let never : ⊥ = cc in never)) ∙ again start h
    go again (steps.Bad d) e h = let never : ⊥ = cc h in absurd never

-- two steps that go on go on alike
step-same : (l m : Limits) (s : Scan) (b : ℕ) (t u : Step) → step l s b ≡ t → step m s b ≡ u → ((d : Defect) → t ≡ steps.Bad d → ⊥) → ((d : Defect) → u ≡ steps.Bad d → ⊥) → t ≡ u
step-same l m s b t u e g good fine = go (shape s.depth s.lex b)
  where
    one : (v : Scan) (d : Defect) (x : Bool) (w : Step) → w ≡ cond x (steps.On v) (steps.Bad d) → ((d : Defect) → w ≡ steps.Bad d → ⊥) → w ≡ steps.On v
    one v d true w h n = h
    one v d false w h n = absurd (n d h)

    go : Shape (λ l. step_in l s.depth s.lex b) → t ≡ u
    go (Shape.goes v f) = sym e ∙ f l ∙ sym (f m) ∙ g
    go (Shape.ends f) = sym e ∙ f l ∙ sym (f m) ∙ g
    go (Shape.wrong f) = sym e ∙ f l ∙ sym (f m) ∙ g
    go (Shape.deepens v k f) = one v defects.TooDeep (nat_lt k l.depth) t (sym e ∙ f l) good ∙ sym (one v defects.TooDeep (nat_lt k m.depth) u (sym g ∙ f m) fine)
    go (Shape.counts v k f) = one v defects.NumberTooLarge (nat_le k l.number) t (sym e ∙ f l) good ∙ sym (one v defects.NumberTooLarge (nat_le k m.number) u (sym g ∙ f m) fine)
    go (Shape.holds v k f) = one v defects.StringTooLong (nat_le k l.string) t (sym e ∙ f l) good ∙ sym (one v defects.StringTooLong (nat_le k m.string) u (sym g ∙ f m) fine)

flow-same : (l m : Limits) (bytes : List ℕ) (s t u : Scan) → flow l bytes s ≡ going t → flow m bytes s ≡ going u → t ≡ u
unfolding flow
flow-same l m [] s t u h k = let same : t ≡ u = cc in same
flow-same l m (b ∷ bs) s t u h k = go (λ v e f. flow-same l m bs v t u e f) (step l s b) (step m s b) refl refl h k
  where
    go : ((v : Scan) → flow l bs v ≡ going t → flow m bs v ≡ going u → t ≡ u) → (x y : Step) → step l s b ≡ x → step m s b ≡ y → flow_of (flow l bs) x ≡ going t → flow_of (flow m bs) y ≡ going u → t ≡ u
    go again (steps.Bad d) y e g h k = let never : ⊥ = cc h in absurd never
    go again x (steps.Bad d) e g h k = let never : ⊥ = cc k in absurd never
    go again (steps.On v) (steps.On w) e g h k =
        let same : steps.On v ≡ steps.On w = step-same l m s b (steps.On v) (steps.On w) e g (λ d x. let never : ⊥ = cc x in never) (λ d x. let never : ⊥ = cc x in never) in
        let is : w ≡ v = cc same in
        again v h (ap (flow m bs) (sym is) ∙ k)
    go again steps.Whole steps.Whole e g h k = again start h k
    go again (steps.On v) steps.Whole e g h k =
        let same : steps.On v ≡ steps.Whole = step-same l m s b (steps.On v) steps.Whole e g (λ d x. let never : ⊥ = cc x in never) (λ d x. let never : ⊥ = cc x in never) in
        let never : ⊥ = cc same in absurd never
    go again steps.Whole (steps.On w) e g h k =
        let same : steps.Whole ≡ steps.On w = step-same l m s b steps.Whole (steps.On w) e g (λ d x. let never : ⊥ = cc x in never) (λ d x. let never : ⊥ = cc x in never) in
        let never : ⊥ = cc same in absurd never

-- what decides that a byte is wrong
abbrev Kind : Defect → (Limits → Step) → Type 0
Kind defects.Malformed f = (m : Limits) → f m ≡ steps.Bad defects.Malformed
Kind defects.TooDeep f = (t : Scan) × (k : ℕ) × ((m : Limits) → f m ≡ cond (nat_lt k m.depth) (steps.On t) (steps.Bad defects.TooDeep))
Kind defects.StringTooLong f = (t : Scan) × (k : ℕ) × ((m : Limits) → f m ≡ cond (nat_le k m.string) (steps.On t) (steps.Bad defects.StringTooLong))
Kind defects.NumberTooLarge f = (t : Scan) × (k : ℕ) × ((m : Limits) → f m ≡ cond (nat_le k m.number) (steps.On t) (steps.Bad defects.NumberTooLarge))

kind-of : (f : Limits → Step) (l : Limits) (d : Defect) → Shape f → f l ≡ steps.Bad d → Kind d f
kind-of f l d (Shape.goes t h) e = let never : ⊥ = cc (h l, e) in absurd never
kind-of f l d (Shape.ends h) e = let never : ⊥ = cc (h l, e) in absurd never
kind-of f l d (Shape.wrong h) e =
    let is : defects.Malformed ≡ d = cc (h l, e) in
    let P : Defect → Type 0 = λ x. Kind x f in
    subst P is h
kind-of f l d (Shape.deepens t k h) e = go (nat_lt k l.depth) (sym (h l) ∙ e)
  where
    go : (v : Bool) → cond v (steps.On t) (steps.Bad defects.TooDeep) ≡ steps.Bad d → Kind d f
    go true e = let never : ⊥ = cc e in absurd never
    go false e =
        let is : defects.TooDeep ≡ d = cc e in
        let P : Defect → Type 0 = λ x. Kind x f in
        subst P is (t, k, h)
kind-of f l d (Shape.counts t k h) e = go (nat_le k l.number) (sym (h l) ∙ e)
  where
    go : (v : Bool) → cond v (steps.On t) (steps.Bad defects.NumberTooLarge) ≡ steps.Bad d → Kind d f
    go true e = let never : ⊥ = cc e in absurd never
    go false e =
        let is : defects.NumberTooLarge ≡ d = cc e in
        let P : Defect → Type 0 = λ x. Kind x f in
        subst P is (t, k, h)
kind-of f l d (Shape.holds t k h) e = go (nat_le k l.string) (sym (h l) ∙ e)
  where
    go : (v : Bool) → cond v (steps.On t) (steps.Bad defects.StringTooLong) ≡ steps.Bad d → Kind d f
    go true e = let never : ⊥ = cc e in absurd never
    go false e =
        let is : defects.StringTooLong ≡ d = cc e in
        let P : Defect → Type 0 = λ x. Kind x f in
        subst P is (t, k, h)

-- the limit that decides is the same
abbrev Keeps : Defect → Limits → Type 0
Keeps defects.Malformed m = Unit {0}
Keeps defects.TooDeep m = m.depth ≡ limits.depth
Keeps defects.StringTooLong m = m.string ≡ limits.string
Keeps defects.NumberTooLarge m = m.number ≡ limits.number

kept : (f : Limits → Step) (d : Defect) (m : Limits) → Kind d f → f limits ≡ steps.Bad d → Keeps d m → f m ≡ steps.Bad d
kept f defects.Malformed m k e s = k m
kept f defects.TooDeep m k e s = k.2 m ∙ ap (λ x. cond (nat_lt k.1 x) (steps.On k.0) (steps.Bad defects.TooDeep)) s ∙ sym (k.2 limits) ∙ e
kept f defects.StringTooLong m k e s = k.2 m ∙ ap (λ x. cond (nat_le k.1 x) (steps.On k.0) (steps.Bad defects.StringTooLong)) s ∙ sym (k.2 limits) ∙ e
kept f defects.NumberTooLarge m k e s = k.2 m ∙ ap (λ x. cond (nat_le k.1 x) (steps.On k.0) (steps.Bad defects.NumberTooLarge)) s ∙ sym (k.2 limits) ∙ e

pub nine_fits : 9 ≤ limits.number
nine_fits = lit≤ tt

flow-one : (l : Limits) (s : Scan) (b : ℕ) → flow l (b ∷ []) s ≡ flow_of (λ t. going t) (step l s b)
unfolding flow
flow-one l s b = refl

-- the scan behind one byte more
flow-next : (l : Limits) (front : List ℕ) (b : ℕ) (s : Scan) → flow l front start ≡ going s → flow l (front ++ (b ∷ [])) start ≡ flow_of (λ t. going t) (step l s b)
flow-next l front b s h = flow-append l front (b ∷ []) start s h ∙ flow-one l s b

-- under limits that let the byte pass the step goes on
passes : (n : ℕ) (stream : List ℕ) (d : Defect) (m : Limits) (s : Stops n stream d) → Begins m (take (n + 1) stream) → (e : Defect) → step m s.scan s.byte ≡ steps.Bad e → ⊥
passes n stream d m s b e wrong =
    let P : List ℕ → Type 0 = λ x. Begins m x in
    let whole = begins-flow m (take n stream ++ (s.byte ∷ [])) (subst P s.next b) in
    let front = flow-front m (take n stream) (s.byte ∷ []) start whole.0 whole.1 in
    let same : front.0 ≡ s.scan = flow-same m limits (take n stream) start front.0 s.scan front.1 s.reached in
    let here : flow m (take n stream ++ (s.byte ∷ [])) start ≡ flow_of (λ t. going t) (step m s.scan s.byte) = flow-next m (take n stream) s.byte s.scan (front.1 ∙ ap going same) in
    let stop : flow m (take n stream ++ (s.byte ∷ [])) start ≡ stopped e = here ∙ ap (flow_of (λ t. going t)) wrong in
    let never : ⊥ = cc (whole.1, stop) in never

lets : (n : ℕ) (stream : List ℕ) (d : Defect) (m : Limits) → 9 ≤ m.number → IsUpTo limits m → (s : Stops n stream d) (t : Scan) → step m s.scan s.byte ≡ steps.On t → Begins m (take (n + 1) stream)
lets n stream d m nine up s t e =
    let front : flow m (take n stream) start ≡ going s.scan = flow-lift limits m (take n stream) start s.scan up s.reached in
    let whole : flow m (take n stream ++ (s.byte ∷ [])) start ≡ going t = flow-next m (take n stream) s.byte s.scan front ∙ ap (flow_of (λ t. going t)) e in
    let P : List ℕ → Type 0 = λ x. Begins m x in
    subst P (sym s.next) (flow-begins m nine (take n stream ++ (s.byte ∷ [])) t whole)

-- the stream is faulty there
pub is_faulty : (n : ℕ) (stream : List ℕ) (d : Defect) → Stops n stream d → IsFaulty n stream
is_faulty n stream d s = record { good = flow-begins limits nine_fits (take n stream) s.scan s.reached; bad = λ b. passes n stream d limits s b d s.wrong }

-- and so it is wrong there
pub is_defect : (n : ℕ) (stream : List ℕ) (d : Defect) → Stops n stream d → IsDefect d n stream
is_defect n stream defects.Malformed s = λ m b. passes n stream defects.Malformed m s b defects.Malformed (kind-of (λ l. step l s.scan s.byte) limits defects.Malformed (shape s.scan.depth s.scan.lex s.byte) s.wrong m)
is_defect n stream defects.TooDeep s =
    let k = kind-of (λ l. step l s.scan s.byte) limits defects.TooDeep (shape s.scan.depth s.scan.lex s.byte) s.wrong in
    let m : Limits = record { depth = limits.depth + suc k.1; number = limits.number; string = limits.string } in
    let up : IsUpTo limits m = record { depth = omega arith; number = le_refl limits.number; string = le_refl limits.string } in
    let past : k.1 < limits.depth + suc k.1 = omega arith in
    (m, (refl, refl), lets n stream defects.TooDeep m nine_fits up s k.0 (k.2 m ∙ ap (λ x. cond x (steps.On k.0) (steps.Bad defects.TooDeep)) (lt-test k.1 (limits.depth + suc k.1) past)))
is_defect n stream defects.StringTooLong s =
    let k = kind-of (λ l. step l s.scan s.byte) limits defects.StringTooLong (shape s.scan.depth s.scan.lex s.byte) s.wrong in
    let m : Limits = record { depth = limits.depth; number = limits.number; string = limits.string + k.1 } in
    let up : IsUpTo limits m = record { depth = le_refl limits.depth; number = le_refl limits.number; string = le-add_right limits.string k.1 } in
    (m, (refl, refl), lets n stream defects.StringTooLong m nine_fits up s k.0 (k.2 m ∙ ap (λ x. cond x (steps.On k.0) (steps.Bad defects.StringTooLong)) (le-test k.1 (limits.string + k.1) (le-add_left k.1 limits.string))))
is_defect n stream defects.NumberTooLarge s =
    let k = kind-of (λ l. step l s.scan s.byte) limits defects.NumberTooLarge (shape s.scan.depth s.scan.lex s.byte) s.wrong in
    let m : Limits = record { depth = limits.depth; number = limits.number + k.1; string = limits.string } in
    let up : IsUpTo limits m = record { depth = le_refl limits.depth; number = le-add_right limits.number k.1; string = le_refl limits.string } in
    (m, (refl, refl), lets n stream defects.NumberTooLarge m (le_trans nine_fits (le-add_right limits.number k.1)) up s k.0 (k.2 m ∙ ap (λ x. cond x (steps.On k.0) (steps.Bad defects.NumberTooLarge)) (le-test k.1 (limits.number + k.1) (le-add_left k.1 limits.number))))

-- nothing else is
pub one_defect : (n : ℕ) (stream : List ℕ) (d e : Defect) → Stops n stream d → IsDefect e n stream → e ≡ d
one_defect n stream d e s h = go d e s h
  where
    stays : (d : Defect) (m : Limits) → Stops n stream d → Begins m (take (n + 1) stream) → Keeps d m → ⊥
    stays d m s b keeps = passes n stream d m s b d (kept (λ l. step l s.scan s.byte) d m (kind-of (λ l. step l s.scan s.byte) limits d (shape s.scan.depth s.scan.lex s.byte) s.wrong) s.wrong keeps)

    go : (d e : Defect) → Stops n stream d → IsDefect e n stream → e ≡ d
    go defects.Malformed defects.Malformed s h = refl
    go defects.TooDeep defects.Malformed s h = let k = is_defect n stream defects.TooDeep s in absurd (h k.0 k.2)
    go defects.StringTooLong defects.Malformed s h = let k = is_defect n stream defects.StringTooLong s in absurd (h k.0 k.2)
    go defects.NumberTooLarge defects.Malformed s h = let k = is_defect n stream defects.NumberTooLarge s in absurd (h k.0 k.2)
    go defects.Malformed defects.TooDeep s h = absurd (stays defects.Malformed h.0 s h.2 tt)
    go defects.TooDeep defects.TooDeep s h = refl
    go defects.StringTooLong defects.TooDeep s h = absurd (stays defects.StringTooLong h.0 s h.2 h.1.1)
    go defects.NumberTooLarge defects.TooDeep s h = absurd (stays defects.NumberTooLarge h.0 s h.2 h.1.0)
    go defects.Malformed defects.StringTooLong s h = absurd (stays defects.Malformed h.0 s h.2 tt)
    go defects.TooDeep defects.StringTooLong s h = absurd (stays defects.TooDeep h.0 s h.2 h.1.0)
    go defects.StringTooLong defects.StringTooLong s h = refl
    go defects.NumberTooLarge defects.StringTooLong s h = absurd (stays defects.NumberTooLarge h.0 s h.2 h.1.1)
    go defects.Malformed defects.NumberTooLarge s h = absurd (stays defects.Malformed h.0 s h.2 tt)
    go defects.TooDeep defects.NumberTooLarge s h = absurd (stays defects.TooDeep h.0 s h.2 h.1.0)
    go defects.StringTooLong defects.NumberTooLarge s h = absurd (stays defects.StringTooLong h.0 s h.2 h.1.1)
    go defects.NumberTooLarge defects.NumberTooLarge s h = refl

one_more : (n : ℕ) (xs : List ℕ) → (take (suc n) xs ≡ take n xs) ⊎ ((b : ℕ) × (take (suc n) xs ≡ take n xs ++ (b ∷ [])))
one_more zero [] = inl refl
one_more zero (x ∷ xs) = inr (x, refl)
one_more (suc n) [] = inl refl
one_more (suc n) (x ∷ xs) =
    elim (one_more n xs) [ inl e ↦ inl (ap (λ r. x ∷ r) e) | inr p ↦ inr (p.0, ap (λ r. x ∷ r) p.1) ]

-- a faulty stream stops the scan there
pub stops : (n : ℕ) (stream : List ℕ) → IsFaulty n stream → (d : Defect) × Stops n stream d
stops n stream f = go (one_more n stream)
  where
    add : suc n ≡ n + 1
    add = omega arith

    P : List ℕ → Type 0
    P x = Begins limits x

    at_step : (s : Scan) (b : ℕ) → flow limits (take n stream) start ≡ going s → take (n + 1) stream ≡ take n stream ++ (b ∷ []) → (st : Step) → step limits s b ≡ st → (d : Defect) × Stops n stream d
    at_step s b h e (steps.On t) w = absurd (f.bad (subst P (sym e) (flow-begins limits nine_fits (take n stream ++ (b ∷ [])) t (flow-next limits (take n stream) b s h ∙ ap (flow_of (λ t. going t)) w))))
    at_step s b h e steps.Whole w = absurd (f.bad (subst P (sym e) (flow-begins limits nine_fits (take n stream ++ (b ∷ [])) start (flow-next limits (take n stream) b s h ∙ ap (flow_of (λ t. going t)) w))))
    at_step s b h e (steps.Bad d) w = (d, record { scan = s; byte = b; reached = h; next = e; wrong = w })

    go : (take (suc n) stream ≡ take n stream) ⊎ ((b : ℕ) × (take (suc n) stream ≡ take n stream ++ (b ∷ []))) → (d : Defect) × Stops n stream d
    go (inl e) = absurd (f.bad (subst P (sym (sym (ap (λ k. take k stream) add) ∙ e)) f.good))
    go (inr p) =
        let s = begins-flow limits (take n stream) f.good in
        at_step s.0 p.0 s.1 (sym (ap (λ k. take k stream) add) ∙ p.1) (step limits s.0 p.0) refl
