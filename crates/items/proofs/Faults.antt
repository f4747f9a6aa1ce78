-- A fault is one, and it stays.
use Rattle.std.proofs.Common.{◌≡◌, ℕ, ◌+◌, ◌-◌, ◌<◌, ◌⊎◌, inl, inr, List, [], ◌∷◌, ◌++◌, length, take, drop, refl, sym, ap, ap₂, ◌∙◌, subst, append_assoc}
use Rattle.std.proofs.{Common.{take-append-drop, take-add, length-append, length-take, arith}, lemmas.List.take-append-le}
use Rattle.items.specs.{declared.scan.Defect.Defect, declared.scan.Scan.Scan, declared.scan.Step.Step, declared.reader.ItemFault.ItemFault}
use Rattle.items.specs.{Values.{ItemValue, Limits, limits}, Stream.{IsRow, HasNoItem, Begins, IsFaulty, IsDefect}, Scan.step}
use Rattle.items.specs.{Run.{Outcome, unfinished, whole, bad, outcome_of, run, start}, Unread.Unread, Faults.fault_of}
use Rattle.items.specs.Reading.{counted, Takes, HasNone, IsWrongAt, IsFaultOf}
use Rattle.items.specs.declared.scan.Defect.TheVariants as defects
use Rattle.items.specs.declared.scan.Step.TheVariants as steps
use Rattle.items.specs.declared.reader.ItemFault.TheVariants as faults
use Rattle.items.proofs.{Ahead.First, Sound.ends_item, Flow.unfinished-begins, Defects.{stops, is_defect, one_defect, nine_fits}, Scanned.no_item}

begins-front : (l : Limits) (a b : List ℕ) → Begins l (a ++ b) → Begins l a
begins-front l a b h =
    let P : List ℕ → Type 0 = λ x. IsRow l h.items x in
    record { items = h.items; rest = b ++ h.rest; row = subst P (append_assoc a b h.rest) h.row }

pub begins-take : (l : Limits) (n : ℕ) (stream : List ℕ) → Begins l stream → Begins l (take n stream)
begins-take l n stream h =
    let P : List ℕ → Type 0 = λ x. Begins l x in
    begins-front l (take n stream) (drop n stream) (subst P (sym (take-append-drop n stream)) h)

-- what begins a row doesn't do so with fewer bytes only
not_before : (n k : ℕ) (stream : List ℕ) → IsFaulty n stream → IsFaulty k stream → n < k → ⊥
not_before n k stream f g h =
    let P : List ℕ → Type 0 = λ x. Begins limits x in
    let more : k ≡ (n + 1) + (k - (n + 1)) = omega arith in
    let same : take k stream ≡ take (n + 1) stream ++ take (k - (n + 1)) (drop (n + 1) stream) = ap (λ i. take i stream) more ∙ take-add (n + 1) (k - (n + 1)) stream in
    f.bad (begins-front limits (take (n + 1) stream) (take (k - (n + 1)) (drop (n + 1) stream)) (subst P same g.good))

pub one_place : (n k : ℕ) (stream : List ℕ) → IsFaulty n stream → IsFaulty k stream → n ≡ k
one_place n k stream f g =
    let before : n < k → ⊥ = not_before n k stream f g in
    let behind : k < n → ⊥ = not_before k n stream g f in
    omega arith

pub some_kind : (n : ℕ) (stream : List ℕ) → IsFaulty n stream → (d : Defect) × IsDefect d n stream
some_kind n stream f = let s = stops n stream f in (s.0, is_defect n stream s.0 s.1)

pub one_kind : (n : ℕ) (stream : List ℕ) (d e : Defect) → IsFaulty n stream → IsDefect d n stream → IsDefect e n stream → d ≡ e
one_kind n stream d e f h k = let s = stops n stream f in one_defect n stream s.0 d s.1 h ∙ sym (one_defect n stream s.0 e s.1 k)

pub fault_within : (n : ℕ) (stream : List ℕ) → IsFaulty n stream → n < length stream
fault_within n stream f =
    let s = (stops n stream f).1 in
    let e = ap length s.next in
    omega (arith, e, length-append (take n stream) (s.byte ∷ []), length-take n stream, length-take (n + 1) stream)

same_defect : (d : Defect) (n m : ℕ) (stream other : List ℕ) → take (n + 1) stream ≡ take (m + 1) other → IsDefect d n stream → IsDefect d m other
same_defect defects.Malformed n m stream other e h = λ l b. (let P : List ℕ → Type 0 = λ x. Begins l x in h l (subst P (sym e) b))
same_defect defects.TooDeep n m stream other e h = (h.0, h.1, let P : List ℕ → Type 0 = λ x. Begins h.0 x in subst P e h.2)
same_defect defects.StringTooLong n m stream other e h = (h.0, h.1, let P : List ℕ → Type 0 = λ x. Begins h.0 x in subst P e h.2)
same_defect defects.NumberTooLarge n m stream other e h = (h.0, h.1, let P : List ℕ → Type 0 = λ x. Begins h.0 x in subst P e h.2)

pub stays : (n : ℕ) (stream added : List ℕ) (d : Defect) → IsFaulty n stream → IsDefect d n stream → IsFaulty n (stream ++ added) × IsDefect d n (stream ++ added)
stays n stream added d f h =
    let within : n < length stream = fault_within n stream f in
    let good : take n stream ≡ take n (stream ++ added) = sym (take-append-le n stream added (omega arith)) in
    let bad : take (n + 1) stream ≡ take (n + 1) (stream ++ added) = sym (take-append-le (n + 1) stream added (omega arith)) in
    let P : List ℕ → Type 0 = λ x. Begins limits x in
    (record { good = subst P good f.good; bad = λ b. f.bad (subst P (sym bad) b) }, same_defect d n n stream (stream ++ added) bad h)

run-bad : (a b rest : List ℕ) (s : Scan) (d : Defect) → run limits a s ≡ bad d rest → run limits (a ++ b) s ≡ bad d (rest ++ b)
unfolding run
run-bad [] b rest s d h = let never : ⊥ = cc in absurd never
run-bad (x ∷ xs) b rest s d h = go (λ u e. run-bad xs b rest u d e) (step limits s x) h
  where
    go : ((u : Scan) → run limits xs u ≡ bad d rest → run limits (xs ++ b) u ≡ bad d (rest ++ b)) → (st : Step) → outcome_of (run limits xs) st x xs ≡ bad d rest → outcome_of (run limits (xs ++ b)) st x (xs ++ b) ≡ bad d (rest ++ b)
    go again (steps.On u) h = again u h
    go again steps.Whole h = let never : ⊥ = cc in absurd never
    go again (steps.Bad e) h =
        let kind : e ≡ d = cc h in
        let left : x ∷ xs ≡ rest = cc h in
        ap₂ (λ k r. bad k (r ++ b)) kind left

still_no_item : (n : ℕ) (rest added : List ℕ) → IsFaulty n rest → HasNoItem rest → HasNoItem (rest ++ added)
still_no_item n rest added f h = go (run limits rest start) refl
  where
    go : (o : Outcome) → run limits rest start ≡ o → HasNoItem (rest ++ added)
    go (unfinished t) e = absurd (f.bad (begins-take limits (n + 1) rest (unfinished-begins limits nine_fits rest t e)))
    go (whole r) e =
        let i : First (λ x. x ≡ r) limits rest = ends_item limits nine_fits rest r e in
        absurd (h i.item i.front i.rest (record { spelled = i.spelled; within = i.within }) i.whole)
    go (bad d r) e =
        let ends : run limits (rest ++ added) start ≡ bad d (r ++ added) = run-bad rest added r start d e in
        no_item (rest ++ added) (λ x w. let never : ⊥ = cc (ends, w) in never)

still_wrong : (d : Defect) (old : Unread) (added : List ℕ) (place : ℕ) → IsWrongAt d old place → IsWrongAt d (record old { rest = old.rest ++ added }) place
still_wrong d old added place w =
    let s = stays w.count old.rest added d w.faulty w.kind in
    record { no_item = still_no_item w.count old.rest added w.faulty w.no_item; count = w.count; faulty = s.0; kind = s.1; is_place = w.is_place }

pub answered_again : (old : Unread) (added : List ℕ) (e : ItemFault) → IsFaultOf old e → IsFaultOf (record old { rest = old.rest ++ added }) e
answered_again old added (faults.Malformed place) h = still_wrong defects.Malformed old added place h
answered_again old added (faults.TooDeep place) h = still_wrong defects.TooDeep old added place h
answered_again old added (faults.StringTooLong place) h = still_wrong defects.StringTooLong old added place h
answered_again old added (faults.NumberTooLarge place) h = still_wrong defects.NumberTooLarge old added place h
answered_again old added faults.NoMemory h = tt

-- a fault is want of memory, or says what is wrong where
data Says (old : Unread) (e : ItemFault) : Type 0 where
  nothing : e ≡ faults.NoMemory → Says old e
  wrong : (d : Defect) (place : ℕ) → e ≡ fault_of d place → IsWrongAt d old place → Says old e

says : (old : Unread) (e : ItemFault) → IsFaultOf old e → Says old e
says old (faults.Malformed place) h = Says.wrong defects.Malformed place refl h
says old (faults.TooDeep place) h = Says.wrong defects.TooDeep place refl h
says old (faults.StringTooLong place) h = Says.wrong defects.StringTooLong place refl h
says old (faults.NumberTooLarge place) h = Says.wrong defects.NumberTooLarge place refl h
says old faults.NoMemory h = Says.nothing refl

pub one_answer : (old : Unread) (e f : ItemFault) → IsFaultOf old e → IsFaultOf old f → (e ≡ f) ⊎ (e ≡ faults.NoMemory) ⊎ (f ≡ faults.NoMemory)
one_answer old e f h k = go (says old e h) (says old f k)
  where
    go : Says old e → Says old f → (e ≡ f) ⊎ (e ≡ faults.NoMemory) ⊎ (f ≡ faults.NoMemory)
    go (Says.nothing z) s = inr (inl z)
    go s (Says.nothing z) = inr (inr z)
    go (Says.wrong d p x v) (Says.wrong c q y w) =
        let at : v.count ≡ w.count = one_place v.count w.count old.rest v.faulty w.faulty in
        let P : ℕ → Type 0 = λ n. IsDefect c n old.rest in
        let kind : d ≡ c = one_kind v.count old.rest d c v.faulty v.kind (subst P (sym at) w.kind) in
        let place : p ≡ q = v.is_place ∙ ap (λ n. counted (old.place + n)) at ∙ sym w.is_place in
        inl (x ∙ ap₂ fault_of kind place ∙ sym y)

pub no_item_there : (old new : Unread) (t : ItemValue) (e : ItemFault) → Takes old t new → IsFaultOf old e → e ≡ faults.NoMemory
no_item_there old new t e i h = go (says old e h)
  where
    go : Says old e → e ≡ faults.NoMemory
    go (Says.nothing z) = z
    go (Says.wrong d p x w) = absurd (w.no_item t i.front new.rest i.is_item i.whole)

pub not_none_there : (old : Unread) (e : ItemFault) → HasNone old → IsFaultOf old e → e ≡ faults.NoMemory
not_none_there old e n h = go (says old e h)
  where
    go : Says old e → e ≡ faults.NoMemory
    go (Says.nothing z) = z
    go (Says.wrong d p x w) = absurd (w.faulty.bad (begins-take limits (w.count + 1) old.rest n.begins))
