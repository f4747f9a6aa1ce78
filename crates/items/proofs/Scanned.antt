-- What the scan of the bytes so far says of them.
use Rattle.std.proofs.Common.{◌≡◌, ℕ, zero, suc, ◌+◌, ◌-◌, ◌≤◌, ◌<◌, List, [], ◌∷◌, ◌++◌, length, take, drop, slice_index, refl, sym, ap, ◌∙◌, subst}
use Rattle.std.proofs.Common.{append-nil, take-append-drop, take_all, take-add, drop-cons, length-take-le, length-drop, le_trans, le_of_eq, lit≤, arith}
use Rattle.std.proofs.{lemmas.List.take_more, Math.Dec.eqb-suc-zero}
use Rattle.items.specs.declared.scan.Lex.TheVariants as lexes
use Rattle.items.specs.{declared.scan.Defect.Defect, declared.scan.Scan.Scan, Values.{ItemValue, limits}, Stream.{IsItem, HasNoItem}, Scan.{at, step, step_in}}
use Rattle.items.specs.{Run.{unfinished, whole, bad, outcome_of, run, start, IsScanned, Skips}, Unread.Unread, Faults.fault_of}
use Rattle.items.specs.Reading.{counted, IsWrongAt, IsFaultOf, HasNone}
use Rattle.items.specs.declared.scan.Defect.TheVariants as defects
use Rattle.items.specs.declared.scan.Step.TheVariants as steps
use Rattle.items.proofs.{Complete.run-item, Ahead.First, Sound.ends_item, Completed.run-append, Flow.{going, flow, Tells, told, unfinished-begins}}
use Rattle.items.proofs.Defects.{Stops, nine_fits, is_faulty, is_defect}

run-one : (s : Scan) (b : ℕ) (bs : List ℕ) → run limits (b ∷ bs) s ≡ outcome_of (run limits bs) (step limits s b) b bs
unfolding run
run-one s b bs = refl

run-none : (s : Scan) → run limits [] s ≡ unfinished s
unfolding run
run-none s = refl

pub none_scanned : (bytes : List ℕ) → IsScanned bytes 0 start
none_scanned bytes = record { within = omega arith; shallow = lit≤ tt; reached = run-none start }

run-tail : (d k : ℕ) (xs : List ℕ) → length xs ≤ k → run limits xs (at d (lexes.Tail k)) ≡ unfinished (at d (lexes.Tail (k - length xs)))
unfolding run step_in
run-tail d k [] le = let e : k ≡ k - 0 = omega arith in ap (λ n. unfinished (at d (lexes.Tail n))) e
run-tail d zero (x ∷ xs) le = let never : ⊥ = omega arith in absurd never
run-tail d (suc k) (x ∷ xs) le =
    let less : suc k - 1 ≡ k = omega arith in
    let e : k - length xs ≡ suc k - suc (length xs) = omega arith in
    rw (eqb-suc-zero, less) (run-tail d k xs (omega arith) ∙ ap (λ n. unfinished (at d (lexes.Tail n))) e)

pub scanned_more : (bytes : List ℕ) (n : ℕ) (s t : Scan) → IsScanned bytes n s → n < length bytes → step limits s (slice_index bytes n) ≡ steps.On t → t.depth ≤ 64 → IsScanned bytes (n + 1) t
scanned_more bytes n s t i h e shallow =
    let b : ℕ = slice_index bytes n in
    let reached : run limits (take (n + 1) bytes) start ≡ unfinished t =
    ap (λ x. run limits x start) (take_more bytes n 0 h) ∙ run-append limits (take n bytes) (b ∷ []) start s i.reached ∙ run-one s b [] ∙ ap (λ st. outcome_of (run limits []) st b []) e ∙ run-none t in
    record { within = omega arith; shallow = shallow; reached = reached }

pub scanned_skip : (bytes : List ℕ) (n : ℕ) (s t : Scan) (k : ℕ) → IsScanned bytes n s → Skips s t k (length bytes - n) → IsScanned bytes (n + k) t
scanned_skip bytes n s t k i p =
    let within : n ≤ length bytes = i.within in
    let fits : k ≤ length bytes - n = p.fits in
    let room : k ≤ length (drop n bytes) = omega (arith, length-drop n bytes) in
    let len : length (take k (drop n bytes)) ≡ k = length-take-le k (drop n bytes) room in
    let most : length (take k (drop n bytes)) ≤ p.left = omega (arith, len, p.most) in
    let reached : run limits (take (n + k) bytes) start ≡ unfinished t =
    ap (λ x. run limits x start) (take-add n k bytes)
    ∙ run-append limits (take n bytes) (take k (drop n bytes)) start s i.reached
    ∙ ap (run limits (take k (drop n bytes))) p.is_tail
    ∙ run-tail s.depth p.left (take k (drop n bytes)) most
    ∙ ap (λ x. unfinished (at s.depth (lexes.Tail (p.left - x)))) len
    ∙ ap unfinished (sym p.new) in
    let shallow : t.depth ≤ 64 = le_trans (le_of_eq (ap (λ x. x.depth) p.new)) i.shallow in
    record { within = omega arith; shallow = shallow; reached = reached }

-- the bytes up to the one that comes next, and on
front_and_byte : (bytes : List ℕ) (n : ℕ) → n < length bytes → bytes ≡ take n bytes ++ (slice_index bytes n ∷ drop (suc n) bytes)
front_and_byte bytes n h = sym (take-append-drop n bytes) ∙ ap (λ x. take n bytes ++ x) (drop-cons bytes n 0 h)

pub no_item : (bytes : List ℕ) → ((rest : List ℕ) → run limits bytes start ≡ whole rest → ⊥) → HasNoItem bytes
no_item bytes h t front rest i e = h rest (ap (λ x. run limits x start) e ∙ run-item limits t front rest i.spelled i.within)

pub no_item_in_none : HasNoItem []
no_item_in_none = no_item [] (λ rest w. let never : ⊥ = cc (run-none start, w) in never)

pub none_yet : (old : Unread) (n : ℕ) (s : Scan) → IsScanned old.rest n s → n ≡ length old.rest → HasNone old
none_yet old n s i all =
    let every : take n old.rest ≡ old.rest = take_all n old.rest (omega arith) in
    let e : run limits old.rest start ≡ unfinished s = ap (λ x. run limits x start) (sym every) ∙ i.reached in
    record { no_item = no_item old.rest (λ rest w. let never : ⊥ = cc (e, w) in never); begins = unfinished-begins limits nine_fits old.rest s e }

-- an item is whole with the byte that comes next
pub item_there : (bytes : List ℕ) (n : ℕ) (s : Scan) → IsScanned bytes n s → n < length bytes → step limits s (slice_index bytes n) ≡ steps.Whole → (t : ItemValue) × IsItem limits t (take (n + 1) bytes)
item_there bytes n s i h e =
    let b : ℕ = slice_index bytes n in
    let ends : run limits (take (n + 1) bytes) start ≡ whole [] =
    ap (λ x. run limits x start) (take_more bytes n 0 h) ∙ run-append limits (take n bytes) (b ∷ []) start s i.reached ∙ run-one s b [] ∙ ap (λ st. outcome_of (run limits []) st b []) e in
    let f : First (λ x. x ≡ []) limits (take (n + 1) bytes) = ends_item limits nine_fits (take (n + 1) bytes) [] ends in
    let same : f.front ≡ take (n + 1) bytes = sym (append-nil f.front) ∙ ap (λ x. f.front ++ x) (sym f.goes) ∙ sym f.whole in
    let P : List ℕ → Type 0 = λ x. IsItem limits f.item x in
    (f.item, subst P same (record { spelled = f.spelled; within = f.within }))

stops_there : (bytes : List ℕ) (n : ℕ) (s : Scan) (d : Defect) → IsScanned bytes n s → n < length bytes → step limits s (slice_index bytes n) ≡ steps.Bad d → Stops n bytes d
stops_there bytes n s d i h e =
    let reached : flow limits (take n bytes) start ≡ going s = subst (Tells limits (flow limits (take n bytes) start)) i.reached (told limits (take n bytes) start) in
    record { scan = s; byte = slice_index bytes n; reached = reached; next = take_more bytes n 0 h; wrong = e }

-- the byte that comes next is wrong
pub wrong_there : (old : Unread) (n : ℕ) (s : Scan) (d : Defect) → IsScanned old.rest n s → n < length old.rest → step limits s (slice_index old.rest n) ≡ steps.Bad d → IsWrongAt d old (counted (old.place + n))
wrong_there old n s d i h e =
    let b : ℕ = slice_index old.rest n in
    let rest : List ℕ = drop (suc n) old.rest in
    let stop : Stops n old.rest d = stops_there old.rest n s d i h e in
    let ends : run limits old.rest start ≡ bad d (b ∷ rest) =
    ap (λ x. run limits x start) (front_and_byte old.rest n h) ∙ run-append limits (take n old.rest) (b ∷ rest) start s i.reached ∙ run-one s b rest ∙ ap (λ st. outcome_of (run limits rest) st b rest) e in
    record { no_item = no_item old.rest (λ r w. let never : ⊥ = cc (ends, w) in never); count = n; faulty = is_faulty n old.rest d stop; kind = is_defect n old.rest d stop; is_place = refl }

pub is_fault : (old : Unread) (d : Defect) (place : ℕ) → IsWrongAt d old place → IsFaultOf old (fault_of d place)
is_fault old defects.Malformed place w = w
is_fault old defects.TooDeep place w = w
is_fault old defects.StringTooLong place w = w
is_fault old defects.NumberTooLarge place w = w
