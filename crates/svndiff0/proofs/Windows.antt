-- A window, part by part.
use Rattle.std.proofs.Common.{◌≡◌, ◌≢◌, ◌⊎◌, inl, inr, ℕ, ◌+◌, ◌-◌, ◌≤◌, ◌<◌, true, false, cond, nat_lt, ◌==◌, ◌&&◌, List, length, take, drop, None, Result, Ok}
use Rattle.std.proofs.{Common.{Err, refl, sym, ◌∙◌, ap, length-take, length-drop, arith}, lemmas.Bool.Decides.nat_tests, lemmas.List.{take-take, drop-take}}
use Rattle.svndiff0.specs.{declared.fault.DiffFault.DiffFault, declared.fault.DiffFault.TheVariants.{ViewBeyondBase, LengthsDisagree}}
use Rattle.svndiff0.specs.{declared.instruction.Instruction.Instruction, declared.section.Sums.Sums, declared.window.Head.Head, Read.{Read, ◌>>=◌}}
use Rattle.svndiff0.specs.{Instruction.{instructions_of, total, new_total, target_of}, Window.{limit, head_at, judged, and_rest, body_at, window_at}}
use Rattle.svndiff0.specs.Sums.{summed, sums_of, HasBounds}

pub window_by_head : (base bytes : List ℕ) (n m : ℕ) → n ≡ m → (v : Read Head) → head_at n bytes ≡ v → window_at base m bytes ≡ (v >>= λ head. body_at base head.0 head.1)
unfolding window_at
window_by_head base bytes n m t v e =
    ap (λ k. head_at k bytes >>= λ head. body_at base head.0 head.1) (sym t) ∙ ap (λ w. w >>= λ head. body_at base head.0 head.1) e

pub body_beyond : (base : List ℕ) (head : Head) (rest : List ℕ) → length base < head.offset + head.view → body_at base head rest ≡ Err ViewBeyondBase
unfolding body_at
body_beyond base head rest h =
    let e : nat_lt (length base) (head.offset + head.view) ≡ true = grind (arith, nat_tests) in rw e refl

pub body_short : (base : List ℕ) (head : Head) (rest : List ℕ) → head.offset + head.view ≤ length base → length rest < head.section + head.new_data → body_at base head rest ≡ Ok None
unfolding body_at
body_short base head rest h k =
    let e : nat_lt (length base) (head.offset + head.view) ≡ false = grind (arith, nat_tests) in
    let f : nat_lt (length rest) (head.section + head.new_data) ≡ true = grind (arith, nat_tests) in
    rw (e, f) refl

-- the window's bytes are there
pub record IsWhole (base : List ℕ) (head : Head) (rest : List ℕ) : Type 0 where
  pub within : head.offset + head.view ≤ length base
  pub there : head.section + head.new_data ≤ length rest

pub body_whole : (base : List ℕ) (head : Head) (rest view section fresh : List ℕ) → IsWhole base head rest
    → view ≡ take head.view (drop head.offset base) → section ≡ take head.section (take (head.section + head.new_data) rest) → fresh ≡ drop head.section (take (head.section + head.new_data) rest)
    → (r : Result (List Instruction) DiffFault) → instructions_of head.view section ≡ r
    → body_at base head rest ≡ and_rest (judged head view fresh r) (drop (head.section + head.new_data) rest)
unfolding body_at
body_whole base head rest view section fresh w v s n r e =
    let within : head.offset + head.view ≤ length base = w.within in
    let there : head.section + head.new_data ≤ length rest = w.there in
    let a : nat_lt (length base) (head.offset + head.view) ≡ false = grind (arith, nat_tests) in
    let b : nat_lt (length rest) (head.section + head.new_data) ≡ false = grind (arith, nat_tests) in
    let k : head.section ≤ head.section + head.new_data = omega arith in
    let s' : section ≡ take head.section rest = s ∙ take-take head.section (head.section + head.new_data) rest k in
    let n' : fresh ≡ take head.new_data (drop head.section rest) = n ∙ drop-take head.section head.new_data rest in
    rw (a, b, ← v, ← n', ← s', e) refl

pub disagree : (head : Head) (view fresh : List ℕ) (is : List Instruction) (sums : Sums) → HasBounds head → length fresh ≡ head.new_data → sums ≡ sums_of is
    → (sums.all ≢ head.target) ⊎ (sums.new_data ≢ head.new_data) → judged head view fresh (Ok is) ≡ Err LengthsDisagree
disagree head view fresh is sums b n s (inl h) =
    let t : head.target ≤ limit = b.target in
    let all : sums.all ≡ summed (total is) = ap (λ (x : Sums). x.all) s in
    let ne : total is ≢ head.target = λ e. h (omega arith) in
    let test : (total is == head.target) ≡ false = grind (arith, nat_tests) in
    rw test refl
disagree head view fresh is sums b n s (inr h) =
    let t : head.new_data ≤ limit = b.new_data in
    let all : sums.new_data ≡ summed (new_total is) = ap (λ (x : Sums). x.new_data) s in
    let ne : new_total is ≢ length fresh = λ e. h (omega arith) in
    let test : (new_total is == length fresh) ≡ false = grind (arith, nat_tests) in
    rw test (elim (total is == head.target) as (λ v. cond (v && false) (Ok (target_of view fresh is)) (Err LengthsDisagree) ≡ Err LengthsDisagree) [ true ↦ refl | false ↦ refl ])

pub agree : (head : Head) (view fresh : List ℕ) (is : List Instruction) (sums : Sums) → HasBounds head → length fresh ≡ head.new_data → sums ≡ sums_of is
    → sums.all ≡ head.target → sums.new_data ≡ head.new_data → judged head view fresh (Ok is) ≡ Ok (target_of view fresh is)
agree head view fresh is sums b n s h k =
    let t : head.target ≤ limit = b.target in
    let u : head.new_data ≤ limit = b.new_data in
    let all : sums.all ≡ summed (total is) = ap (λ (x : Sums). x.all) s in
    let new : sums.new_data ≡ summed (new_total is) = ap (λ (x : Sums). x.new_data) s in
    let same : total is ≡ head.target = omega arith in
    let same' : new_total is ≡ length fresh = omega arith in
    let test : (total is == head.target) ≡ true = grind (arith, nat_tests) in
    let test' : (new_total is == length fresh) ≡ true = grind (arith, nat_tests) in
    rw (test, test') refl

pub part_is : (base : List ℕ) (o n : ℕ) → take (o + n - o) (drop o base) ≡ take n (drop o base)
part_is base o n = let e : o + n - o ≡ n = omega arith in ap (λ k. take k (drop o base)) e

pub part_len : (base : List ℕ) (o n : ℕ) → o + n ≤ length base → length (take n (drop o base)) ≡ n
part_len base o n h = omega (arith, length-take n (drop o base), length-drop o base)
