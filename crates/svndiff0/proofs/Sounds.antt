-- What reading finds is spelled so.
use Rattle.std.proofs.Common.{◌≡◌, inl, inr, ℕ, zero, suc, ◌+◌, ◌-◌, ◌*◌, ◌≤◌, ◌<◌, Bool, true, false, cond, nat_lt, ◌==◌, ◌&&◌, List, [], ◌∷◌, ◌++◌, length}
use Rattle.std.proofs.Common.{take, drop, Option, Some, None, Result, Ok, Err, refl, sym, ◌∙◌, ap, subst, append_assoc, append-nil, length-append, length-take}
use Rattle.std.proofs.{Common.{length-drop, le_refl, arith}, lemmas.Bool.Decides.nat_tests, lemmas.Bool.eqb-true, lemmas.List.{take-append-drop, drop-drop}}
use Rattle.std.specs.List.{flat_map}
use borrow.Author.Tests.{ltb-true, ltb-false}
use Rattle.svndiff0.specs.declared.fault.DiffFault.{DiffFault}
use Rattle.svndiff0.specs.declared.fault.DiffFault.TheVariants.{TooLarge, BadInstruction, CopyBeyondView, TargetCopy, LengthsDisagree}
use Rattle.svndiff0.specs.{declared.instruction.Instruction.Instruction, declared.instruction.Instruction.TheVariants.{SourceCopy, NewData}}
use Rattle.svndiff0.specs.{declared.window.Head.Head, Read.{Read, ◌>>=◌}, Integer.{integer_behind, integer_at, bounded_at}}
use Rattle.svndiff0.specs.Instruction.{length_at, copy_at, new_data_at, instruction_at, before, with_others, instructions_of, total, new_total, target_of}
use Rattle.svndiff0.specs.{Window.{limit, head_at, judged, and_rest, body_at, window_at}, Document.{header, header_at, Reading, opening, going, broken}}
use Rattle.svndiff0.specs.Document.{with_windows, windows_of, after_header, read_document, outcome, document_text}
use Rattle.svndiff0.specs.Format.{AreGroups, IsInteger, IsLength, IsInstruction, AreInstructions, AreIntegers, IsWindow, AreWindows, IsDocument}
use Rattle.svndiff0.proofs.{Steady.same_found, Sections.{section_step, section_none, shorter, before_ok}, Stages.behind_front}
use Rattle.svndiff0.proofs.{Windows.{body_beyond, body_short}, Documents.{below, judged_at, body_is, window_shorter, windows_step}}

-- the front of the bytes is so, and the rest follows
pub record Found (P : List ℕ → Type 0) (bytes rest : List ℕ) : Type 0 where
  pub front : List ℕ
  pub is : P front
  pub whole : bytes ≡ front ++ rest

-- what was read by one reader behind another
pub then_found : {A B : Type 0} (r : Read A) (next : A × List ℕ → Read B) (y : B × List ℕ) → ◌≡◌ {A = Read B} (r >>= next) (Ok (Some y)) → (x : A × List ℕ) × (r ≡ Ok (Some x)) × (next x ≡ Ok (Some y))
then_found (Err f) next y e = cc
then_found (Ok None) next y e = cc
then_found (Ok (Some x)) next y e = (x, refl, e)

pub guard_found : {A : Type 0} (b : Bool) (f : DiffFault) (x y : A × List ℕ) → ◌≡◌ {A = Read A} (cond b (Err f) (Ok (Some x))) (Ok (Some y)) → (b ≡ false) × (x ≡ y)
guard_found true f x y e = cc
guard_found false f x y e = (refl, same_found x y e)

record Groups (room m : ℕ) (bytes rest : List ℕ) (n : ℕ) : Type 0 where
  pub front : List ℕ
  pub are : AreGroups m front n
  pub few : length front ≤ room
  pub whole : bytes ≡ front ++ rest

groups_more : (room m b : ℕ) (bs rest : List ℕ) (n : ℕ) → 128 ≤ b → Groups room (128 * m + (b - 128)) bs rest n → Groups (suc room) m (b ∷ bs) rest n
groups_more room m b bs rest n h g = more_by room m b bs rest n h g.front g.are g.few g.whole
  where
    more_by : (room m b : ℕ) (bs rest : List ℕ) (n : ℕ) → 128 ≤ b → (front : List ℕ) → AreGroups (128 * m + (b - 128)) front n → length front ≤ room → bs ≡ front ++ rest → Groups (suc room) m (b ∷ bs) rest n
    more_by room m b bs rest n h [] a l w = absurd a
    more_by room m b bs rest n h (c ∷ cs) a l w = record { front = b ∷ c ∷ cs; are = (h, a); few = omega arith; whole = ap (λ t. b ∷ t) w }

groups_found : (room m : ℕ) (bytes rest : List ℕ) (n : ℕ) → integer_behind room m bytes ≡ Ok (Some (n, rest)) → Groups room m bytes rest n
groups_found room m [] rest n e = cc
groups_found zero m (b ∷ bs) rest n e = cc
groups_found (suc room) m (b ∷ bs) rest n e =
    let P : Bool → Type 0 = λ v. nat_lt b 128 ≡ v → cond v (Ok (Some (128 * m + b, bs))) (integer_behind room (128 * m + (b - 128)) bs) ≡ Ok (Some (n, rest)) → Groups (suc room) m (b ∷ bs) rest n in
    (elim (nat_lt b 128) as P [
      | true ↦ λ t h.
          let p = same_found (128 * m + b, bs) (n, rest) h in
          record { front = b ∷ []; are = (ltb-true b 128 t, sym (ap (λ x. x.0) p)); few = omega arith; whole = ap (λ x. b ∷ x.1) p }
      | false ↦ λ t h. groups_more room m b bs rest n (ltb-false b 128 t) (groups_found room (128 * m + (b - 128)) bs rest n h)
    ]) refl e

pub integer_found : (bytes rest : List ℕ) (n : ℕ) → integer_at bytes ≡ Ok (Some (n, rest)) → Found (λ front. IsInteger front n) bytes rest
unfolding integer_at
integer_found bytes rest n e = let g = groups_found 9 0 bytes rest n e in record { front = g.front; is = (g.are, g.few); whole = g.whole }

pub bounded_found : (most : ℕ) (bytes rest : List ℕ) (n : ℕ) → bounded_at most bytes ≡ Ok (Some (n, rest)) → Found (λ front. IsInteger front n × (n ≤ most)) bytes rest
unfolding bounded_at
bounded_found most bytes rest n e =
    let f = then_found (integer_at bytes) (λ x. cond (nat_lt most x.0) (Err TooLarge) (Ok (Some x))) (n, rest) e in
    let g = guard_found (nat_lt most f.0.0) TooLarge f.0 (n, rest) f.2 in
    let i = integer_found bytes rest n (f.1 ∙ ap (λ x. Ok (Some x)) g.1) in
    let k : n ≤ most = ltb-false most n (ap (λ x. nat_lt most x.0) (sym g.1) ∙ g.0) in
    record { front = i.front; is = (i.is, k); whole = i.whole }

pub length_found : (low : ℕ) (bytes rest : List ℕ) (n : ℕ) → length_at low bytes ≡ Ok (Some (n, rest)) → Found (λ front. IsLength low front n) bytes rest
unfolding length_at
length_found low bytes rest n e =
    let P : Bool → Type 0 = λ v. (low == 0) ≡ v → cond v (integer_at bytes >>= λ x. cond (x.0 == 0) (Err BadInstruction) (Ok (Some x))) (Ok (Some (low, bytes))) ≡ Ok (Some (n, rest)) → Found (λ front. IsLength low front n) bytes rest in
    (elim (low == 0) as P [
      | true ↦ λ t h.
          let f = then_found (integer_at bytes) (λ x. cond (x.0 == 0) (Err BadInstruction) (Ok (Some x))) (n, rest) h in
          let g = guard_found (f.0.0 == 0) BadInstruction f.0 (n, rest) f.2 in
          let i = integer_found bytes rest n (f.1 ∙ ap (λ x. Ok (Some x)) g.1) in
          record { front = i.front; is = (positive n (ap (λ x. x.0 == 0) (sym g.1) ∙ g.0), inr (eqb-true low 0 t, i.is)); whole = i.whole }
      | false ↦ λ t h.
          let p = same_found (low, bytes) (n, rest) h in
          let k : n ≡ low = sym (ap (λ x. x.0) p) in
          record { front = []; is = (let z = positive low t in omega arith, inl (k, refl)); whole = ap (λ x. x.1) p }
    ]) refl e
  where
    positive : (k : ℕ) → (k == 0) ≡ false → 0 < k
    positive k t = grind (arith, nat_tests)

pub copy_found : (view low : ℕ) (bytes rest : List ℕ) (i : Instruction) → low < 64 → copy_at view low bytes ≡ Ok (Some (i, rest)) → Found (IsInstruction view i) (low ∷ bytes) rest
unfolding copy_at
copy_found view low bytes rest i h e =
    let last : ℕ → ℕ × List ℕ → Read Instruction = λ n offset. cond (nat_lt view (offset.0 + n)) (Err CopyBeyondView) (Ok (Some (SourceCopy offset.0 n, offset.1))) in
    let f = then_found (length_at low bytes) (λ n. integer_at n.1 >>= λ offset. last n.0 offset) (i, rest) e in
    let n = f.0.0 in
    let g = then_found (integer_at f.0.1) (λ offset. last n offset) (i, rest) f.2 in
    let offset = g.0.0 in
    let k = guard_found (nat_lt view (offset + n)) CopyBeyondView (SourceCopy offset n, g.0.1) (i, rest) g.2 in
    let a = length_found low bytes f.0.1 n f.1 in
    let b = integer_found f.0.1 g.0.1 offset g.1 in
    let here : Found (IsInstruction view (SourceCopy offset n)) (low ∷ bytes) g.0.1 = record {
      front = low ∷ (a.front ++ b.front);
      is = record { low = low; size = a.front; place = b.front; kind = h; is_size = a.is; is_place = b.is; within = ltb-false view (offset + n) k.0; whole = refl };
      whole = ap (λ t. low ∷ t) (a.whole ∙ (ap (λ t. a.front ++ t) b.whole ∙ sym (append_assoc a.front b.front g.0.1)));
    } in
    let P : Instruction × List ℕ → Type 0 = λ x. Found (IsInstruction view x.0) (low ∷ bytes) x.1 in
    subst P k.1 here

pub new_data_found : (view low : ℕ) (bytes rest : List ℕ) (i : Instruction) → low < 64 → new_data_at low bytes ≡ Ok (Some (i, rest)) → Found (IsInstruction view i) ((128 + low) ∷ bytes) rest
unfolding new_data_at
new_data_found view low bytes rest i h e =
    let f = then_found (length_at low bytes) (λ n. Ok (Some (NewData n.0, n.1))) (i, rest) e in
    let a = length_found low bytes f.0.1 f.0.0 f.1 in
    let here : Found (IsInstruction view (NewData f.0.0)) ((128 + low) ∷ bytes) f.0.1 = record {
      front = (128 + low) ∷ a.front;
      is = record { low = low; size = a.front; kind = h; is_size = a.is; whole = refl };
      whole = ap (λ t. (128 + low) ∷ t) a.whole;
    } in
    let P : Instruction × List ℕ → Type 0 = λ x. Found (IsInstruction view x.0) ((128 + low) ∷ bytes) x.1 in
    subst P (same_found (NewData f.0.0, f.0.1) (i, rest) f.2) here

pub instruction_found : (view : ℕ) (bytes rest : List ℕ) (i : Instruction) → instruction_at view bytes ≡ Ok (Some (i, rest)) → Found (IsInstruction view i) bytes rest
unfolding instruction_at
instruction_found view [] rest i e = cc
instruction_found view (b ∷ bs) rest i e =
    let Goal : Type 0 = Found (IsInstruction view i) (b ∷ bs) rest in
    let third : Bool → Read Instruction = λ v. cond v (new_data_at (b - 128) bs) (Err BadInstruction) in
    let second : Bool → Read Instruction = λ v. cond v (Err TargetCopy) (third (nat_lt b 192)) in
    let first : Bool → Read Instruction = λ v. cond v (copy_at view b bs) (second (nat_lt b 128)) in
    (elim (nat_lt b 64) as (λ v. nat_lt b 64 ≡ v → first v ≡ Ok (Some (i, rest)) → Goal) [
      | true ↦ λ t h. copy_found view b bs rest i (ltb-true b 64 t) h
      | false ↦ λ t h. (elim (nat_lt b 128) as (λ v. nat_lt b 128 ≡ v → second v ≡ Ok (Some (i, rest)) → Goal) [
        | true ↦ λ u k. cc
        | false ↦ λ u k. (elim (nat_lt b 192) as (λ v. nat_lt b 192 ≡ v → third v ≡ Ok (Some (i, rest)) → Goal) [
          | true ↦ λ w j.
              let up : 128 ≤ b = ltb-false b 128 u in
              let down : b < 192 = ltb-true b 192 w in
              let low : b - 128 < 64 = omega arith in
              let same : 128 + (b - 128) ≡ b = omega arith in
              let P : ℕ → Type 0 = λ x. Found (IsInstruction view i) (x ∷ bs) rest in
              subst P same (new_data_found view (b - 128) bs rest i low j)
          | false ↦ λ w j. cc
        ]) refl k
      ]) refl h
    ]) refl e

sections_by : (n view : ℕ) (section : List ℕ) (is : List Instruction) → length section ≤ suc n
    → ((rest : List ℕ) (js : List Instruction) → length rest ≤ n → instructions_of view rest ≡ Ok js → AreInstructions view js rest)
    → (v : Read Instruction) → instruction_at view section ≡ v → with_others v (λ r. instructions_of view r) ≡ Ok is → AreInstructions view is section
sections_by n view section is h ih (Err f) e w = cc
sections_by n view section is h ih (Ok None) e w = cc
sections_by n view section is h ih (Ok (Some x)) e w =
    let b = before_ok x.0 (instructions_of view x.1) is w in
    let f = instruction_found view section x.1 x.0 e in
    let s = shorter view section x.1 x.0 e in
    let P : List Instruction → Type 0 = λ js. AreInstructions view js section in
    subst P (sym b.2) (record { front = f.front; rest = x.1; first = f.is; others = ih x.1 b.0 (omega arith) b.1; whole = f.whole })

pub sections_found : (n view : ℕ) (section : List ℕ) (is : List Instruction) → length section ≤ n → instructions_of view section ≡ Ok is → AreInstructions view is section
sections_found n view [] is h e =
    let p : ◌≡◌ {A = Result (List Instruction) DiffFault} (Ok []) (Ok is) = sym (section_none view) ∙ e in
    let none : [] ≡ is = cc in
    let P : List Instruction → Type 0 = λ js. AreInstructions view js [] in
    subst P none refl
sections_found zero view (b ∷ bs) is h e = absurd (omega arith)
sections_found (suc n) view (b ∷ bs) is h e =
    sections_by n view (b ∷ bs) is h (λ rest js k f. sections_found n view rest js k f) (instruction_at view (b ∷ bs)) refl (sym (section_step view (b ∷ bs) (omega arith)) ∙ e)

-- the integers of a window, within their limits
pub record Heads (before : ℕ) (head : Head) (front : List ℕ) : Type 0 where
  pub are : AreIntegers head.offset head.view head.target head.section head.new_data front
  pub target : head.target ≤ limit - before
  pub section : head.section ≤ limit
  pub fresh : head.new_data ≤ limit

pub head_found : (before : ℕ) (bytes rest : List ℕ) (head : Head) → head_at before bytes ≡ Ok (Some (head, rest)) → Found (Heads before head) bytes rest
unfolding head_at
head_found before bytes rest head e =
    let made : ℕ → ℕ → ℕ → ℕ → ℕ → Head = λ offset view target section fresh. record { offset = offset; view = view; target = target; section = section; new_data = fresh } in
    let fifth : ℕ → ℕ → ℕ → ℕ → ℕ × List ℕ → Read Head = λ offset view target section x. Ok (Some (made offset view target section x.0, x.1)) in
    let fourth : ℕ → ℕ → ℕ → ℕ × List ℕ → Read Head = λ offset view target x. (bounded_at limit x.1 >>= fifth offset view target x.0) in
    let third : ℕ → ℕ → ℕ × List ℕ → Read Head = λ offset view x. (bounded_at limit x.1 >>= fourth offset view x.0) in
    let second : ℕ → ℕ × List ℕ → Read Head = λ offset x. (bounded_at (limit - before) x.1 >>= third offset x.0) in
    let first : ℕ × List ℕ → Read Head = λ x. (integer_at x.1 >>= second x.0) in
    let a = then_found (integer_at bytes) first (head, rest) e in
    let b = then_found (integer_at a.0.1) (second a.0.0) (head, rest) a.2 in
    let c = then_found (bounded_at (limit - before) b.0.1) (third a.0.0 b.0.0) (head, rest) b.2 in
    let d = then_found (bounded_at limit c.0.1) (fourth a.0.0 b.0.0 c.0.0) (head, rest) c.2 in
    let g = then_found (bounded_at limit d.0.1) (fifth a.0.0 b.0.0 c.0.0 d.0.0) (head, rest) d.2 in
    let i1 = integer_found bytes a.0.1 a.0.0 a.1 in
    let i2 = integer_found a.0.1 b.0.1 b.0.0 b.1 in
    let i3 = bounded_found (limit - before) b.0.1 c.0.1 c.0.0 c.1 in
    let i4 = bounded_found limit c.0.1 d.0.1 d.0.0 d.1 in
    let i5 = bounded_found limit d.0.1 g.0.1 g.0.0 g.1 in
    let front : List ℕ = i1.front ++ (i2.front ++ (i3.front ++ (i4.front ++ i5.front))) in
    let here : Found (Heads before (made a.0.0 b.0.0 c.0.0 d.0.0 g.0.0)) bytes g.0.1 = record {
      front = front;
      is = record {
        are = record { first = i1.front; second = i2.front; third = i3.front; fourth = i4.front; fifth = i5.front; is_offset = i1.is; is_view = i2.is; is_target = i3.is.0; is_section = i4.is.0; is_fresh = i5.is.0; whole = refl };
        target = i3.is.1;
        section = i4.is.1;
        fresh = i5.is.1;
      };
      whole = joined5 bytes a.0.1 b.0.1 c.0.1 d.0.1 g.0.1 i1.front i2.front i3.front i4.front i5.front i1.whole i2.whole i3.whole i4.whole i5.whole;
    } in
    let P : Head × List ℕ → Type 0 = λ x. Found (Heads before x.0) bytes x.1 in
    subst P (same_found (made a.0.0 b.0.0 c.0.0 d.0.0 g.0.0, g.0.1) (head, rest) g.2) here
  where
    joined5 : (r0 r1 r2 r3 r4 r5 f1 f2 f3 f4 f5 : List ℕ) → r0 ≡ f1 ++ r1 → r1 ≡ f2 ++ r2 → r2 ≡ f3 ++ r3 → r3 ≡ f4 ++ r4 → r4 ≡ f5 ++ r5 → r0 ≡ (f1 ++ (f2 ++ (f3 ++ (f4 ++ f5)))) ++ r5
    joined5 r0 r1 r2 r3 r4 r5 f1 f2 f3 f4 f5 e1 e2 e3 e4 e5 =
        e1 ∙ (ap (λ t. f1 ++ t) (e2 ∙ (ap (λ t. f2 ++ t) (e3 ∙ (ap (λ t. f3 ++ t) (e4 ∙ (ap (λ t. f4 ++ t) e5 ∙ sym (append_assoc f4 f5 r5)))
        ∙ sym (append_assoc f3 (f4 ++ f5) r5))) ∙ sym (append_assoc f2 (f3 ++ (f4 ++ f5)) r5))) ∙ sym (append_assoc f1 (f2 ++ (f3 ++ (f4 ++ f5))) r5))

-- what was judged right
pub record Judged (head : Head) (view fresh target : List ℕ) (r : Result (List Instruction) DiffFault) : Type 0 where
  pub is : List Instruction
  pub read : r ≡ Ok is
  pub all : total is ≡ head.target
  pub taken : new_total is ≡ length fresh
  pub gives : target ≡ target_of view fresh is

pub judged_found : (head : Head) (view fresh target : List ℕ) (r : Result (List Instruction) DiffFault) → judged head view fresh r ≡ Ok target → Judged head view fresh target r
judged_found head view fresh target (Err f) e = cc
judged_found head view fresh target (Ok is) e =
    (elim (total is == head.target) as (λ v. (total is == head.target) ≡ v → cond (v && (new_total is == length fresh)) (Ok (target_of view fresh is)) (Err LengthsDisagree) ≡ Ok target → Judged head view fresh target (Ok is)) [
      | true ↦ λ t h. (elim (new_total is == length fresh) as (λ v. (new_total is == length fresh) ≡ v → cond v (Ok (target_of view fresh is)) (Err LengthsDisagree) ≡ Ok target → Judged head view fresh target (Ok is)) [
        | true ↦ λ u k. let same : target ≡ target_of view fresh is = cc in
            record { is = is; read = refl; all = eqb-true (total is) head.target t; taken = eqb-true (new_total is) (length fresh) u; gives = same }
        | false ↦ λ u k. cc
      ]) refl h
      | false ↦ λ t h. cc
    ]) refl e

rest_found : (v : Result (List ℕ) DiffFault) (r rest t : List ℕ) → and_rest v r ≡ Ok (Some (t, rest)) → (v ≡ Ok t) × (r ≡ rest)
rest_found (Err g) r rest t e = cc
rest_found (Ok u) r rest t e = let p = same_found (u, r) (t, rest) e in (ap (λ x. Ok x.0) p, ap (λ x. x.1) p)

pub window_found : (base : List ℕ) (before : ℕ) (bytes rest t : List ℕ) → window_at base before bytes ≡ Ok (Some (t, rest)) → Found (IsWindow base before t) bytes rest
unfolding window_at judged_at
window_found base before bytes rest t e =
    let f = then_found (head_at before bytes) (λ x. body_at base x.0 x.1) (t, rest) e in
    let head = f.0.0 in
    let body = f.0.1 in
    let a = head_found before bytes body head f.1 in
    elim (below (length base) (head.offset + head.view)) [
      | inl h ↦ let p = sym (body_beyond base head body h) ∙ f.2 in cc
      | inr h ↦ elim (below (length body) (head.section + head.new_data)) [
        | inl k ↦ let p : ◌≡◌ {A = Read (List ℕ)} (Ok None) (Ok (Some (t, rest))) = sym (body_short base head body h k) ∙ f.2 in cc
        | inr k ↦
            let g = rest_found (judged_at base head body) (drop (head.section + head.new_data) body) rest t (sym (body_is base head body h k) ∙ f.2) in
            let section = take head.section body in
            let fresh = take head.new_data (drop head.section body) in
            let j = judged_found head (take head.view (drop head.offset base)) fresh t (instructions_of head.view section) g.0 in
            let s : length section ≡ head.section = omega (arith, length-take head.section body) in
            let n : length fresh ≡ head.new_data = omega (arith, length-take head.new_data (drop head.section body), length-drop head.section body) in
            let P : ℕ → ℕ → Type 0 = λ x y. AreIntegers head.offset head.view head.target x y a.front in
            record {
              front = a.front ++ (section ++ fresh);
              is = record {
                offset = head.offset;
                view = head.view;
                size = head.target;
                is = j.is;
                head = a.front;
                section = section;
                fresh = fresh;
                integers = rw (s, n) a.is.are;
                in_base = h;
                text_fits = a.is.target;
                section_fits = let q = a.is.section in omega arith;
                fresh_fits = let q = a.is.fresh in omega arith;
                instructions = sections_found (length section) head.view section j.is (le_refl (length section)) j.read;
                all_given = j.all;
                all_taken = j.taken;
                gives = j.gives;
                whole = refl;
              };
              whole = a.whole ∙ (ap (λ u. a.front ++ u) (parts head.section head.new_data body ∙ ap (λ u. (section ++ fresh) ++ u) g.1) ∙ sym (append_assoc a.front (section ++ fresh) rest));
            }
      ]
    ]
  where
    parts : (m n : ℕ) (body : List ℕ) → body ≡ (take m body ++ take n (drop m body)) ++ drop (m + n) body
    parts m n body =
        sym (take-append-drop m body) ∙ (ap (λ u. take m body ++ u) (sym (take-append-drop n (drop m body)) ∙ ap (λ u. take n (drop m body) ++ u) (drop-drop n m body))
        ∙ sym (append_assoc (take m body) (take n (drop m body)) (drop (m + n) body)))

-- windows, and nothing behind them
record Whole (base text bytes t : List ℕ) : Type 0 where
  pub targets : List (List ℕ)
  pub are : AreWindows base (length text) targets bytes
  pub gives : t ≡ text ++ flat_map (λ u. u) targets

windows_found : (n : ℕ) (base text bytes t : List ℕ) → length bytes ≤ n → (v : Read (List ℕ)) → window_at base (length text) bytes ≡ v → windows_of base text bytes ≡ going t [] → Whole base text bytes t
windows_found n base text bytes t h (Err f) e w =
    let p : broken f ≡ going t [] = sym (windows_step base text bytes ∙ ap (λ v. with_windows text bytes v (λ u r. windows_of base u r)) e) ∙ w in cc
windows_found n base text bytes t h (Ok None) e w =
    let p : going text bytes ≡ going t [] = sym (windows_step base text bytes ∙ ap (λ v. with_windows text bytes v (λ u r. windows_of base u r)) e) ∙ w in
    let same : text ≡ t = cc in
    let none : bytes ≡ [] = cc in
    record { targets = []; are = none; gives = sym same ∙ sym (append-nil text) }
windows_found zero base text bytes t h (Ok (Some x)) e w =
    let s = window_shorter base (length text) bytes x.1 x.0 e in absurd (omega arith)
windows_found (suc n) base text bytes t h (Ok (Some x)) e w =
    let s = window_shorter base (length text) bytes x.1 x.0 e in
    let p : windows_of base (text ++ x.0) x.1 ≡ going t [] = sym (windows_step base text bytes ∙ ap (λ v. with_windows text bytes v (λ u r. windows_of base u r)) e) ∙ w in
    let f = window_found base (length text) bytes x.1 x.0 e in
    let r = windows_found n base (text ++ x.0) x.1 t (omega arith) (window_at base (length (text ++ x.0)) x.1) refl p in
    let P : ℕ → Type 0 = λ k. AreWindows base k r.targets x.1 in
    record {
      targets = x.0 ∷ r.targets;
      are = record { front = f.front; rest = x.1; first = f.is; others = subst P (length-append text x.0) r.are; whole = f.whole };
      gives = r.gives ∙ append_assoc text x.0 (flat_map (λ u. u) r.targets);
    }

outcome_found : (r : Reading) (text : List ℕ) → outcome r ≡ Ok text → r ≡ going text []
outcome_found (opening bytes) text e = cc
outcome_found (going t []) text e = cc
outcome_found (going t (b ∷ bs)) text e = cc
outcome_found (broken f) text e = cc

document_by : (base document text : List ℕ) (v : Result (Option (List ℕ)) DiffFault) → header_at document ≡ v → after_header base document v ≡ going text [] → IsDocument base document text
unfolding header_at
document_by base document text (Err f) e w = cc
document_by base document text (Ok None) e w = cc
document_by base document text (Ok (Some rest)) e w =
    let r = windows_found (length rest) base [] rest text (le_refl (length rest)) (window_at base 0 rest) refl w in
    record { targets = r.targets; windows = rest; are_windows = r.are; whole = behind_front header document rest e; gives = r.gives }

pub document_found : (base document text : List ℕ) → document_text base document ≡ Ok text → IsDocument base document text
document_found base document text e = document_by base document text (header_at document) refl (outcome_found (read_document base document) text e)
