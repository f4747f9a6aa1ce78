-- The instructions of a section, one after another.
use Rattle.std.proofs.Common.{◌≡◌, ℕ, zero, suc, ◌+◌, ◌≤◌, ◌<◌, List, [], ◌∷◌, ◌++◌, length, Some, None, Result, Ok, Err, refl, sym, ◌∙◌, ap, drop}
use Rattle.std.proofs.Common.{append_assoc, append-nil, length-append, length-drop, le_refl, arith}
use Rattle.svndiff0.specs.{declared.fault.DiffFault.DiffFault, declared.fault.DiffFault.TheVariants.BadInstruction}
use Rattle.svndiff0.specs.{declared.instruction.Instruction.Instruction, Read.Read, Instruction.{instruction_at, before, with_others, instructions_within}}
use Rattle.svndiff0.specs.{Instruction.{instructions_of, size, new_size, total, new_total, given, target_of}, Sums.{summed, SumsUp, IsWithin, Starts, SumsGrow}}
use Rattle.svndiff0.proofs.Steady.{instruction_fronts}

-- these instructions in front of others
abbrev pub with_front : List Instruction → Result (List Instruction) DiffFault → Result (List Instruction) DiffFault
with_front front (Ok is) = Ok (front ++ is)
with_front front (Err f) = Err f

-- what the instructions of the rest give completes what all give
pub record Left (view section fresh old rest left now : List ℕ) : Type 0 where
  pub is : List Instruction
  pub read : instructions_of (length view) rest ≡ Ok is
  pub enough : new_total is ≤ length left
  pub completes : (all : List Instruction) → instructions_of (length view) section ≡ Ok all → now ++ target_of view left is ≡ old ++ target_of view fresh all

-- where enough bytes may come, it doesn't matter how many
with_same : (v : Read Instruction) (f g : List ℕ → Result (List Instruction) DiffFault) → ((i : Instruction) (rest : List ℕ) → v ≡ Ok (Some (i, rest)) → f rest ≡ g rest) → with_others v f ≡ with_others v g
with_same (Err e) f g h = refl
with_same (Ok None) f g h = refl
with_same (Ok (Some x)) f g h = ap (before x.0) (h x.0 x.1 refl)

pub shorter : (view : ℕ) (bytes rest : List ℕ) (i : Instruction) → instruction_at view bytes ≡ Ok (Some (i, rest)) → length rest < length bytes
shorter view bytes rest i e =
    let f = instruction_fronts view bytes rest i e in
    let long : 1 ≤ length f.front = f.long in
    omega (arith, length-append f.front rest, ap length f.whole)

pub any_room : (n m view : ℕ) (bytes : List ℕ) → length bytes ≤ n → length bytes ≤ m → instructions_within n view bytes ≡ instructions_within m view bytes
any_room zero zero view [] h k = refl
any_room zero (suc m) view [] h k = refl
any_room (suc n) zero view [] h k = refl
any_room (suc n) (suc m) view [] h k = refl
any_room zero m view (b ∷ bs) h k = absurd (omega arith)
any_room (suc n) zero view (b ∷ bs) h k = absurd (omega arith)
any_room (suc n) (suc m) view (b ∷ bs) h k =
    with_same (instruction_at view (b ∷ bs)) (λ rest. instructions_within n view rest) (λ rest. instructions_within m view rest)
    (λ i rest e. let s = shorter view (b ∷ bs) rest i e in any_room n m view rest (omega arith) (omega arith))

pub section_none : (view : ℕ) → instructions_of view [] ≡ Ok []
unfolding instructions_of
section_none view = refl

-- a section that isn't empty, by its first instruction
pub section_step : (view : ℕ) (bytes : List ℕ) → 0 < length bytes → instructions_of view bytes ≡ with_others (instruction_at view bytes) (λ rest. instructions_of view rest)
unfolding instructions_of
section_step view [] h = absurd (omega arith)
section_step view (b ∷ bs) h =
    with_same (instruction_at view (b ∷ bs)) (λ rest. instructions_within (length bs) view rest) (λ rest. instructions_within (length rest) view rest)
    (λ i rest e. let s = shorter view (b ∷ bs) rest i e in any_room (length bs) (length rest) view rest (omega arith) (le_refl (length rest)))

-- one more in front
pub front_more : (seen : List Instruction) (i : Instruction) (others : Result (List Instruction) DiffFault) → with_front seen (before i others) ≡ with_front (seen ++ (i ∷ [])) others
front_more seen i (Ok is) = ap Ok (sym (append_assoc seen (i ∷ []) is))
front_more seen i (Err f) = refl

-- what a loop over a section has seen
pub record Summed (view : ℕ) (section : List ℕ) (all new_data : ℕ) (rest : List ℕ) : Type 0 where
  pub seen : List Instruction
  pub front : instructions_of view section ≡ with_front seen (instructions_of view rest)
  pub all_is : all ≡ summed (total seen)
  pub new_data_is : new_data ≡ summed (new_total seen)

total_more : (is : List Instruction) (i : Instruction) → total (is ++ (i ∷ [])) ≡ total is + size i
total_more [] i = omega arith
total_more (j ∷ js) i = let h = total_more js i in omega arith

new_total_more : (is : List Instruction) (i : Instruction) → new_total (is ++ (i ∷ [])) ≡ new_total is + new_size i
new_total_more [] i = omega arith
new_total_more (j ∷ js) i = let h = new_total_more js i in omega arith

front_none : (others : Result (List Instruction) DiffFault) → others ≡ with_front [] others
front_none (Ok is) = refl
front_none (Err f) = refl

pub summed_more : (view : ℕ) (section : List ℕ) (all new_data : ℕ) (rest : List ℕ) (i : Instruction) (behind : List ℕ) → Summed view section all new_data rest → Starts view rest i behind → Summed view section (summed (all + size i)) (summed (new_data + new_size i)) behind
summed_more view section all new_data rest i behind s t = record {
  seen = s.seen ++ (i ∷ []);
  front = s.front ∙ (ap (with_front s.seen) t.step ∙ front_more s.seen i (instructions_of view behind));
  all_is = let h = s.all_is in let k = total_more s.seen i in omega arith;
  new_data_is = let h = s.new_data_is in let k = new_total_more s.seen i in omega arith;
}

pub summed_all : (view : ℕ) (section : List ℕ) (all new_data : ℕ) (rest : List ℕ) → Summed view section all new_data rest → length rest ≡ 0 → SumsUp (Ok (record { all = all; new_data = new_data })) (instructions_of view section)
summed_all view section all new_data [] s e =
    (s.seen, s.front ∙ (ap (with_front s.seen) (section_none view) ∙ ap Ok (append-nil s.seen)), cc (s.all_is, s.new_data_is))
summed_all view section all new_data (b ∷ bs) s e = absurd (omega arith)

-- what was read of a section that isn't empty
pub starts : (view : ℕ) (section : List ℕ) (i : Instruction) (rest : List ℕ) → 0 < length section → instruction_at view section ≡ Ok (Some (i, rest)) → IsWithin view i → Starts view section i rest
starts view section i rest h e w = record {
  step = section_step view section h ∙ ap (λ v. with_others v (λ r. instructions_of view r)) e;
  shorter = shorter view section rest i e;
  within = w;
}

pub starts_fault : (view : ℕ) (section : List ℕ) (f : DiffFault) → 0 < length section → instruction_at view section ≡ Err f → instructions_of view section ≡ Err f
starts_fault view section f h e = section_step view section h ∙ ap (λ v. with_others v (λ r. instructions_of view r)) e

pub starts_cut : (view : ℕ) (section : List ℕ) → 0 < length section → instruction_at view section ≡ Ok None → instructions_of view section ≡ Err BadInstruction
starts_cut view section h e = section_step view section h ∙ ap (λ v. with_others v (λ r. instructions_of view r)) e

pub before_ok : (i : Instruction) (others : Result (List Instruction) DiffFault) (is : List Instruction) → before i others ≡ Ok is → (js : List Instruction) × (others ≡ Ok js) × (is ≡ i ∷ js)
before_ok i (Ok js) is e = (js, refl, cc)
before_ok i (Err f) is e = cc

pub left_more : (view section fresh old rest left now : List ℕ) (i : Instruction) (behind after later : List ℕ) → Left view section fresh old rest left now → Starts (length view) rest i behind → after ≡ drop (new_size i) left → later ≡ now ++ given view left i → Left view section fresh old behind after later
left_more view section fresh old rest left now i behind after later s t e f =
    let found = before_ok i (instructions_of (length view) behind) s.is (sym t.step ∙ s.read) in
    record {
      is = found.0;
      read = found.1;
      enough =
          let k : new_total s.is ≡ new_size i + new_total found.0 = ap new_total found.2 in
          let h = s.enough in
          omega (arith, length-drop (new_size i) left, ap length e);
      completes = λ all g.
          ap (λ u. later ++ target_of view u found.0) e
          ∙ (ap (λ u. u ++ target_of view (drop (new_size i) left) found.0) f
          ∙ (append_assoc now (given view left i) (target_of view (drop (new_size i) left) found.0)
          ∙ (ap (λ is. now ++ target_of view left is) (sym found.2) ∙ s.completes all g)));
    }

pub left_all : (view section fresh old rest left now : List ℕ) → Left view section fresh old rest left now → length rest ≡ 0 → (is : List Instruction) → instructions_of (length view) section ≡ Ok is → now ≡ old ++ target_of view fresh is
left_all view section fresh old [] left now s z is e =
    let h : ◌≡◌ {A = Result (List Instruction) DiffFault} (Ok s.is) (Ok []) = sym s.read ∙ section_none (length view) in
    let k : s.is ≡ [] = cc in
    sym (append-nil now) ∙ (ap (λ is. now ++ target_of view left is) (sym k) ∙ s.completes is e)
left_all view section fresh old (b ∷ bs) left now s z is e = absurd (omega arith)

pub grows_more : (old mid new added : List ℕ) → SumsGrow old mid → new ≡ mid ++ added → SumsGrow old new
grows_more old mid new added g e = (g.0 ++ added, e ∙ (ap (λ t. t ++ added) g.1 ∙ append_assoc old g.0 added))
