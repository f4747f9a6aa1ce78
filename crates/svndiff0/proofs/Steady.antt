-- What reading finds stays found, whatever comes behind.
use Rattle.std.proofs.Common.{◌≡◌, ℕ, zero, suc, ◌+◌, ◌-◌, ◌*◌, ◌≤◌, Bool, true, false, cond, List, [], ◌∷◌, ◌++◌, length, Some, None, Ok, Err, refl, sym, ◌∙◌}
use Rattle.std.proofs.Common.{ap, append_assoc, length-append, arith, nat_lt, ◌==◌}
use Rattle.svndiff0.specs.{declared.fault.DiffFault.DiffFault, declared.fault.DiffFault.TheVariants.{TooLarge, BadInstruction, CopyBeyondView, TargetCopy}}
use Rattle.svndiff0.specs.{declared.instruction.Instruction.Instruction, declared.instruction.Instruction.TheVariants.{SourceCopy, NewData}, Read.{Read, ◌>>=◌}}
use Rattle.svndiff0.specs.{Integer.{integer_behind, integer_at, bounded_at}, Instruction.{length_at, copy_at, new_data_at, instruction_at}}

-- so many bytes at least are read, and the rest follows them
pub record Front (least : ℕ) (bytes rest : List ℕ) : Type 0 where
  pub front : List ℕ
  pub whole : bytes ≡ front ++ rest
  pub long : least ≤ length front

pub record Steady {A : Type 0} (least : ℕ) (r : List ℕ → Read A) : Type 0 where
  pub errs : (bytes more : List ℕ) (f : DiffFault) → r bytes ≡ Err f → r (bytes ++ more) ≡ Err f
  pub finds : (bytes more rest : List ℕ) (a : A) → r bytes ≡ Ok (Some (a, rest)) → r (bytes ++ more) ≡ Ok (Some (a, rest ++ more))
  pub fronts : (bytes rest : List ℕ) (a : A) → r bytes ≡ Ok (Some (a, rest)) → Front least bytes rest

pub steady_fail : {A : Type 0} (f : DiffFault) → Steady {A = A} 0 (λ bytes. Err f)
steady_fail f = record {
  errs = λ bytes more g e. e;
  finds = λ bytes more rest a e. cc;
  fronts = λ bytes rest a e. cc;
}

pub same_found : {A : Type 0} (x y : A × List ℕ) → ◌≡◌ {A = Read A} (Ok (Some x)) (Ok (Some y)) → x ≡ y
same_found x y e = cc

pub steady_give : {A : Type 0} (a : A) → Steady {A = A} 0 (λ bytes. Ok (Some (a, bytes)))
steady_give {A} a = record {
  errs = λ bytes more g e. cc;
  finds = λ bytes more rest b e. let p = same_found (a, bytes) (b, rest) e in ap (λ x. Ok (Some (x.0, x.1 ++ more))) p;
  fronts = λ bytes rest b e. record { front = []; whole = ap (λ x. x.1) (same_found (a, bytes) (b, rest) e); long = omega arith };
}

pub steady_if : {A : Type 0} (least : ℕ) (b : Bool) (r s : List ℕ → Read A) → Steady least r → Steady least s → Steady {A = A} least (λ bytes. cond b (r bytes) (s bytes))
steady_if {A} least b r s p q = elim b as (λ v. Steady {A = A} least (λ bytes. cond v (r bytes) (s bytes))) [ true ↦ p | false ↦ q ]

front_of : {A B : Type 0} (least : ℕ) (r : List ℕ → Read A) (next : A → List ℕ → Read B) → Steady least r → ((a : A) → Steady 0 (next a)) → (bytes rest : List ℕ) (b : B) → (v : Read A) → r bytes ≡ v → (v >>= λ x. next x.0 x.1) ≡ Ok (Some (b, rest)) → Front least bytes rest
front_of least r next p q bytes rest b (Err f) is e = cc
front_of least r next p q bytes rest b (Ok None) is e = cc
front_of least r next p q bytes rest b (Ok (Some x)) is e =
    let one = p.fronts bytes x.1 x.0 is in
    let two = (q x.0).fronts x.1 rest b e in
    record {
      front = one.front ++ two.front;
      whole = one.whole ∙ (ap (λ t. one.front ++ t) two.whole ∙ sym (append_assoc one.front two.front rest));
      long = let h = one.long in omega (arith, length-append one.front two.front);
    }

errs_of : {A B : Type 0} (least : ℕ) (r : List ℕ → Read A) (next : A → List ℕ → Read B) → Steady least r → ((a : A) → Steady 0 (next a)) → (bytes more : List ℕ) (f : DiffFault) → (v : Read A) → r bytes ≡ v → (v >>= λ x. next x.0 x.1) ≡ Err f → (r (bytes ++ more) >>= λ x. next x.0 x.1) ≡ Err f
errs_of least r next p q bytes more f (Err g) is e = rw (p.errs bytes more g is) e
errs_of least r next p q bytes more f (Ok None) is e = cc
errs_of least r next p q bytes more f (Ok (Some x)) is e = rw (p.finds bytes more x.1 x.0 is) ((q x.0).errs x.1 more f e)

finds_of : {A B : Type 0} (least : ℕ) (r : List ℕ → Read A) (next : A → List ℕ → Read B) → Steady least r → ((a : A) → Steady 0 (next a)) → (bytes more rest : List ℕ) (b : B) → (v : Read A) → r bytes ≡ v → (v >>= λ x. next x.0 x.1) ≡ Ok (Some (b, rest)) → (r (bytes ++ more) >>= λ x. next x.0 x.1) ≡ Ok (Some (b, rest ++ more))
finds_of least r next p q bytes more rest b (Err g) is e = cc
finds_of least r next p q bytes more rest b (Ok None) is e = cc
finds_of least r next p q bytes more rest b (Ok (Some x)) is e = rw (p.finds bytes more x.1 x.0 is) ((q x.0).finds x.1 more rest b e)

pub steady_then : {A B : Type 0} (least : ℕ) (r : List ℕ → Read A) (next : A → List ℕ → Read B) → Steady least r → ((a : A) → Steady 0 (next a)) → Steady {A = B} least (λ bytes. r bytes >>= λ x. next x.0 x.1)
steady_then least r next p q = record {
  errs = λ bytes more f e. errs_of least r next p q bytes more f (r bytes) refl e;
  finds = λ bytes more rest b e. finds_of least r next p q bytes more rest b (r bytes) refl e;
  fronts = λ bytes rest b e. front_of least r next p q bytes rest b (r bytes) refl e;
}

-- a reader that reads at least so many bytes reads at least none
pub weaker : {A : Type 0} (least : ℕ) (r : List ℕ → Read A) → Steady least r → Steady {A = A} 0 r
weaker least r p = record {
  errs = p.errs;
  finds = p.finds;
  fronts = λ bytes rest a e. let f = p.fronts bytes rest a e in record { front = f.front; whole = f.whole; long = omega arith };
}

integer_errs : (room n : ℕ) (bytes more : List ℕ) (f : DiffFault) → integer_behind room n bytes ≡ Err f → integer_behind room n (bytes ++ more) ≡ Err f
integer_errs room n [] more f e = cc
integer_errs zero n (b ∷ bs) more f e = e
integer_errs (suc room) n (b ∷ bs) more f e =
    let P : Bool → Type 0 = λ v. cond v (Ok (Some (128 * n + b, bs))) (integer_behind room (128 * n + (b - 128)) bs) ≡ Err f → cond v (Ok (Some (128 * n + b, bs ++ more))) (integer_behind room (128 * n + (b - 128)) (bs ++ more)) ≡ Err f in
    (elim (nat_lt b 128) as P [ true ↦ λ h. cc | false ↦ λ h. integer_errs room (128 * n + (b - 128)) bs more f h ]) e

integer_finds : (room n : ℕ) (bytes more rest : List ℕ) (a : ℕ) → integer_behind room n bytes ≡ Ok (Some (a, rest)) → integer_behind room n (bytes ++ more) ≡ Ok (Some (a, rest ++ more))
integer_finds room n [] more rest a e = cc
integer_finds zero n (b ∷ bs) more rest a e = cc
integer_finds (suc room) n (b ∷ bs) more rest a e =
    let P : Bool → Type 0 = λ v. cond v (Ok (Some (128 * n + b, bs))) (integer_behind room (128 * n + (b - 128)) bs) ≡ Ok (Some (a, rest)) → cond v (Ok (Some (128 * n + b, bs ++ more))) (integer_behind room (128 * n + (b - 128)) (bs ++ more)) ≡ Ok (Some (a, rest ++ more)) in
    (elim (nat_lt b 128) as P [ true ↦ λ h. ap (λ x. Ok (Some (x.0, x.1 ++ more))) (same_found (128 * n + b, bs) (a, rest) h) | false ↦ λ h. integer_finds room (128 * n + (b - 128)) bs more rest a h ]) e

integer_fronts : (room n : ℕ) (bytes rest : List ℕ) (a : ℕ) → integer_behind room n bytes ≡ Ok (Some (a, rest)) → Front 1 bytes rest
integer_fronts room n [] rest a e = cc
integer_fronts zero n (b ∷ bs) rest a e = cc
integer_fronts (suc room) n (b ∷ bs) rest a e =
    let P : Bool → Type 0 = λ v. cond v (Ok (Some (128 * n + b, bs))) (integer_behind room (128 * n + (b - 128)) bs) ≡ Ok (Some (a, rest)) → Front 1 (b ∷ bs) rest in
    (elim (nat_lt b 128) as P [
      | true ↦ λ h. record { front = b ∷ []; whole = ap (λ x. b ∷ x.1) (same_found (128 * n + b, bs) (a, rest) h); long = omega arith }
      | false ↦ λ h. let f = integer_fronts room (128 * n + (b - 128)) bs rest a h in
          record { front = b ∷ f.front; whole = ap (λ t. b ∷ t) f.whole; long = let k : 1 ≤ length f.front = f.long in omega arith }
    ]) e

pub steady_integer : Steady 1 integer_at
unfolding integer_at
steady_integer = record {
  errs = λ bytes more f e. integer_errs 9 0 bytes more f e;
  finds = λ bytes more rest a e. integer_finds 9 0 bytes more rest a e;
  fronts = λ bytes rest a e. integer_fronts 9 0 bytes rest a e;
}

pub steady_bounded : (limit : ℕ) → Steady 1 (bounded_at limit)
unfolding bounded_at
steady_bounded limit =
    steady_then 1 integer_at (λ n rest. cond (nat_lt limit n) (Err TooLarge) (Ok (Some (n, rest)))) steady_integer
    (λ n. steady_if 0 (nat_lt limit n) (λ rest. Err TooLarge) (λ rest. Ok (Some (n, rest))) (steady_fail TooLarge) (steady_give n))

pub steady_length : (low : ℕ) → Steady 0 (length_at low)
unfolding length_at
steady_length low =
    let long : List ℕ → Read ℕ = λ bytes. (integer_at bytes >>= λ n. cond (n.0 == 0) (Err BadInstruction) (Ok (Some n))) in
    steady_if 0 (low == 0) long (λ bytes. Ok (Some (low, bytes)))
    (weaker 1 long (steady_then 1 integer_at (λ n rest. cond (n == 0) (Err BadInstruction) (Ok (Some (n, rest)))) steady_integer
    (λ n. steady_if 0 (n == 0) (λ rest. Err BadInstruction) (λ rest. Ok (Some (n, rest))) (steady_fail BadInstruction) (steady_give n))))
    (steady_give low)

pub steady_copy : (view low : ℕ) → Steady 0 (copy_at view low)
unfolding copy_at
steady_copy view low =
    let last : ℕ → ℕ → List ℕ → Read Instruction = λ n offset rest. cond (nat_lt view (offset + n)) (Err CopyBeyondView) (Ok (Some (SourceCopy offset n, rest))) in
    let behind : ℕ → List ℕ → Read Instruction = λ n rest. (integer_at rest >>= λ o. last n o.0 o.1) in
    steady_then 0 (length_at low) behind (steady_length low)
    (λ n. weaker 1 (behind n) (steady_then 1 integer_at (last n) steady_integer
    (λ offset. steady_if 0 (nat_lt view (offset + n)) (λ rest. Err CopyBeyondView) (λ rest. Ok (Some (SourceCopy offset n, rest))) (steady_fail CopyBeyondView) (steady_give (SourceCopy offset n)))))

pub steady_new_data : (low : ℕ) → Steady 0 (new_data_at low)
unfolding new_data_at
steady_new_data low = steady_then 0 (length_at low) (λ n rest. Ok (Some (NewData n, rest))) (steady_length low) (λ n. steady_give (NewData n))

-- an instruction, by its first byte
instruction_by : ℕ → ℕ → List ℕ → Read Instruction
instruction_by view b = λ bs. cond (nat_lt b 64) (copy_at view b bs) (cond (nat_lt b 128) (Err TargetCopy) (cond (nat_lt b 192) (new_data_at (b - 128) bs) (Err BadInstruction)))

steady_by : (view b : ℕ) → Steady 0 (instruction_by view b)
unfolding instruction_by
steady_by view b =
    let third : List ℕ → Read Instruction = λ bs. cond (nat_lt b 192) (new_data_at (b - 128) bs) (Err BadInstruction) in
    let second : List ℕ → Read Instruction = λ bs. cond (nat_lt b 128) (Err TargetCopy) (third bs) in
    steady_if 0 (nat_lt b 64) (copy_at view b) second (steady_copy view b)
    (steady_if 0 (nat_lt b 128) (λ bs. Err TargetCopy) third (steady_fail TargetCopy)
    (steady_if 0 (nat_lt b 192) (new_data_at (b - 128)) (λ bs. Err BadInstruction) (steady_new_data (b - 128)) (steady_fail BadInstruction)))

-- an instruction takes a byte at least
pub instruction_fronts : (view : ℕ) (bytes rest : List ℕ) (i : Instruction) → instruction_at view bytes ≡ Ok (Some (i, rest)) → Front 1 bytes rest
unfolding instruction_at instruction_by
instruction_fronts view [] rest i e = cc
instruction_fronts view (b ∷ bs) rest i e =
    let f = (steady_by view b).fronts bs rest i e in
    record { front = b ∷ f.front; whole = ap (λ t. b ∷ t) f.whole; long = omega arith }
