-- What is written is what the format says.
use Rattle.std.proofs.Common.{◌≡◌, inl, inr, ℕ, zero, suc, ◌+◌, ◌-◌, ◌*◌, ◌/◌, ◌%◌, ◌^◌, ◌≤◌, ◌<◌, cond, Bool, true, false, nat_lt, List, [], ◌∷◌, ◌++◌, map}
use Rattle.std.proofs.Common.{length, take, drop, refl, sym, ap, ◌∙◌, arith, append-nil, length-append, length-take, length-drop, subst, lit≤, lit<}
use Rattle.std.proofs.{lemmas.Int.Digits.{number_digits_of, length-digits_of-le}, lemmas.List.length-map, Math.Seq.take-length, Math.ListN.drop_of_length-le}
use Rattle.std.specs.Int.Digits.{digits_of, number_from_digits_after}
use borrow.Author.Tests.{ltb-true, ne_eqb}
use Rattle.svndiff0.specs.{declared.instruction.Instruction.Instruction, declared.instruction.Instruction.TheVariants.{SourceCopy, NewData}}
use Rattle.svndiff0.specs.{Instruction.{total, new_total, target_of}, Format.{AreGroups, IsInteger, IsLength, AreInstructions}}
use Rattle.text_deltas.specs.{Deltas.{integer, sized, copy, new_data, instructions}, declared.windows.Parts.Parts}

one_group : (m b n : ℕ) (rest : List ℕ) → 0 < length rest → 128 ≤ b → AreGroups (128 * m + (b - 128)) rest n → AreGroups m (b ∷ rest) n
one_group m b n [] h k g = absurd (omega arith)
one_group m b n (c ∷ bs) h k g = (k, g)

groups : (ds : List ℕ) (m r : ℕ) → r < 128 → AreGroups m (map (λ d. 128 + d) ds ++ r ∷ []) (128 * number_from_digits_after 128 m ds + r)
groups [] m r h = (h, refl)
groups (d ∷ ds) m r h =
    let e : 128 * m + (128 + d - 128) ≡ m * 128 + d = omega arith in
    one_group m (128 + d) _ (map (λ d. 128 + d) ds ++ r ∷ []) (omega (arith, length-append (map (λ (d : ℕ). 128 + d) ds) (r ∷ []))) (omega arith)
    (rw e (groups ds (m * 128 + d) r h))

pub is_integer : (n : ℕ) → n < 2 ^ 63 → IsInteger (integer n) n
unfolding integer
is_integer n h =
    let ds = digits_of 128 (n / 128) in
    let v : 128 * number_from_digits_after 128 0 ds + n % 128 ≡ n = rw (number_digits_of 128 (n / 128) (lit≤ tt)) (omega arith) in
    let l : length ds ≤ 8 = length-digits_of-le 128 8 (n / 128) (lit≤ tt) (omega arith) in
    let m : length (map (λ d. 128 + d) ds) ≡ length ds = length-map ds (λ (d : ℕ). 128 + d) in (
      subst (λ k. AreGroups 0 (map (λ d. 128 + d) ds ++ n % 128 ∷ []) k) v (groups ds 0 (n % 128) (omega arith)),
      omega (arith, length-append (map (λ (d : ℕ). 128 + d) ds) (n % 128 ∷ [])),
    )

pub integer_short : (n : ℕ) → n < 2 ^ 63 → length (integer n) ≤ 9
integer_short n h = (is_integer n h).1

-- a length, in one byte or behind it
sized_by : (kind n : ℕ) (b : Bool) → nat_lt n 64 ≡ b → 0 < n → n < 2 ^ 63
    → (low : ℕ) × (size : List ℕ) × (low < 64) × IsLength low size n × (cond b ((kind + n) ∷ []) (kind ∷ integer n) ≡ (kind + low) ∷ size) × (length size ≤ 9)
sized_by kind n true e p h = (n, [], ltb-true n 64 e, (p, inl (refl, refl)), refl, lit≤ tt)
sized_by kind n false e p h =
    (0, integer n, lit< tt, (p, inr (refl, is_integer n h)), ap (λ k. k ∷ integer n) (omega arith), integer_short n h)

is_sized : (kind n : ℕ) → 0 < n → n < 2 ^ 63
    → (low : ℕ) × (size : List ℕ) × (low < 64) × IsLength low size n × (sized kind n ≡ (kind + low) ∷ size) × (length size ≤ 9)
unfolding sized
is_sized kind n p h = sized_by kind n (nat_lt n 64) refl p h

-- an instruction is written where it is for some bytes
some_copy : (from n : ℕ) → 0 < n → copy from n ≡ sized 0 n ++ integer from
unfolding copy
some_copy from n h = ap (λ b. cond b [] (sized 0 n ++ integer from)) (ne_eqb n 0 (λ e. omega arith))

pub some_new : (n : ℕ) → 0 < n → new_data n ≡ sized 128 n
unfolding new_data
some_new n h = ap (λ b. cond b [] (sized 128 n)) (ne_eqb n 0 (λ e. omega arith))

-- ---- instructions, and what they give over a view

pub record Gives (view fresh bytes target : List ℕ) : Type 0 where
  pub is : List Instruction
  pub are : AreInstructions (length view) is bytes
  pub all_given : total is ≡ length target
  pub all_taken : new_total is ≡ length fresh
  pub gives : target ≡ target_of view fresh is

pub gives_none : (view : List ℕ) → Gives view [] [] []
gives_none view = record { is = []; are = refl; all_given = refl; all_taken = refl; gives = refl }

-- a copy before them
pub gives_copy : (view fresh bytes target : List ℕ) (from n : ℕ) → (0 < n → from + n ≤ length view) → length view < 2 ^ 63
    → Gives view fresh bytes target → Gives view fresh (copy from n ++ bytes) (take n (drop from view) ++ target)
unfolding copy
gives_copy view fresh bytes target from zero h k g = g
gives_copy view fresh bytes target from (suc n) h k g =
    let within : from + suc n ≤ length view = h (omega arith) in
    let s = is_sized 0 (suc n) (omega arith) (omega arith) in
    let low : 0 + s.0 ≡ s.0 = omega arith in
    let long : length (take (suc n) (drop from view)) ≡ suc n = omega (arith, length-take (suc n) (drop from view), length-drop from view) in
    let all : suc n + total g.is ≡ length (take (suc n) (drop from view) ++ target) =
    omega (arith, length-append (take (suc n) (drop from view)) target, g.all_given) in
    let taken : 0 + new_total g.is ≡ length fresh = omega (arith, g.all_taken) in
    record {
      is = SourceCopy from (suc n) ∷ g.is;
      are = record {
        front = sized 0 (suc n) ++ integer from;
        rest = bytes;
        first = record {
          low = s.0;
          size = s.1;
          place = integer from;
          kind = s.2;
          is_size = s.3;
          is_place = is_integer from (omega arith);
          within = within;
          whole = ap (λ t. t ++ integer from) s.4 ∙ ap (λ b. b ∷ (s.1 ++ integer from)) low;
        };
        others = g.are;
        whole = ap (λ t. t ++ bytes) (some_copy from (suc n) (omega arith));
      };
      all_given = all;
      all_taken = taken;
      gives = ap (λ t. take (suc n) (drop from view) ++ t) g.gives;
    }

-- new data before them
pub gives_new : (view fresh bytes target : List ℕ) (n : ℕ) → n ≤ length fresh → n < 2 ^ 63
    → Gives view (drop n fresh) bytes target → Gives view fresh (new_data n ++ bytes) (take n fresh ++ target)
unfolding new_data
gives_new view fresh bytes target zero h l g = g
gives_new view fresh bytes target (suc n) h l g =
    let s = is_sized 128 (suc n) (omega arith) l in
    let long : length (take (suc n) fresh) ≡ suc n = omega (arith, length-take (suc n) fresh) in
    let all : suc n + total g.is ≡ length (take (suc n) fresh ++ target) =
    omega (arith, length-append (take (suc n) fresh) target, g.all_given) in
    let taken : suc n + new_total g.is ≡ length fresh = omega (arith, g.all_taken, length-drop (suc n) fresh) in
    record {
      is = NewData (suc n) ∷ g.is;
      are = record {
        front = sized 128 (suc n);
        rest = bytes;
        first = record { low = s.0; size = s.1; kind = s.2; is_size = s.3; whole = s.4 };
        others = g.are;
        whole = ap (λ t. t ++ bytes) (some_new (suc n) (omega arith));
      };
      all_given = all;
      all_taken = taken;
      gives = ap (λ t. take (suc n) fresh ++ t) g.gives;
    }

-- ---- how many bytes they have

sized_short : (kind n : ℕ) → 0 < n → n < 2 ^ 63 → length (sized kind n) ≤ 10
sized_short kind n p h = let s = is_sized kind n p h in let e = ap length s.4 in omega (arith, e, s.5)

copy_short : (view from n : ℕ) → (0 < n → from + n ≤ view) → view < 2 ^ 63 → length (copy from n) ≤ 19
unfolding copy
copy_short view from zero h k = lit≤ tt
copy_short view from (suc n) h k =
    let within : from + suc n ≤ view = h (omega arith) in
    rw (some_copy from (suc n) (omega arith)) (omega (arith, length-append (sized 0 (suc n)) (integer from), sized_short 0 (suc n) (omega arith) (omega arith), integer_short from (omega arith)))

pub new_short : (n : ℕ) → n < 2 ^ 63 → length (new_data n) ≤ 10
unfolding new_data
new_short zero h = lit≤ tt
new_short (suc n) h = rw (some_new (suc n) (omega arith)) (sized_short 128 (suc n) (omega arith) h)

-- copies lie in the view, which is no longer than a slice
pub record AreInView (p : Parts) : Type 0 where
  pub view : p.view < 2 ^ 63
  pub fresh : p.fresh < 2 ^ 63
  pub front : 0 < p.front → p.front_from + p.front ≤ p.view
  pub back : 0 < p.back → p.back_from + p.back ≤ p.view

pub instructions_short : (p : Parts) → AreInView p → length (instructions p) ≤ 48
unfolding instructions
instructions_short p h =
    let a = copy p.front_from p.front in
    let b = new_data p.fresh in
    let c = copy p.back_from p.back in
    omega (arith, length-append a (b ++ c), length-append b c, copy_short p.view p.front_from p.front h.front h.view, new_short p.fresh h.fresh, copy_short p.view p.back_from p.back h.back h.view)

-- what the instructions of a window give
pub gives_parts : (view fresh : List ℕ) (p : Parts) → AreInView p → length view ≡ p.view → length fresh ≡ p.fresh
    → Gives view fresh (instructions p) (take p.front (drop p.front_from view) ++ (fresh ++ take p.back (drop p.back_from view)))
unfolding instructions
gives_parts view fresh p h v n =
    let end = take p.back (drop p.back_from view) in
    let code = copy p.back_from p.back in
    let none : drop p.fresh fresh ≡ [] = drop_of_length-le fresh (omega arith) in
    let all : take p.fresh fresh ≡ fresh = ap (λ m. take m fresh) (sym n) ∙ take-length fresh in
    let small : length view < 2 ^ 63 = rw v h.view in
    let front : 0 < p.front → p.front_from + p.front ≤ length view = λ q. rw v (h.front q) in
    let back : 0 < p.back → p.back_from + p.back ≤ length view = λ q. rw v (h.back q) in
    let last : Gives view (drop p.fresh fresh) code end =
    rw none (subst (λ c. Gives view [] c end) (append-nil code) (subst (λ t. Gives view [] (code ++ []) t) (append-nil end)
    (gives_copy view [] [] [] p.back_from p.back back small (gives_none view)))) in
    let two : Gives view fresh (new_data p.fresh ++ code) (take p.fresh fresh ++ end) = gives_new view fresh code end p.fresh (omega arith) h.fresh last in
    gives_copy view fresh (new_data p.fresh ++ code) (fresh ++ end) p.front_from p.front front small
    (subst (λ t. Gives view fresh (new_data p.fresh ++ code) (t ++ end)) all two)
