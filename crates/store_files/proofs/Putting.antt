-- One file more in memory.
use Rattle.std.proofs.Common.{◌≡◌, inl, inr, ℕ, zero, suc, Bool, true, false, cond, List, ◌∷◌, Option, Some, refl, sym, ap, ◌∙◌, arith}
use Rattle.std.proofs.lemmas.Bool.Decides.{nat_tests}
use Rattle.std.specs.{Prelude.{◌==◌, ◌&&◌, ◌<◌, Vec}, BTreeMap.{BTreeMap, get, is_at}, Ordering.{nat_cmp, ordering_then, is_eq}, declared.alloc.Global.Global}
use Rattle.std.specs.{declared.cmp.Ordering.Ordering, declared.cmp.Ordering.TheVariants.{Less, Equal, Greater}}
use Rattle.store_files.specs.{Names.{Numbers, kind_of, shard_of, number_of, numbers_of, same_name, named}, NameLaws.{same_name_tells, named_is}}
use Rattle.store_files.specs.{Folders.{Folder, IsSame, SameBut, bytes_of, nothing, with_file}, Memory.{by_numbers, files_of}, Note.Event, Replay.{held, Leaves}}
use Rattle.store_files.specs.declared.name.FileName.{FileName}

both : (o p : Ordering) → is_eq (ordering_then o p) ≡ is_eq o && is_eq p
both Less p = refl
both Equal p = refl
both Greater p = refl

-- names are found by their numbers
at_name : (a b : FileName) → is_at (by_numbers (numbers_of a)) (numbers_of b) ≡ same_name a b
at_name a b =
    both (ordering_then (nat_cmp (kind_of a) (kind_of b)) (nat_cmp (shard_of a) (shard_of b))) (nat_cmp (number_of a) (number_of b))
    ∙ ap (λ t. t && is_eq (nat_cmp (number_of a) (number_of b))) (both (nat_cmp (kind_of a) (kind_of b)) (nat_cmp (shard_of a) (shard_of b)))
    ∙ (λ i. equal (kind_of a) (kind_of b) i && equal (shard_of a) (shard_of b) i && equal (number_of a) (number_of b) i)
  where
    equal : (x y : ℕ) → is_eq (nat_cmp x y) ≡ (x == y)
    equal x y = grind (arith, nat_tests)

bytes_if : (b : Bool) (v : Vec ℕ Global) (o : Option (Vec ℕ Global)) → bytes_of (cond b (Some v) o) ≡ cond b (Some v.items) (bytes_of o)
bytes_if true v o = refl
bytes_if false v o = refl

-- what the files are once one was put among them
pub put : (old new : BTreeMap Numbers (Vec ℕ Global)) (name : FileName) (numbers : Numbers) (v : Vec ℕ Global) (bytes : List ℕ)
    → numbers ≡ numbers_of name → v.items ≡ bytes
    → ((q : Numbers) → get by_numbers new q ≡ cond (is_at (by_numbers numbers) q) (Some v) (get by_numbers old q))
    → IsSame (with_file (files_of old) name bytes) (files_of new)
put old new name numbers v bytes are is updates n =
    ap bytes_of (updates at)
    ∙ ap (λ b. bytes_of (cond b (Some v) (get by_numbers old at))) ((λ i. is_at (by_numbers (are i)) at) ∙ at_name name n)
    ∙ bytes_if (same_name name n) v (get by_numbers old at)
    ∙ ap (λ (l : List ℕ). cond (same_name name n) (Some l) (files_of old n)) is
  where
    at : Numbers
    at = numbers_of n

-- it has its bytes, and every other is as it was
pub put_here : (old new : Folder) (name : FileName) (bytes : List ℕ) → IsSame (with_file old name bytes) new → new name ≡ Some bytes
put_here old new name bytes is = is name ∙ elim (same_name_tells name name) [
  | inl same ↦ ap (λ b. cond b (Some bytes) (old name)) same.0
  | inr differs ↦ absurd (differs.1 refl)
]

pub put_others : (old new : Folder) (name : FileName) (bytes : List ℕ) → IsSame (with_file old name bytes) new → SameBut name old new
put_others old new name bytes is n other = is n ∙ elim (same_name_tells name n) [
  | inl same ↦ absurd (other (sym same.1))
  | inr differs ↦ ap (λ b. cond b (Some bytes) (old n)) differs.0
]

-- a call that put a file and is noted: what the record says of the files is what they are, and a stop that comes
-- now leaves them so
module _ (old : List Event) (files : Folder) (same : IsSame (held nothing old) files) where
  pub noted_same : (call : ℕ) (name : FileName) (bytes : List ℕ) (new : Folder) → 0 < call → IsSame (with_file files name bytes) new
      → IsSame (held nothing ((call, numbers_of name, 0, bytes) ∷ old)) new
  noted_same zero name bytes new some put n = absurd (omega (arith, some))
  noted_same (suc k) name bytes new some put n =
      put n ∙ ap (λ x. cond (same_name name n) (Some bytes) x) (same n)
      ∙ ap (λ m. cond (same_name m n) (Some bytes) (held nothing old n)) (sym (named_is name))

module _ (old : List Event) (rests : (f : Folder) → Leaves nothing old f → IsSame (held nothing old) f) where
  one_more : (g f : Folder) (name : FileName) (bytes : List ℕ) → IsSame (held nothing old) g → SameBut name g f → f name ≡ Some bytes
      → IsSame (with_file (held nothing old) name bytes) f
  one_more g f name bytes same others is n = elim (same_name_tells name n) [
    | inl at ↦ ap f (sym at.1) ∙ is ∙ ap (λ b. cond b (Some bytes) (held nothing old n)) (sym at.0)
    | inr not ↦ others n (λ e. not.1 (sym e)) ∙ same n ∙ ap (λ b. cond b (Some bytes) (held nothing old n)) (sym not.0)
  ]

  pub noted_rests : (call : ℕ) (name : FileName) (bytes : List ℕ) → 0 < call
      → (f : Folder) → Leaves nothing ((call, numbers_of name, 0, bytes) ∷ old) f
      → IsSame (held nothing ((call, numbers_of name, 0, bytes) ∷ old)) f
  noted_rests zero name bytes some f left = absurd (omega (arith, some))
  noted_rests (suc zero) name bytes some f left =
      one_more left.0.old f (named (numbers_of name)) bytes (rests left.0.old left.0.left) left.0.others left.1
  noted_rests (suc (suc k)) name bytes some f left =
      one_more left.0.old f (named (numbers_of name)) bytes (rests left.0.old left.0.left) left.0.others left.1
