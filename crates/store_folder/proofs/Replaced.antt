-- What a stop may have left since an earlier moment, once a replacement is noted.
use Rattle.std.proofs.Common.{◌≡◌, ◌≤◌, ◌⊎◌, inl, inr, ℕ, zero, suc, List, ◌∷◌, length, sym, subst, arith}
use Rattle.store_files.specs.{Folders.{Folder, Swapped}, Moments.Elapses, NameLaws.named_is, Names.{named, numbers_of}, Note.Event}
use Rattle.store_files.specs.{Replay.{Behind, Leaves, LeftSince, leaves_now}, declared.name.FileName.FileName}

module _ (start : Folder) (old : List Event) (name : FileName) (bytes : List ℕ) where
  is_named : (f : Folder) → Swapped (Leaves start old) (named (numbers_of name)) bytes f → Swapped (Leaves start old) name bytes f
  is_named f s = subst (λ (n : FileName). Swapped (Leaves start old) n bytes f) (named_is name) s

  behind : (answer t : ℕ) (f : Folder) → t ≤ length old → Behind 2 answer (named (numbers_of name)) bytes (Leaves start old) f
      → LeftSince start old t f ⊎ Swapped (Leaves start old) name bytes f
  behind zero t f le left = inr (is_named f left.0)
  behind (suc zero) t f le left = inr (is_named f left)
  behind (suc (suc a)) t f le left = inl (leaves_now start old t f le left)

  since : (answer t : ℕ) (f : Folder) → t ≤ length old → LeftSince start ((2, numbers_of name, answer, bytes) ∷ old) t f
      → LeftSince start old t f ⊎ Swapped (Leaves start old) name bytes f
  since answer t f le (inr now) = behind answer t f le now
  since answer t f le (inl (few, inl before)) = inl before
  since answer t f le (inl (few, inr during)) = inr (is_named f during)

  noted : (answer : ℕ) → Elapses (length old) (length ((2, numbers_of name, answer, bytes) ∷ old))
      (LeftSince start old) (LeftSince start ((2, numbers_of name, answer, bytes) ∷ old)) (Swapped (Leaves start old) name bytes)
  noted answer = record {
    later = omega arith;
    nothing_else = λ t f le left. since answer t f le left;
    keeps = λ t f le past. inl (le, inl past);
  }

  -- time goes on by a replacement
  pub goes_on : (then : Folder) (new : List Event) (answer : ℕ) → then ≡ start → new ≡ (2, numbers_of name, answer, bytes) ∷ old
      → Elapses (length old) (length new) (LeftSince start old) (LeftSince then new) (Swapped (Leaves start old) name bytes)
  goes_on then new answer same is =
      subst (λ (d : Folder). Elapses (length old) (length new) (LeftSince start old) (LeftSince d new) (Swapped (Leaves start old) name bytes)) (sym same)
      (subst (λ (es : List Event). Elapses (length old) (length es) (LeftSince start old) (LeftSince start es) (Swapped (Leaves start old) name bytes)) (sym is) (noted answer))
