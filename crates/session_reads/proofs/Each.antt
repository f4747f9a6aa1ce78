-- Replies for the elements of a list, written one after another.
use Rattle.std.proofs.Common.{◌≡◌, ◌<◌, ◌+◌, arith, ℕ, suc, List, length, drop, get_or, [], ◌∷◌, ◌++◌, map, sym, ap, subst, ◌∙◌, append-nil, append_assoc}
use Rattle.std.proofs.{Math.Seq.drop-cons, lemmas.List.map-append}
use Rattle.wire_replies.specs.{Replies.print, Sinks.WritesPart, declared.reply.Reply.Reply}
use Rattle.wire_replies.proofs.Parts.{both_written, part_all, part_first, part_behind}

module _ {X S : Type 0} (f : X → Reply) (writes : S → S → List ℕ → Type 0) where
  -- replies for the first elements of a list are written, and these are left
  pub record Told (s t : S) (all left : List X) : Type 0 where
    pub told : List X
    pub wrote : writes s t (print (map f told))
    pub whole : all ≡ told ++ left

  -- what is written so far is a part
  pub part_told : (s t : S) (all left : List X) → Told s t all left → WritesPart (writes s t) (print (map f all))
  part_told s t all left so =
      subst (λ (xs : List X). WritesPart (writes s t) (print (map f xs))) (sym so.whole)
      (subst (λ (rs : List Reply). WritesPart (writes s t) (print rs)) (sym (map-append f so.told left))
      (part_first (writes s t) (map f so.told) (map f left) (part_all (writes s t) (print (map f so.told)) so.wrote)))

  -- where none is left, all is written
  pub all_told : (s t : S) (all left : List X) → left ≡ [] → Told s t all left → writes s t (print (map f all))
  all_told s t all left none so =
      subst (λ (xs : List X). writes s t (print (map f xs))) (sym (so.whole ∙ ap (λ xs. so.told ++ xs) none ∙ append-nil so.told)) so.wrote

  module _ (more : (s t u : S) (first second : List ℕ) → writes s t first → writes t u second → writes s u (first ++ second)) where
    -- one more is written
    pub one_told : (s t u : S) (all left rest : List X) (x : X) → left ≡ x ∷ rest → Told s t all left → writes t u (print (f x ∷ [])) → Told s u all rest
    one_told s t u all left rest x is so now = record {
      told = so.told ++ x ∷ [];
      wrote = subst (λ (rs : List Reply). writes s u (print rs)) (sym (map-append f so.told (x ∷ []))) (both_written writes more s t u (map f so.told) (f x ∷ []) so.wrote now);
      whole = so.whole ∙ ap (λ xs. so.told ++ xs) is ∙ sym (append_assoc so.told (x ∷ []) rest);
    }

    -- and where it fails, a part of all is
    pub one_failed : (s t u : S) (all left rest : List X) (x : X) → left ≡ x ∷ rest → Told s t all left → WritesPart (writes t u) (print (f x ∷ [])) → WritesPart (writes s u) (print (map f all))
    one_failed s t u all left rest x is so part =
        subst (λ (xs : List X). WritesPart (writes s u) (print (map f xs))) (sym (so.whole ∙ ap (λ xs. so.told ++ xs) is))
        (subst (λ (rs : List Reply). WritesPart (writes s u) (print rs)) (sym (map-append f so.told (x ∷ rest)))
        (part_behind writes more s t u (map f so.told) (f x ∷ map f rest) so.wrote (part_first (writes t u) (f x ∷ []) (map f rest) part)))

-- the next element of those that are left
pub next_left : {X : Type 0} (xs : List X) (i : ℕ) (x : X) → i < length xs → x ≡ get_or xs i x → drop i xs ≡ x ∷ drop (i + 1) xs
next_left xs i x within is =
    let next : suc i ≡ i + 1 = omega arith in
    drop-cons xs i x within ∙ ap (λ k. get_or xs i x ∷ drop k xs) next ∙ ap (λ y. y ∷ drop (i + 1) xs) (sym is)
