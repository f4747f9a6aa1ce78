-- Replies for the numbers of a range, written one number after another.
use Rattle.std.proofs.Common.{◌≡◌, ◌<◌, ◌≤◌, ◌+◌, ◌-◌, arith, ℕ, zero, suc, List, [], ◌++◌, refl, sym, ap, subst, ◌∙◌, append-nil, append_assoc}
use Rattle.std.proofs.lemmas.List.Concat.{flat_map-cons}
use Rattle.std.specs.{List.{flat_map, range_with_len}, Prelude.Result}
use Rattle.wire_replies.specs.{Replies.print, Sinks.{Says, WritesPart}, declared.reply.Reply.Reply}
use Rattle.wire_replies.proofs.Parts.{both_written, part_behind, part_first, said_behind}

module _ (f : ℕ → List Reply) where
  -- the replies for the numbers from this one to the last
  abbrev pub told_from : ℕ → ℕ → List Reply
  told_from n last = flat_map f (range_with_len n (last + 1 - n))

  -- those for the first, and for the numbers behind it
  next_told : (n last : ℕ) → n ≤ last → told_from n last ≡ f n ++ told_from (n + 1) last
  next_told n last within =
      let one_more : last + 1 - n ≡ suc (last + 1 - (n + 1)) = omega arith in
      ap (λ count. flat_map f (range_with_len n count)) one_more ∙ flat_map-cons f n (range_with_len (n + 1) (last + 1 - (n + 1)))

  -- there are none behind the last
  pub none_told : (n last : ℕ) → last < n → told_from n last ≡ []
  none_told n last behind =
      let none : last + 1 - n ≡ zero = omega arith in
      ap (λ count. flat_map f (range_with_len n count)) none

  -- those for the last
  last_told : (last : ℕ) → told_from last last ≡ f last
  last_told last =
      next_told last last (omega arith) ∙ ap (λ rs. f last ++ rs) (none_told (last + 1) last (omega arith)) ∙ append-nil (f last)

  module _ {S : Type 0} (writes : S → S → List ℕ → Type 0) where
    -- what the numbers before this one are told is written
    pub record InTurn (s t : S) (start n last : ℕ) : Type 0 where
      pub told : List Reply
      pub wrote : writes s t (print told)
      pub whole : told_from start last ≡ told ++ told_from n last

    -- nothing is written yet
    pub turn_from : ((s : S) → writes s s []) → (s : S) (start last : ℕ) → InTurn s s start start last
    turn_from nothing s start last = record { told = []; wrote = nothing s; whole = refl }

    module _ (more : (s t u : S) (first second : List ℕ) → writes s t first → writes t u second → writes s u (first ++ second)) where
      -- one more is written
      pub turn_on : (s t u : S) (start n last : ℕ) → n ≤ last → InTurn s t start n last → writes t u (print (f n)) → InTurn s u start (n + 1) last
      turn_on s t u start n last within so now = record {
        told = so.told ++ f n;
        wrote = both_written writes more s t u so.told (f n) so.wrote now;
        whole = so.whole ∙ ap (λ rs. so.told ++ rs) (next_told n last within) ∙ sym (append_assoc so.told (f n) (told_from (n + 1) last));
      }

      -- and where it fails, a part of all is
      pub turn_failed : (s t u : S) (start n last : ℕ) → n ≤ last → InTurn s t start n last → WritesPart (writes t u) (print (f n))
          → WritesPart (writes s u) (print (told_from start last))
      turn_failed s t u start n last within so part =
          subst (λ (rs : List Reply). WritesPart (writes s u) (print rs)) (sym (so.whole ∙ ap (λ rs. so.told ++ rs) (next_told n last within)))
          (part_behind writes more s t u so.told (f n ++ told_from (n + 1) last) so.wrote (part_first (writes t u) (f n) (told_from (n + 1) last) part))

      -- the last is written, and so all is, or a part of all
      pub turn_ended : {T E : Type 0} (r : Result T E) (s t u : S) (start n last : ℕ) → n ≡ last → InTurn s t start n last → Says r (writes t u) (f last)
          → Says r (writes s u) (told_from start last)
      turn_ended r s t u start n last is so said =
          subst (λ (rs : List Reply). Says r (writes s u) rs)
          (sym (so.whole ∙ ap (λ k. so.told ++ told_from k last) is ∙ ap (λ rs. so.told ++ rs) (last_told last)))
          (said_behind writes more r s t u so.told (f last) so.wrote said)
