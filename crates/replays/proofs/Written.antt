-- Commands that are written one after another.
use Rattle.std.proofs.Common.{arith, ◌≡◌, ◌<◌, ◌+◌, ℕ, suc, List, [], ◌∷◌, ◌++◌, length, map, drop, get_or, refl, sym, ap, ◌∙◌, subst, append-nil, append_assoc}
use Rattle.std.proofs.{lemmas.List.map-append, Math.Seq.drop-cons}
use Rattle.std.specs.Prelude.{Result, Ok, Err}
use Rattle.wire_edits.specs.declared.editing.EditorCommand.{EditorCommand}
use Rattle.replays.specs.Sending.{command_bytes}
use Rattle.wire_replies.specs.{Replies.print, Sinks.{WritesPart, Writes}, declared.reply.Reply.Reply}
use Rattle.wire_replies.specs.declared.reply.Reply.TheVariants as replies
use Rattle.wire_replies.proofs.Parts.{both_written, part_all, part_first, part_behind}

-- a part of what comes first is a part of all
pub first_part : (writes : List ℕ → Type 0) (xs ys : List EditorCommand) → WritesPart writes (command_bytes xs) → WritesPart writes (command_bytes (xs ++ ys))
first_part writes xs ys part =
    subst (λ (rs : List Reply). WritesPart writes (print rs)) (sym (map-append replies.Edit xs ys)) (part_first writes (map replies.Edit xs) (map replies.Edit ys) part)

module _ {S : Type 0} (writes : S → S → List ℕ → Type 0) where
  -- some commands are written, and these are left of all
  pub record Going (s t : S) (all left : List EditorCommand) : Type 0 where
    pub before : List EditorCommand
    pub wrote : writes s t (command_bytes before)
    pub whole : all ≡ before ++ left

  -- what is written so far is a part
  pub going_part : (s t : S) (all left : List EditorCommand) → Going s t all left → WritesPart (writes s t) (command_bytes all)
  going_part s t all left so =
      subst (λ (xs : List EditorCommand). WritesPart (writes s t) (command_bytes xs)) (sym so.whole)
      (first_part (writes s t) so.before left (part_all (writes s t) (command_bytes so.before) so.wrote))

  -- where none is left, all is written
  pub all_gone : (s t : S) (all left : List EditorCommand) → left ≡ [] → Going s t all left → writes s t (command_bytes all)
  all_gone s t all left none so =
      subst (λ (xs : List EditorCommand). writes s t (command_bytes xs)) (sym (so.whole ∙ ap (λ xs. so.before ++ xs) none ∙ append-nil so.before)) so.wrote

  -- nothing is written yet
  pub going_from : ((s : S) → writes s s []) → (s : S) (all : List EditorCommand) → Going s s all all
  going_from nothing s all = record { before = []; wrote = nothing s; whole = refl }

  module _ (more : (s t u : S) (first second : List ℕ) → writes s t first → writes t u second → writes s u (first ++ second)) where
    pub both : (s t u : S) (xs ys : List EditorCommand) → writes s t (command_bytes xs) → writes t u (command_bytes ys) → writes s u (command_bytes (xs ++ ys))
    both s t u xs ys a b =
        subst (λ (rs : List Reply). writes s u (print rs)) (sym (map-append replies.Edit xs ys)) (both_written writes more s t u (map replies.Edit xs) (map replies.Edit ys) a b)

    pub behind_part : (s t u : S) (xs ys : List EditorCommand) → writes s t (command_bytes xs) → WritesPart (writes t u) (command_bytes ys) → WritesPart (writes s u) (command_bytes (xs ++ ys))
    behind_part s t u xs ys a part =
        subst (λ (rs : List Reply). WritesPart (writes s u) (print rs)) (sym (map-append replies.Edit xs ys)) (part_behind writes more s t u (map replies.Edit xs) (map replies.Edit ys) a part)

    -- commands, and then others, as far as they are written
    pub sent_behind : {T E : Type 0} (r : Result T E) (s t u : S) (xs ys : List EditorCommand) → writes s t (command_bytes xs)
        → Writes r (writes t u) (command_bytes ys) → Writes r (writes s u) (command_bytes (xs ++ ys))
    sent_behind (Ok x) s t u xs ys a b = both s t u xs ys a b
    sent_behind (Err e) s t u xs ys a part = behind_part s t u xs ys a part

    -- some more are written
    pub going_on : (s t u : S) (all left xs rest : List EditorCommand) → left ≡ xs ++ rest → Going s t all left → writes t u (command_bytes xs) → Going s u all rest
    going_on s t u all left xs rest is so now = record {
      before = so.before ++ xs;
      wrote = both s t u so.before xs so.wrote now;
      whole = so.whole ∙ ap (λ ys. so.before ++ ys) is ∙ sym (append_assoc so.before xs rest);
    }

    -- and where they fail, a part of all is
    pub going_failed : (s t u : S) (all left xs rest : List EditorCommand) → left ≡ xs ++ rest → Going s t all left → WritesPart (writes t u) (command_bytes xs) → WritesPart (writes s u) (command_bytes all)
    going_failed s t u all left xs rest is so part =
        subst (λ (ys : List EditorCommand). WritesPart (writes s u) (command_bytes ys)) (sym (so.whole ∙ ap (λ ys. so.before ++ ys) is))
        (behind_part s t u so.before (xs ++ rest) so.wrote (first_part (writes t u) xs rest part))

-- the next element of those that are left
pub next_left : {X : Type 0} (xs : List X) (i : ℕ) (x : X) → i < length xs → x ≡ get_or xs i x → drop i xs ≡ x ∷ drop (i + 1) xs
next_left xs i x within is =
    let next : suc i ≡ i + 1 = omega arith in
    drop-cons xs i x within ∙ ap (λ k. get_or xs i x ∷ drop k xs) next ∙ ap (λ y. y ∷ drop (i + 1) xs) (sym is)
