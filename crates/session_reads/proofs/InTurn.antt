-- Revisions of a file, each told as it differs from the one before.
use Rattle.std.proofs.Common.{◌≡◌, ℕ, Bool, List, [], ◌∷◌, ◌++◌, Option, refl, sym, ap, subst, ◌∙◌, append-nil, append_assoc, max}
use Rattle.std.specs.Prelude.{None, Some, Ok}
use Rattle.refusals.specs.declared.Refusal.{Refusal}
use Rattle.repo_api.specs.{Histories.history_of, States.RepoState}
use Rattle.svnpath.specs.Paths.{PathValue}
use Rattle.traces.specs.declared.place.Place.{Place}
use Rattle.history.specs.Logs.{place_at}
use Rattle.file_histories.specs.FileRevisions.{file_revisions}
use Rattle.commands.specs.declared.command.GetFileRevsCommand.{GetFileRevsCommand}
use Rattle.machine.specs.Answers.{failure_at}
use Rattle.machine.specs.Histories.{ended, file_revision_told, file_revisions_refusal, file_revisions_replies, listed_unless, or_youngest, told_in_turn}
use Rattle.wire_replies.specs.{Replies.print, Sinks.WritesPart, declared.reply.Reply.Reply}
use Rattle.wire_replies.specs.declared.reply.Reply.TheVariants as replies
use Rattle.wire_replies.proofs.Parts.{both_written, part_all, part_behind, part_first}

module _ (c : RepoState) {S : Type 0} (writes : S → S → List ℕ → Type 0) where
  -- the first of these revisions are told, up to one of them, and these are left
  pub record InTurn (s t : S) (before : Option Place) (all left : List Place) : Type 0 where
    pub told : List Reply
    pub wrote : writes s t (print told)
    pub whole : told_in_turn c None all ≡ told ++ told_in_turn c before left

  -- what is written so far is a part
  pub turn_part : (s t : S) (before : Option Place) (all left : List Place) → InTurn s t before all left → WritesPart (writes s t) (print (told_in_turn c None all))
  turn_part s t before all left so =
      subst (λ (rs : List Reply). WritesPart (writes s t) (print rs)) (sym so.whole)
      (part_first (writes s t) so.told (told_in_turn c before left) (part_all (writes s t) (print so.told) so.wrote))

  -- where none is left, all is written
  pub turn_all : (s t : S) (before : Option Place) (all left : List Place) → left ≡ [] → InTurn s t before all left → writes s t (print (told_in_turn c None all))
  turn_all s t before all left none so =
      subst (λ (rs : List Reply). writes s t (print rs)) (sym (so.whole ∙ ap (λ xs. so.told ++ told_in_turn c before xs) none ∙ append-nil so.told)) so.wrote

  -- nothing is written yet
  pub turn_from : ((s : S) → writes s s []) → (s : S) (all : List Place) → InTurn s s None all all
  turn_from nothing s all = record { told = []; wrote = nothing s; whole = refl }

  module _ (more : (s t u : S) (first second : List ℕ) → writes s t first → writes t u second → writes s u (first ++ second)) where
    -- one more is written
    pub turn_on : (s t u : S) (before : Option Place) (all left rest : List Place) (at : Place) → left ≡ at ∷ rest → InTurn s t before all left
        → writes t u (print (file_revision_told c before at)) → InTurn s u (Some at) all rest
    turn_on s t u before all left rest at is so now = record {
      told = so.told ++ file_revision_told c before at;
      wrote = both_written writes more s t u so.told (file_revision_told c before at) so.wrote now;
      whole = so.whole ∙ ap (λ xs. so.told ++ told_in_turn c before xs) is ∙ sym (append_assoc so.told (file_revision_told c before at) (told_in_turn c (Some at) rest));
    }

    -- and where it fails, a part of all is
    pub turn_failed : (s t u : S) (before : Option Place) (all left rest : List Place) (at : Place) → left ≡ at ∷ rest → InTurn s t before all left
        → WritesPart (writes t u) (print (file_revision_told c before at)) → WritesPart (writes s u) (print (told_in_turn c None all))
    turn_failed s t u before all left rest at is so part =
        subst (λ (rs : List Reply). WritesPart (writes s u) (print rs)) (sym (so.whole ∙ ap (λ xs. so.told ++ told_in_turn c before xs) is))
        (part_behind writes more s t u so.told (file_revision_told c before at ++ told_in_turn c (Some at) rest) so.wrote
        (part_first (writes t u) (file_revision_told c before at) (told_in_turn c (Some at) rest) part))

-- revisions that are judged so
judged : (is_of_today : Bool) (c : RepoState) (command : GetFileRevsCommand) (path : PathValue) (start end newest : ℕ) (r o : Option Refusal)
    → start ≡ or_youngest c command.start → end ≡ or_youngest c command.end → newest ≡ max start end
    → r ≡ file_revisions_refusal c command.wants_merged (place_at newest path) → r ≡ o
    → file_revisions_replies is_of_today c command (Ok path)
    ≡ listed_unless is_of_today o (Some path) (told_in_turn c None (file_revisions (history_of c) path start end))
judged is_of_today c command path start end newest r o started ended_at greater by is =
    ap (λ n. replies_of (file_revisions_refusal c command.wants_merged (place_at (max n (or_youngest c command.end)) path)) n (or_youngest c command.end)) (sym started)
    ∙ ap (λ n. replies_of (file_revisions_refusal c command.wants_merged (place_at (max start n) path)) start n) (sym ended_at)
    ∙ ap (λ n. replies_of (file_revisions_refusal c command.wants_merged (place_at n path)) start end) (sym greater)
    ∙ ap (λ x. replies_of x start end) (sym by ∙ is)
  where
    replies_of : Option Refusal → ℕ → ℕ → List Reply
    replies_of x first last = listed_unless is_of_today x (Some path) (told_in_turn c None (file_revisions (history_of c) path first last))

-- those that are not refused
pub revisions_listed : (is_of_today : Bool) (c : RepoState) (command : GetFileRevsCommand) (path : PathValue) (start end newest : ℕ) (r : Option Refusal)
    → start ≡ or_youngest c command.start → end ≡ or_youngest c command.end → newest ≡ max start end
    → r ≡ file_revisions_refusal c command.wants_merged (place_at newest path) → r ≡ None
    → file_revisions_replies is_of_today c command (Ok path)
    ≡ told_in_turn c None (file_revisions (history_of c) path start end) ++ ended replies.Success
revisions_listed is_of_today c command path start end newest r started ended_at greater by none =
    judged is_of_today c command path start end newest r None started ended_at greater by none

-- those that are refused
pub revisions_refused : (is_of_today : Bool) (c : RepoState) (command : GetFileRevsCommand) (path : PathValue) (start end newest : ℕ) (r : Option Refusal) (why : Refusal)
    → start ≡ or_youngest c command.start → end ≡ or_youngest c command.end → newest ≡ max start end
    → r ≡ file_revisions_refusal c command.wants_merged (place_at newest path) → r ≡ Some why
    → file_revisions_replies is_of_today c command (Ok path) ≡ ended (failure_at is_of_today why (Some path))
revisions_refused is_of_today c command path start end newest r why started ended_at greater by refused =
    judged is_of_today c command path start end newest r (Some why) started ended_at greater by refused
