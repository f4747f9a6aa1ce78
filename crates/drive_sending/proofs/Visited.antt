-- Visits that are made as they are said: those that were said, and what may come behind them.
use Rattle.std.proofs.Common.{arith, ◌≡◌, ◌≤◌, ◌+◌, true, false, ℕ, List, [], ◌∷◌, ◌++◌, append-nil, append_assoc, refl, sym, ap, ◌∙◌, subst}
use Rattle.repo_api.specs.States.{RepoState}
use Rattle.wire_edits.specs.declared.editing.EditorCommand.{EditorCommand}
use Rattle.wire_replies.proofs.Parts.{part_all}
use Rattle.wire_replies.specs.Sinks.{WritesPart}
use Rattle.drive_visits.specs.{Visiting.MayVisit, Visits.Visit, Visits.Visit.{Open, Add, Delete, Close}, declared.visitor.Visitor.Visitor}
use Rattle.reporter.specs.Targets.{WholeReport}
use Rattle.drive_sides.proofs.Existing.{some_visits}
use Rattle.drive_sides.specs.{Plans.drive_trees, declared.known.DriveKnown.DriveKnown}
use Rattle.drive_sending.specs.{Commands.{around_after, plan_commands, visit_commands}, Driving.{Visiting, command_bytes}}
use Rattle.drive_sending.proofs.Written.{behind_part, both, first_part}

-- a visit opens one directory at most
pub deeper_by_one : (around : ℕ) (visit : Visit) → around_after around visit ≤ around + 1
deeper_by_one around (Open p true) = omega arith
deeper_by_one around (Open p false) = omega arith
deeper_by_one around (Add p true) = omega arith
deeper_by_one around (Add p false) = omega arith
deeper_by_one around (Delete p) = omega arith
deeper_by_one around Close = omega arith

module _ (c : RepoState) (report : WholeReport) where
  -- what a visitor has left before some visits, and after them
  abbrev MayFollow : Visitor DriveKnown → Visitor DriveKnown → List Visit → Type 0
  MayFollow start now said = (rest : List Visit) → MayVisit (drive_trees c report) now rest → MayVisit (drive_trees c report) start (said ++ rest)

  -- the commands of some visits come before those of the others, at whose beginning so many
  -- directories are open
  abbrev Splits : List Visit → ℕ → Type 0
  Splits said around = (rest : List Visit) → plan_commands c report 0 (said ++ rest) ≡ plan_commands c report 0 said ++ plan_commands c report around rest

  module _ {S : Type 0} (writes : S → S → List ℕ → Type 0) where
    -- some visits are said
    pub record HasSaid (start now : Visitor DriveKnown) (s t : S) (around : ℕ) : Type 0 where
      pub said : List Visit
      pub follows : MayFollow start now said
      pub splits : Splits said around
      pub wrote : writes s t (command_bytes (plan_commands c report 0 said))

    abbrev SaysAll : Visitor DriveKnown → S → S → Type 0
    SaysAll start s t = Visiting (drive_trees c report) start (λ visits. writes s t (command_bytes (plan_commands c report 0 visits)))

    abbrev SaysPart : Visitor DriveKnown → S → S → Type 0
    SaysPart start s t = Visiting (drive_trees c report) start (λ visits. WritesPart (writes s t) (command_bytes (plan_commands c report 0 visits)))

    -- none yet
    pub said_none : ((s : S) → writes s s []) → (start : Visitor DriveKnown) (s : S) → HasSaid start start s s 0
    said_none nothing start s = record { said = []; follows = λ rest may. may; splits = λ rest. refl; wrote = nothing s }

    -- where none is left, all is said
    pub said_all : (start now : Visitor DriveKnown) (s t : S) (around : ℕ) → HasSaid start now s t around → MayVisit (drive_trees c report) now [] → SaysAll start s t
    said_all start now s t around so end =
        (so.said, subst (MayVisit (drive_trees c report) start) (append-nil so.said) (so.follows [] end), so.wrote)

    -- where no more are said, those are a part
    pub said_part : (start now : Visitor DriveKnown) (s t : S) (around : ℕ) → HasSaid start now s t around → SaysPart start s t
    said_part start now s t around so =
        let rest : (visits : List Visit) × MayVisit (drive_trees c report) now visits = some_visits c report now in (
          so.said ++ rest.0,
          so.follows rest.0 rest.1,
          subst (λ (cs : List EditorCommand). WritesPart (writes s t) (command_bytes cs)) (sym (so.splits rest.0))
              (first_part (writes s t) (plan_commands c report 0 so.said) (plan_commands c report around rest.0) (part_all (writes s t) (command_bytes (plan_commands c report 0 so.said)) so.wrote)),
        )

    abbrev Gives : Visitor DriveKnown → Visitor DriveKnown → Visit → Type 0
    Gives now later visit = (rest : List Visit) → MayVisit (drive_trees c report) later rest → MayVisit (drive_trees c report) now (visit ∷ rest)

    splits_next : (said : List Visit) (around : ℕ) (visit : Visit) → Splits said around → (rest : List Visit)
        → plan_commands c report 0 (said ++ visit ∷ rest) ≡ plan_commands c report 0 said ++ (visit_commands c report around visit ++ plan_commands c report (around_after around visit) rest)
    splits_next said around visit splits rest = splits (visit ∷ rest)

    one_said : (said : List Visit) (around : ℕ) (visit : Visit) → Splits said around → plan_commands c report 0 (said ++ visit ∷ []) ≡ plan_commands c report 0 said ++ visit_commands c report around visit
    one_said said around visit splits = splits (visit ∷ []) ∙ ap (λ cs. plan_commands c report 0 said ++ cs) (append-nil (visit_commands c report around visit))

    module _ (more : (s t u : S) (first second : List ℕ) → writes s t first → writes t u second → writes s u (first ++ second)) where
      -- one visit more is said
      pub said_next : (start now later : Visitor DriveKnown) (s t u : S) (around after : ℕ) (visit : Visit) → HasSaid start now s t around → Gives now later visit → after ≡ around_after around visit
          → writes t u (command_bytes (visit_commands c report around visit)) → HasSaid start later s u after
      said_next start now later s t u around after visit so gives is wrote = record {
        said = so.said ++ visit ∷ [];
        follows = λ rest may. subst (MayVisit (drive_trees c report) start) (sym (append_assoc so.said (visit ∷ []) rest)) (so.follows (visit ∷ rest) (gives rest may));
        splits = λ rest.
            ap (plan_commands c report 0) (append_assoc so.said (visit ∷ []) rest)
            ∙ so.splits (visit ∷ rest)
            ∙ sym (append_assoc (plan_commands c report 0 so.said) (visit_commands c report around visit) (plan_commands c report (around_after around visit) rest))
            ∙ ap (λ cs. cs ++ plan_commands c report (around_after around visit) rest) (sym (one_said so.said around visit so.splits))
            ∙ ap (λ n. plan_commands c report 0 (so.said ++ visit ∷ []) ++ plan_commands c report n rest) (sym is);
        wrote = subst (λ (cs : List EditorCommand). writes s u (command_bytes cs)) (sym (one_said so.said around visit so.splits))
            (both writes more s t u (plan_commands c report 0 so.said) (visit_commands c report around visit) so.wrote wrote);
      }

      -- where one fails, a part is said
      pub said_failed : (start now later : Visitor DriveKnown) (s t u : S) (around : ℕ) (visit : Visit) → HasSaid start now s t around → Gives now later visit
          → WritesPart (writes t u) (command_bytes (visit_commands c report around visit)) → SaysPart start s u
      said_failed start now later s t u around visit so gives part =
          let rest : (visits : List Visit) × MayVisit (drive_trees c report) later visits = some_visits c report later in (
            so.said ++ visit ∷ rest.0,
            so.follows (visit ∷ rest.0) (gives rest.0 rest.1),
            subst (λ (cs : List EditorCommand). WritesPart (writes s u) (command_bytes cs)) (sym (splits_next so.said around visit so.splits rest.0))
                (behind_part writes more s t u (plan_commands c report 0 so.said) (visit_commands c report around visit ++ plan_commands c report (around_after around visit) rest.0) so.wrote
                (first_part (writes t u) (visit_commands c report around visit) (plan_commands c report (around_after around visit) rest.0) part)),
          )
