-- Commands one after the other say their steps one after the other.
use Rattle.std.proofs.{Common.{ℕ, List, [], ◌∷◌, ◌++◌, sym, ap, ◌∙◌, subst}, lemmas.List.append_assoc}
use Rattle.svnpath.specs.Paths.{PathValue}
use Rattle.wire_edits.specs.declared.editing.EditorCommand.{EditorCommand}
use Rattle.drive_rules.specs.Steps.{Step}
use Rattle.reporter.specs.{declared.ask.Purpose.Purpose, Saying.{OpenEntry, Says}}

pub says_append : (purpose : Purpose) (top : PathValue) (base : PathValue → List ℕ) (hs mid end : List OpenEntry) (xs ys : List EditorCommand) (ss ts : List Step)
    → Says purpose top base hs xs ss mid → Says purpose top base mid ys ts end → Says purpose top base hs (xs ++ ys) (ss ++ ts) end
says_append purpose top base hs mid end [] ys ss ts a b =
    subst (λ s. Says purpose top base hs ys s end) (sym (ap (λ s. s ++ ts) a.0)) (subst (λ h. Says purpose top base h ys ts end) a.1 b)
says_append purpose top base hs mid end (c ∷ xs) ys ss ts a b =
    (a.0, a.1, a.2 ++ ts, a.3, says_append purpose top base a.1 mid end xs ys a.2 ts a.4 b, ap (λ s. s ++ ts) a.5 ∙ append_assoc a.0 a.2 ts)
