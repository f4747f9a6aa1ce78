-- Laws of the path at which a commit is refused, for the crates above.
use Rattle.std.proofs.Common.{◌≡◌, Option, Some, None, refl}
use Rattle.std.specs.Prelude.{Result, Ok, Err, IfOk}
use Rattle.svnpath.specs.Paths.{PathValue}
use Rattle.repo_api.specs.{Commits.{IsConflictOf, IsRefusedAt}, Locking.refusing_path, States.{RepoState, TxnState}, declared.ask.CommitAsk.CommitAsk}

module _ (c : RepoState) (ask : CommitAsk) (t : TxnState) where
  -- a path in conflict
  pub refused_in_conflict : (p : PathValue) → IsConflictOf c t (Some p)
      → IsRefusedAt c ask t (Some p)
  refused_in_conflict p at = (Some p, at, refl)

  -- where none is, that of the lock that refuses, if one does
  pub refused_by_lock : {E : Type 0} (found : Result (Option PathValue) E) → IsConflictOf c t None
      → IfOk found (λ path. path ≡ refusing_path c.locks t.changes ask.author ask.tokens)
      → IfOk found (IsRefusedAt c ask t)
  refused_by_lock (Ok path) none is = (None, none, is)
  refused_by_lock (Err e) none is = tt
