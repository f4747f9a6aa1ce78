-- A run of calls behind another.
use Rattle.std.proofs.Common.{◌⊎◌, inl, inr, ⊎_elim, arith}
use Rattle.store_files.specs.{Folders.Folder, Stops.LeavesOnly, declared.store.Store.Ghosts}

pub join : {S : Type 0} (s : Ghosts S) (start mid end : S) (P Q : Folder → Type 0)
    → LeavesOnly s start mid P → LeavesOnly s mid end Q
    → LeavesOnly s start end (λ f. P f ⊎ Q f)
join s start mid end P Q a b = record {
  later = omega (arith, a.later, b.later);
  each = λ f left. ⊎_elim (λ was. inl (a.each f was)) (λ q. inr q) (b.before (s.moment start) f a.later left);
  before = λ t f le left. ⊎_elim (λ was. ⊎_elim (λ old. inl old) (λ p. inr (inl p)) (a.before t f le was)) (λ q. inr (inr q)) (b.before t f (omega (arith, le, a.later)) left);
}
