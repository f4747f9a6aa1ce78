-- Between the newest mark at and above a place and its revision nothing happens to it.
use Rattle.std.proofs.Common.{◌≡◌, ◌<◌, ◌≤◌, ℕ, zero, suc, Option, Some, None, true, arith, refl, sym, ◌∙◌, ◌⊎◌, inl, inr, Bool, false}
use Rattle.std.specs.Prelude.{IsSome, ◌==◌}
use borrow.Author.Tests.{eqb-true, eqb-false}
use Rattle.svnpath.specs.Paths.{PathValue}
use Rattle.repo_api.specs.{Histories.{History, IsQuiet}, Kinds.created_of, Trees.Tree, declared.entry.Entry.Entry}
use Rattle.history_marks.specs.Quiet.{own_revision, IsMarkedBy, IsUpTo, IsSettled, MarksLeadBack}

there_last : (o : Option Entry) (m : ℕ) → created_of o ≡ Some m → IsSome o
there_last None m is = cc
there_last (Some e) m is = refl

there_own : (o : Option Entry) (m : ℕ) → own_revision o ≡ Some m → IsSome o
there_own None m is = cc
there_own (Some e) m is = refl

-- a mark up to k is of no later revision
too_new : (k n : ℕ) (o : Option ℕ) → k < n → IsUpTo k o → o ≡ Some n → ⊥
too_new k n o later up is =
    let same : ◌≡◌ {A = Option ℕ} (Some up.0) (Some n) = sym up.1 ∙ is in
    let is_number : up.0 ≡ n = cc in
    let low : up.0 ≤ k = up.2 in
    omega (arith, is_number, low, later)

quiet_at : (trees : ℕ → Tree) (h : History) (p : PathValue) (k n : ℕ) → IsMarkedBy trees h → IsSettled (trees n) p k → k < n → IsQuiet (h n) p
quiet_at trees h p k n marked settled later = record {
  beneath = λ e listed under.
      too_new k n (created_of (trees n p)) later settled.last
      (marked.by_last n p e listed under (there_last (trees n p) settled.last.0 settled.last.1));
  above = λ e listed over.
      too_new k n (own_revision (trees n e.0)) later (settled.own e.0 over)
      (marked.by_own n e listed (there_own (trees n e.0) (settled.own e.0 over).0 (settled.own e.0 over).1));
}

-- the mark of the revision before
before_it : (k n : ℕ) (new old : Option ℕ) → k < suc n → IsUpTo k new → (new ≡ Some (suc n)) ⊎ (new ≡ old) → IsUpTo k old
before_it k n new old later up (inl fresh) = absurd (too_new k (suc n) new later up fresh)
before_it k n new old later up (inr kept) = (up.0, sym kept ∙ up.1, up.2)

settled_before : (trees : ℕ → Tree) (h : History) (p : PathValue) (k n : ℕ) → IsMarkedBy trees h → IsSettled (trees (suc n)) p k → k < suc n → IsSettled (trees n) p k
settled_before trees h p k n marked settled later =
    let quiet : IsQuiet (h (suc n)) p = quiet_at trees h p k (suc n) marked settled later in
    record {
      last = before_it k n (created_of (trees (suc n) p)) (created_of (trees n p)) later settled.last
          (marked.keeps_last n p (λ e listed over made. quiet.above e listed over) (there_last (trees (suc n) p) settled.last.0 settled.last.1));
      own = λ above over.
          before_it k n (own_revision (trees (suc n) above)) (own_revision (trees n above)) later (settled.own above over)
          (marked.keeps_own n p above (λ e listed over made. quiet.above e listed over) over (there_own (trees (suc n) above) (settled.own above over).0 (settled.own above over).1));
    }

quiet_between : (trees : ℕ → Tree) (h : History) (p : PathValue) (k n : ℕ) → IsMarkedBy trees h → IsSettled (trees n) p k
    → (m : ℕ) → k < m → m ≤ n → IsQuiet (h m) p
quiet_between trees h p k zero marked settled m later within = absurd (omega (arith, later, within))
quiet_between trees h p k (suc n) marked settled m later within =
    by (λ s low. quiet_between trees h p k n marked s m later low) (m == suc n) refl
  where
    by : (IsSettled (trees n) p k → m ≤ n → IsQuiet (h m) p) → (b : Bool) → (m == suc n) ≡ b → IsQuiet (h m) p
    by rest true same =
        let is : m ≡ suc n = eqb-true m (suc n) same in
        rw is (quiet_at trees h p k (suc n) marked settled (omega (arith, later, is)))
    by rest false other =
        let past : m ≡ suc n → ⊥ = eqb-false m (suc n) other in
        rest (settled_before trees h p k n marked settled (omega (arith, later, within))) (omega (arith, within, past))

pub lead_back : (trees : ℕ → Tree) (h : History) → IsMarkedBy trees h → MarksLeadBack trees h
lead_back trees h marked p k n settled m later within = quiet_between trees h p k n marked settled m later within
