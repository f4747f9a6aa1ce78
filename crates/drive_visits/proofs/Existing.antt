-- That some plan exists, whatever is left.
use Rattle.std.proofs.Common.{arith, ◌≡◌, ◌<◌, ◌≤◌, ◌+◌, ℕ, zero, suc, Bool, true, false, List, [], ◌∷◌, ◌++◌, length, map, refl, sym, subst, ◌⊎◌, inl, inr}
use Rattle.std.proofs.{lemmas.Bool.false≢true, lemmas.List.Elements.{All-head, All-tail}}
use Rattle.std.specs.Prelude.{is_some, All}
use Rattle.svnpath.specs.Paths.{PathValue}
use Rattle.repo_api.specs.Trees.{is_directory_there}
use Rattle.drive_visits.specs.{declared.unvisited.Unvisited.Unvisited, Visits.Visit, Visits.Visit.{Open, Add, Delete}}
use Rattle.drive_visits.specs.{Left.{ArePlansOf, IsLeft, IsPlanBelow, IsPlanOf, behind}, Nesting.entry_visits}
use Rattle.drive_visits.specs.Walks.{WalkedTrees, IsChild, IsDue, IsListed, IsSame, IsShorter, deletes_of, goes_at}
use Rattle.drive_visits.proofs.{Planning.same_length, Plans.{Leads, absent, added, below_directory, below_file, comes, opened, same, staying}}
use Rattle.drive_visits.proofs.{Reasons.due_reason, Visiting.reason_of}

-- something is to be said of an entry itself, or it is the same
abbrev pub IsDecided : WalkedTrees → PathValue → Type 0
IsDecided t p = IsDue t p ⊎ IsSame t p

module _ (t : WalkedTrees) (bound : ℕ) (ends : IsShorter t.new bound) (leads : Leads t) (decided : (p : PathValue) → IsDecided t p) (listed : (p : PathValue) → (xs : List PathValue) × IsListed t p xs) where
  -- so many names more than a path has no entry under it
  abbrev Plan : Bool → PathValue → Type 0
  Plan anew p = (vs : List Visit) × IsPlanOf t anew p vs

  each_plan : (n : ℕ) (anew : Bool) (p : PathValue) (xs : List PathValue) → ((x : PathValue) → bound ≤ length x + n → Plan anew x) → bound ≤ length p + suc n → All (IsChild p) xs → (vs : List Visit) × ArePlansOf t anew xs vs
  each_plan n anew p [] plan short each = ([], refl)
  each_plan n anew p (x ∷ xs) plan short each =
      let longer : length x ≡ length p + 1 = same_length p x (All-head (IsChild p) x xs each) in
      let now : Plan anew x = plan x (omega (short, longer, arith)) in
      let later : (vs : List Visit) × ArePlansOf t anew xs vs = each_plan n anew p xs plan short (All-tail (IsChild p) x xs each) in
      (now.0 ++ later.0, (now.0, later.0, refl, now.1, later.1))

  -- below an entry that comes, or that stays
  abbrev Below : Bool → PathValue → Type 0
  Below anew p = (vs : List Visit) × (is_directory_there (t.new p) ≡ false → vs ≡ []) × IsPlanBelow t anew p vs

  below_plan : (n : ℕ) (anew : Bool) (p : PathValue) → ((x : PathValue) → bound ≤ length x + n → Plan anew x) → bound ≤ length p + suc n → is_some (t.new p) ≡ true → (anew ≡ false → goes_at t p ≡ false) → Below anew p
  below_plan n anew p plan short stands stays = by (is_directory_there (t.new p)) refl
    where
      by : (b : Bool) → is_directory_there (t.new p) ≡ b → (vs : List Visit) × (b ≡ false → vs ≡ []) × IsPlanBelow t anew p vs
      by false file = ([], λ e. refl, below_file t anew p stands file stays)
      by true directory =
          let l : (xs : List PathValue) × IsListed t p xs = listed p in
          let e : (vs : List Visit) × ArePlansOf t anew l.0 vs = each_plan n anew p l.0 plan short l.1.children.each in
          (deletes_of anew t.apart t.old t.new l.0 ++ e.0, λ f. absurd (false≢true (sym f)), below_directory t anew p l.0 e.0 l.1 e.1)

  entry_plan : (n : ℕ) (anew : Bool) (p : PathValue) → ((c : Bool) (x : PathValue) → bound ≤ length x + n → Plan c x) → bound ≤ length p + suc n → is_some (t.new p) ≡ true → Plan anew p
  entry_plan n anew p plan short stands = by (comes t anew p) refl
    where
      opens : comes t anew p ≡ false → (b : Below false p) → IsDecided t p → Plan anew p
      opens kept (vs, file, below) (inl due) = (entry_visits (is_directory_there (t.new p)) (Open p (is_directory_there (t.new p))) vs, opened t anew (is_directory_there (t.new p)) p vs leads kept stands refl file (λ sound. due_reason t p due) below)
      opens kept ([], file, below) (inr is) = let stay = staying t anew p kept in ([], subst (λ b. IsPlanOf t b p []) (sym stay.0) (same t p stay.2 is below))
      opens kept (v ∷ vs, file, below) (inr is) = (
        entry_visits (is_directory_there (t.new p)) (Open p (is_directory_there (t.new p))) (v ∷ vs),
        opened t anew (is_directory_there (t.new p)) p (v ∷ vs) leads kept stands refl file
            (λ sound. reason_of t.counts t.due t.apart t.old t.new t.own p (v ∷ vs) (inr (inl (λ e. cc))) (below.nests p) (below.right sound)) below,
      )

      by : (b : Bool) → comes t anew p ≡ b → Plan anew p
      by true new =
          let b : Below true p = below_plan n true p (plan true) short stands (λ e. absurd (false≢true (sym e))) in
          (entry_visits (is_directory_there (t.new p)) (Add p (is_directory_there (t.new p))) b.0, added t anew (is_directory_there (t.new p)) p b.0 leads new stands refl b.1 b.2)
      by false kept = opens kept (below_plan n false p (plan false) short stands (λ e. (staying t anew p kept).2)) (decided p)

  -- with as many names to come as no path has
  plan_with : (n : ℕ) (anew : Bool) (p : PathValue) → ((m : ℕ) → n ≡ suc m → (c : Bool) (x : PathValue) → bound ≤ length x + m → Plan c x) → bound ≤ length p + n → Plan anew p
  plan_with n anew p plan short = by (is_some (t.new p)) refl n refl
    where
      by : (b : Bool) → is_some (t.new p) ≡ b → (k : ℕ) → n ≡ k → Plan anew p
      by false none k is = ([], absent t anew p none)
      by true stands zero is = let less : length p < bound = ends p stands in absurd (omega (less, short, is, arith))
      by true stands (suc m) is = entry_plan m anew p (plan m is) (subst (λ k. bound ≤ length p + k) is short) stands

  plan_of : (n : ℕ) (anew : Bool) (p : PathValue) → bound ≤ length p + n → Plan anew p
  plan_of zero anew p short = plan_with zero anew p (λ m is. absurd (omega (is, arith))) short
  plan_of (suc k) anew p short = plan_with (suc k) anew p (λ m is c x near. plan_of k c x (omega (is, near, arith))) short

  -- the entries that are left in a directory
  plans_of : (anew : Bool) (xs : List PathValue) → (vs : List Visit) × ArePlansOf t anew xs vs
  plans_of anew [] = ([], refl)
  plans_of anew (x ∷ xs) =
      let now : Plan anew x = plan_of bound anew x (omega arith) in
      let later : (vs : List Visit) × ArePlansOf t anew xs vs = plans_of anew xs in
      (now.0 ++ later.0, (now.0, later.0, refl, now.1, later.1))

  -- whatever is left can be visited
  pub some_left : {K : Type 0} (ds : List (Unvisited K)) → (vs : List Visit) × IsLeft t ds vs
  some_left [] = ([], refl)
  some_left (d ∷ ds) =
      let now : (vs : List Visit) × ArePlansOf t d.is_anew d.entries.items vs = plans_of d.is_anew d.entries.items in
      let later : (vs : List Visit) × IsLeft t ds vs = some_left ds in
      ((map Delete d.deletes.items ++ now.0) ++ behind ds later.0, (map Delete d.deletes.items ++ now.0, later.0, refl, (now.0, refl, now.1), later.1))
