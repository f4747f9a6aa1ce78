-- A search through revisions, the oldest first.
use Rattle.std.proofs.Common.{◌≡◌, ◌<◌, ◌≤◌, ◌-◌, ◌+◌, ℕ, suc, true, false, Some, None, arith, ap, ◌∙◌}
use Rattle.std.specs.{List.find, Prelude.cond}
use Rattle.svnpath.specs.Paths.{PathValue}
use Rattle.repo_api.specs.Histories.{History}
use Rattle.file_histories.specs.Deleted.{is_taken_away, revisions_after}

-- the first of those that are left
one_left : (h : History) (p : PathValue) (n high : ℕ) → n < high
    → find (is_taken_away h p) (revisions_after n (high - n))
    ≡ cond (is_taken_away h p (n + 1)) (Some (n + 1)) (find (is_taken_away h p) (revisions_after (n + 1) (high - (n + 1))))
one_left h p n high under =
    let more : high - n ≡ suc (high - (n + 1)) = omega (arith, under) in
    let next : suc n ≡ n + 1 = omega arith in
    ap (λ k. find (is_taken_away h p) (revisions_after n k)) more
    ∙ ap (λ m. cond (is_taken_away h p m) (Some m) (find (is_taken_away h p) (revisions_after m (high - (n + 1))))) next

pub found_on : (h : History) (p : PathValue) (n high : ℕ) → n < high → is_taken_away h p (n + 1) ≡ false
    → find (is_taken_away h p) (revisions_after n (high - n)) ≡ find (is_taken_away h p) (revisions_after (n + 1) (high - (n + 1)))
found_on h p n high under stays =
    one_left h p n high under ∙ ap (λ b. cond b (Some (n + 1)) (find (is_taken_away h p) (revisions_after (n + 1) (high - (n + 1))))) stays

pub found_now : (h : History) (p : PathValue) (n high : ℕ) → n < high → is_taken_away h p (n + 1) ≡ true
    → find (is_taken_away h p) (revisions_after n (high - n)) ≡ Some (n + 1)
found_now h p n high under goes =
    one_left h p n high under ∙ ap (λ b. cond b (Some (n + 1)) (find (is_taken_away h p) (revisions_after (n + 1) (high - (n + 1))))) goes

pub found_none : (h : History) (p : PathValue) (n high : ℕ) → high ≤ n → find (is_taken_away h p) (revisions_after n (high - n)) ≡ None
found_none h p n high over =
    let none : high - n ≡ 0 = omega (arith, over) in
    ap (λ k. find (is_taken_away h p) (revisions_after n k)) none
