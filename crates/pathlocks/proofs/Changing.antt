-- Locks through accepted changes.
use Rattle.std.proofs.{Common.{◌≡◌, Bool, true, false, cond, not, ◌||◌, List, [], ◌∷◌, Option, Some, None, refl, sym, ap, ◌∙◌}, lemmas.Bool.false≢true}
use Rattle.std.specs.{FinMap.{get, insert, remove, get-insert, get-remove}, List.list_any, Option.{unwrap_or, option_or}, Prelude.{is_some, if◌then◌else◌}}
use Rattle.refusals.specs.declared.Refusal.{Refusal}
use Rattle.svnpath.specs.{PathLaws.same_path_is, Paths.{path_cmp_total, PathValue, same_path}}
use Rattle.repo_api.specs.{Accepted.{Accepted, changed, changed_all}, Accepted.Accepted.{ChangesProperty, Commits, Locks, Releases, Unlocks}}
use Rattle.repo_api.specs.{LockRuns.{HaveNewTokens, HaveOwnTokens, IsNewToken, names_lock}, Locking.{is_released, lock_of}, States.{LockMap, RepoState}}
use Rattle.repo_api.specs.{declared.lock.Lock.Lock, declared.lock_ask.LockAsk.LockAsk}
use Rattle.pathlocks.proofs.Releases.{at_same, left_at, not_named}

left_false : (a b : Bool) → (a || b) ≡ false → a ≡ false
left_false true b h = absurd (false≢true (sym h))
left_false false b h = refl

right_false : (a b : Bool) → (a || b) ≡ false → b ≡ false
right_false true b h = absurd (false≢true (sym h))
right_false false b h = h

-- ---- what stands after a change

pub locked_at : (m : LockMap) (p : PathValue) (l : Lock) (q : PathValue) → get (insert m p l) q ≡ cond (same_path p q) (Some l) (get m q)
locked_at m p l q = get-insert path_cmp_total m p l q ∙ ap (λ b. cond b (Some l) (get m q)) (at_same q p)

pub unlocked_at : (m : LockMap) (p q : PathValue) → get (remove m p) q ≡ cond (same_path p q) None (get m q)
unlocked_at m p q = get-remove path_cmp_total m p q ∙ ap (λ b. cond b None (get m q)) (at_same q p)

-- ---- a path that is not named

one_stays : (c : RepoState) (e : Accepted) (q : PathValue) → names_lock e q ≡ false → get (changed c e).locks q ≡ get c.locks q
one_stays c (Commits ask t) q other = refl
one_stays c (ChangesProperty ask) q other = refl
one_stays c (Locks ask) q other = locked_at c.locks ask.path (lock_of ask) q ∙ ap (λ b. cond b (Some (lock_of ask)) (get c.locks q)) other
one_stays c (Unlocks ask) q other = unlocked_at c.locks ask.path q ∙ ap (λ b. cond b None (get c.locks q)) other
one_stays c (Releases user tokens) q other =
    left_at user c.locks tokens q ∙ ap (λ b. cond (not b) (get c.locks q) None) (not_named user c.locks (get c.locks q) q tokens other)

pub all_stay : (c : RepoState) (es : List Accepted) (q : PathValue) → list_any (λ e. names_lock e q) es ≡ false → get (changed_all c es).locks q ≡ get c.locks q
all_stay c [] q others = refl
all_stay c (e ∷ es) q others =
    all_stay (changed c e) es q (right_false (names_lock e q) (list_any (λ e. names_lock e q) es) others)
    ∙ one_stays c e q (left_false (names_lock e q) (list_any (λ e. names_lock e q) es) others)

-- ---- tokens

token_of : (ask : LockAsk) (k : Lock) → ◌≡◌ {A = Option Lock} (Some (lock_of ask)) (Some k) → ask.token ≡ k.token
token_of ask k is = ap (λ o. (unwrap_or o k).token) is

distinct_lock : (m : LockMap) (ask : LockAsk) → HaveOwnTokens m → IsNewToken m ask.token → HaveOwnTokens (insert m ask.path (lock_of ask))
distinct_lock m ask own new p q k l at_p at_q same =
    by (same_path ask.path p) refl (same_path ask.path q) refl
    (sym (locked_at m ask.path (lock_of ask) p) ∙ at_p) (sym (locked_at m ask.path (lock_of ask) q) ∙ at_q)
  where
    by : (x : Bool) → same_path ask.path p ≡ x → (y : Bool) → same_path ask.path q ≡ y
        → cond x (Some (lock_of ask)) (get m p) ≡ Some k → cond y (Some (lock_of ask)) (get m q) ≡ Some l → p ≡ q
    by true x true y a b = sym (same_path_is ask.path p x) ∙ same_path_is ask.path q y
    by true x false y a b = absurd (new q l b (sym same ∙ sym (token_of ask k a)))
    by false x true y a b = absurd (new p k a (same ∙ sym (token_of ask l b)))
    by false x false y a b = own p q k l a b same

-- what only loses locks
fewer : (m n : LockMap) → ((p : PathValue) (l : Lock) → get n p ≡ Some l → get m p ≡ Some l) → HaveOwnTokens m → HaveOwnTokens n
fewer m n has own p q k l at_p at_q same = own p q k l (has p k at_p) (has q l at_q) same

not_taken : (b : Bool) (o : Option Lock) (l : Lock) → cond b None o ≡ Some l → o ≡ Some l
not_taken true o l h = absurd (false≢true (ap is_some h))
not_taken false o l h = h

not_gone : (b : Bool) (o : Option Lock) (l : Lock) → cond (not b) o None ≡ Some l → o ≡ Some l
not_gone true o l h = absurd (false≢true (ap is_some h))
not_gone false o l h = h

pub tokens_stay : (c : RepoState) (es : List Accepted) → HaveOwnTokens c.locks → HaveNewTokens c es → HaveOwnTokens (changed_all c es).locks
tokens_stay c [] own new = own
tokens_stay c (Commits ask t ∷ es) own new = tokens_stay (changed c (Commits ask t)) es own new
tokens_stay c (ChangesProperty ask ∷ es) own new = tokens_stay (changed c (ChangesProperty ask)) es own new
tokens_stay c (Locks ask ∷ es) own new = tokens_stay (changed c (Locks ask)) es (distinct_lock c.locks ask own new.0) new.1
tokens_stay c (Unlocks ask ∷ es) own new =
    tokens_stay (changed c (Unlocks ask)) es
    (fewer c.locks (changed c (Unlocks ask)).locks (λ p l at. not_taken (same_path ask.path p) (get c.locks p) l (sym (unlocked_at c.locks ask.path p) ∙ at)) own) new
tokens_stay c (Releases user tokens ∷ es) own new =
    tokens_stay (changed c (Releases user tokens)) es
    (fewer c.locks (changed c (Releases user tokens)).locks
    (λ p l at. not_gone (is_released user tokens c.locks p) (get c.locks p) l (sym (left_at user c.locks tokens p) ∙ at)) own) new

-- ---- a commit

pub first_none : (found : Bool) (r : Refusal) (o : Option Refusal) → (if found then Some r else o) ≡ None → o ≡ None
first_none true r o h = absurd (false≢true (sym (ap is_some h)))
first_none false r o h = h

pub front_none : (o n : Option Refusal) → option_or o n ≡ None → o ≡ None
front_none None n h = refl
front_none (Some r) n h = h
