-- What is remembered is so.
use Rattle.std.proofs.Common.{◌≡◌, ◌<◌, ℕ, Bool, true, [], ◌∷◌, ◌++◌, length, get_or, Some, None, sym, subst}
use Rattle.std.proofs.lemmas.List.Elements.{All-nil, All-get_or, All-push}
use Rattle.std.specs.Prelude.{All, IfOk, IfSome, OnOk, MatchBool, Result, Ok, Err}
use Rattle.svnpath.specs.Paths.{is_at_or_under, PathValue}
use Rattle.drive_visits.proofs.{Pairs.silent_as, Reasons.reason_over}
use Rattle.drive_visits.specs.{Left.IsSilent, Remembered.{IfRemembers, Remembers}, Walks.{HasReasonAt, IsSamePair, WalkedTrees}, declared.memory.Memory.Memory}
use Rattle.drive_visits.specs.declared.memory.SilentPath.{SilentPath}

-- nothing is remembered
pub nothing_remembered : {K : Type 0} (t : WalkedTrees) (m : Memory K) → m.silent.items ≡ [] → m.news ≡ None → Remembers t m
nothing_remembered {K} t m none no_news = record {
  silent = subst (All (λ (s : SilentPath K). IsSilent t s.place.path)) (sym none) (All-nil (λ (s : SilentPath K). IsSilent t s.place.path));
  news = subst (λ o. IfSome o (HasReasonAt t)) (sym no_news) tt;
}

-- what is noted is so
pub noted : {K E : Type 0} (r : Result Bool E) (t : WalkedTrees) (p : PathValue) (old new : Memory K) (b : Bool) → MatchBool b (HasReasonAt t p) (IsSilent t p)
    → IfOk r (λ found. found ≡ b) → OnOk r ((u : WalkedTrees) → (b ≡ true → HasReasonAt u p) → Remembers u old → Remembers u new)
    → IfOk r (λ found. IfRemembers t old new (MatchBool found (HasReasonAt t p) (IsSilent t p)))
noted (Ok found) t p old new b told is kept = λ so.
    (kept t (λ e. subst (λ x. MatchBool x (HasReasonAt t p) (IsSilent t p)) e told) so, subst (λ x. MatchBool x (HasReasonAt t p) (IsSilent t p)) (sym is) told)
noted (Err e) t p old new b told is kept = is

-- the path that has news is another now
pub news_noted : {K : Type 0} (t : WalkedTrees) (old new : Memory K) (p : PathValue) → new.silent.items ≡ old.silent.items → new.news ≡ Some p → HasReasonAt t p → Remembers t old → Remembers t new
news_noted {K} t old new p same is reason so = record {
  silent = subst (All (λ (s : SilentPath K). IsSilent t s.place.path)) (sym same) so.silent;
  news = subst (λ o. IfSome o (HasReasonAt t)) (sym is) reason;
}

-- one path without news more
pub silent_noted : {K : Type 0} (t : WalkedTrees) (old new : Memory K) (s : SilentPath K) → new.silent.items ≡ old.silent.items ++ s ∷ [] → new.news ≡ old.news → IsSilent t s.place.path → Remembers t old → Remembers t new
silent_noted {K} t old new s more same silent so = record {
  silent = subst (All (λ (x : SilentPath K). IsSilent t x.place.path)) (sym more) (All-push (λ (x : SilentPath K). IsSilent t x.place.path) old.silent.items s so.silent silent);
  news = subst (λ o. IfSome o (HasReasonAt t)) (sym same) so.news;
}

-- none of them
pub silent_forgotten : {K : Type 0} (t : WalkedTrees) (old new : Memory K) → new.silent.items ≡ [] → new.news ≡ old.news → Remembers t old → Remembers t new
silent_forgotten {K} t old new none same so = record {
  silent = subst (All (λ (x : SilentPath K). IsSilent t x.place.path)) (sym none) (All-nil (λ (x : SilentPath K). IsSilent t x.place.path));
  news = subst (λ o. IfSome o (HasReasonAt t)) (sym same) so.news;
}

-- what is above the path that has news
pub news_known : {K : Type 0} (t : WalkedTrees) (m : Memory K) (p q : PathValue) → m.news ≡ Some q → is_at_or_under q p ≡ true → Remembers t m → HasReasonAt t p
news_known t m p q is under so = reason_over t p q under (subst (λ o. IfSome o (HasReasonAt t)) is so.news)

-- what is of one pair with a path without news
pub silent_known : {K : Type 0} (t : WalkedTrees) (m : Memory K) (i : ℕ) (s : SilentPath K) (p : PathValue) → i < length m.silent.items → s ≡ get_or m.silent.items i s → IsSamePair t s.place.path p → Remembers t m → IsSilent t p
silent_known {K} t m i s p within is pair so =
    silent_as t s.place.path p pair (subst (λ (x : SilentPath K). IsSilent t x.place.path) (sym is) (All-get_or (λ (x : SilentPath K). IsSilent t x.place.path) m.silent.items i s within so.silent))
