-- Each lock in the way of what no lock refuses is held.
use Rattle.std.proofs.{Common.{◌≡◌, ℕ, true, List, Option, Some, None, sym, ◌∙◌}, lemmas.List.Sorted.list_any-IsPermutation}
use Rattle.std.specs.{FinMap.{get, entries}, List.filter, Prelude.is_some}
use Rattle.repo_api.specs.{Locking.{check_refusal, HandedTokens, in_the_way, is_handed_in, is_in_the_way, way_refusal}, StateLaws.get_entries}
use Rattle.repo_api.specs.{States.{ChangeMap, LockMap}, declared.lock.Lock.Lock}
use Rattle.svnpath.specs.{Listings.listing_permutation, Paths.PathValue}
use Rattle.pathlocks.proofs.Held.{held, none_refuses, not_refused}

pub all_held : (locks : LockMap) (changes : ChangeMap) (user : Option (List ℕ)) (tokens : HandedTokens) → check_refusal locks changes user tokens ≡ None
    → (p : PathValue) (l : Lock) → get locks p ≡ Some l → is_in_the_way changes p ≡ true → (user ≡ Some l.owner) × (is_handed_in tokens l.token ≡ true)
all_held locks changes user tokens none p l at way =
    held user (is_handed_in tokens l.token) l
    (not_refused user (is_handed_in tokens) (λ e. is_in_the_way changes e.0) (entries locks) p l (sym (get_entries locks p) ∙ at) way
    (list_any-IsPermutation (λ e. is_some (way_refusal user (is_handed_in tokens) e.1)) (filter (λ e. is_in_the_way changes e.0) (entries locks)) (in_the_way locks changes)
    (listing_permutation (filter (λ e. is_in_the_way changes e.0) (entries locks)))
    ∙ none_refuses user (is_handed_in tokens) (in_the_way locks changes) none))
