-- Whether some key of a map passes a test, by the entries that make it.
use Rattle.std.proofs.{Common.{◌≡◌, Bool, true, false, ◌||◌, List, [], ◌∷◌, is_some, refl, sym, ap, ◌∙◌}, lemmas.Bool.false≢true}
use Rattle.std.specs.{BTreeMap.is_at, List.list_any, Map.keys_of, FinMap.{FinMap, keys, from_entries, contains_key-keys}}
use Rattle.svnpath.specs.{PathLaws.{at_is_same, same_path_refl}, Paths.{path_cmp, PathValue}}
use Rattle.flat_trees.proofs.Anys.{or_right, any_at, found_key}
use Rattle.revision_data.proofs.Seen.{seen_at}

is_at_itself : (k : PathValue) → is_at (path_cmp k) k ≡ true
is_at_itself k = at_is_same k k ∙ same_path_refl k

any_into : (f : PathValue → Bool) (ks ls : List PathValue) → ((q : PathValue) → list_any (is_at (path_cmp q)) ks ≡ true → list_any (is_at (path_cmp q)) ls ≡ true)
    → list_any f ks ≡ true → list_any f ls ≡ true
any_into f [] ls into h = absurd (false≢true h)
any_into f (k ∷ ks) ls into h =
    by (f k) refl (any_into f ks ls (λ q there. into q (or_right (is_at (path_cmp q) k) (list_any (is_at (path_cmp q)) ks) there)))
  where
    by : (b : Bool) → f k ≡ b → (list_any f ks ≡ true → list_any f ls ≡ true) → list_any f ls ≡ true
    by true passes more = any_at f ls k (into k (ap (λ b. b || list_any (is_at (path_cmp k)) ks) (is_at_itself k))) passes
    by false fails more = more (ap (λ b. b || list_any f ks) (sym fails) ∙ h)

same_bool : (a b : Bool) → (a ≡ true → b ≡ true) → (b ≡ true → a ≡ true) → a ≡ b
same_bool true b there back = sym (there refl)
same_bool false true there back = back refl
same_bool false false there back = refl

pub any_seen : {X : Type 0} (f : PathValue → Bool) (es : List (PathValue × X)) (m : FinMap path_cmp X) → from_entries es ≡ m → list_any f (keys_of es) ≡ list_any f (keys m)
any_seen f es m is =
    same_bool (list_any f (keys_of es)) (list_any f (keys m)) (any_into f (keys_of es) (keys m) (λ q h. sym (same q) ∙ h)) (any_into f (keys m) (keys_of es) (λ q h. same q ∙ h))
  where
    same : (q : PathValue) → list_any (is_at (path_cmp q)) (keys_of es) ≡ list_any (is_at (path_cmp q)) (keys m)
    same q = sym (found_key es q) ∙ ap is_some (sym (seen_at es m q is)) ∙ contains_key-keys m q
