-- Whether some key of a list of entries passes a test.
use Rattle.std.proofs.Common.{◌≡◌, Bool, true, false, cond, ◌||◌, List, [], ◌∷◌, Some, is_some, refl, sym, ap, ◌∙◌}
use Rattle.std.specs.{BTreeMap.is_at, List.list_any, Map.keys_of}
use Rattle.svnpath.specs.{PathLaws.at_is, Paths.{path_cmp, PathValue}}
use Rattle.revision_data.specs.Found.{found}

pub or_right : (a b : Bool) → b ≡ true → (a || b) ≡ true
or_right true b h = refl
or_right false b h = h

-- a key that is there and passes
pub any_at : (f : PathValue → Bool) (ks : List PathValue) (k : PathValue) → list_any (is_at (path_cmp k)) ks ≡ true → f k ≡ true → list_any f ks ≡ true
any_at f [] k there passes = there
any_at f (x ∷ ks) k there passes = by (is_at (path_cmp k) x) refl (λ later. any_at f ks k later passes)
  where
    by : (b : Bool) → is_at (path_cmp k) x ≡ b → (list_any (is_at (path_cmp k)) ks ≡ true → list_any f ks ≡ true) → (f x || list_any f ks) ≡ true
    by true same more = ap (λ b. b || list_any f ks) (ap f (sym (at_is k x same)) ∙ passes)
    by false other more = or_right (f x) (list_any f ks) (more (ap (λ b. b || list_any (is_at (path_cmp k)) ks) (sym other) ∙ there))

-- what the entries have is what stands among their keys
pub found_key : {X : Type 0} (es : List (PathValue × X)) (q : PathValue) → is_some (found es q) ≡ list_any (is_at (path_cmp q)) (keys_of es)
found_key [] q = refl
found_key {X} (e ∷ es) q = by (is_at (path_cmp q) e.0) (found_key es q)
  where
    by : (b : Bool) → is_some (found es q) ≡ list_any (is_at (path_cmp q)) (keys_of es) → is_some (cond b (Some e.1) (found es q)) ≡ (b || list_any (is_at (path_cmp q)) (keys_of es))
    by true more = refl
    by false more = more
