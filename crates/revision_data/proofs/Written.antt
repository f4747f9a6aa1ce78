-- An entry of a map that is written over in its place.
use Rattle.std.proofs.Common.{◌≡◌, Bool, true, false, cond, List, Option, Some, None, option_map, refl, sym, ap, ◌∙◌}
use Rattle.std.specs.{Prelude.{not, if◌then◌else◌}, BTreeMap.is_at}
use Rattle.svnpath.specs.{PathLaws.{at_is_same, same_path_is}, Paths.{path_cmp, PathValue, same_path}}
use Rattle.revision_data.specs.Found.{found}

-- what stood at p is written over
pub written : {X : Type 0} (old new : List (PathValue × X)) (p q : PathValue) (e w : X) (f : X → X) → Some e ≡ found old p
    → found new q ≡ cond (is_at (path_cmp p) q) (Some w) (found old q) → w ≡ f e → found new q ≡ (if same_path p q then option_map f (found old q) else found old q)
written old new p q e w f here put is = put ∙ ap (λ b. cond b (Some w) (found old q)) (at_is_same p q) ∙ by (same_path p q) refl
  where
    by : (b : Bool) → same_path p q ≡ b → cond b (Some w) (found old q) ≡ (if b then option_map f (found old q) else found old q)
    by true same = ap Some is ∙ ap (option_map f) (here ∙ ap (found old) (same_path_is p q same))
    by false same = refl

-- nothing stood at p
pub missing : {X : Type 0} (old new : List (PathValue × X)) (p q : PathValue) (f : X → X) → found old p ≡ None → new ≡ old
    → found new q ≡ (if same_path p q then option_map f (found old q) else found old q)
missing {X = X} old new p q f none is = ap (λ es. found es q) is ∙ by (same_path p q) refl
  where
    gone : (o : Option X) → o ≡ None → o ≡ option_map f o
    gone None e = refl
    gone (Some x) e = cc

    by : (b : Bool) → same_path p q ≡ b → found old q ≡ (if b then option_map f (found old q) else found old q)
    by true same = gone (found old q) (ap (found old) (sym (same_path_is p q same)) ∙ none)
    by false same = refl

-- a test inside is a test outside
pub map_if : {X : Type 0} (f : X → X) (b : Bool) (o : Option X) → option_map (λ e. if b then f e else e) o ≡ (if b then option_map f o else o)
map_if f true o = refl
map_if f false None = refl
map_if f false (Some x) = refl

pub map_same : {X : Type 0} (b : Bool) (o : Option X) → cond b (option_map (λ e. e) o) None ≡ (if b then o else None)
map_same true None = refl
map_same true (Some x) = refl
map_same false o = refl

-- what is at p or not beneath it is kept
pub kept_if : {X : Type 0} (same under : Bool) (o : Option X)
    → cond (if same then true else not under) (option_map (λ e. e) o) None
    ≡ (if same then o else (if under then None else o))
kept_if true under o = map_same true o
kept_if false true o = refl
kept_if false false o = map_same true o
