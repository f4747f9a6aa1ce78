-- What a `retain` leaves at a key.
use Rattle.std.proofs.Common.{◌≡◌, Bool, true, false, cond, List, [], ◌∷◌, Option, Some, None, option_map, refl, sym, ap, subst, ◌∙◌}
use Rattle.std.specs.{Map.lookup, Map.Calls.RetainsPairs}

none_either_way : {X : Type 0} (b : Bool) → ◌≡◌ {A = Option X} None (cond b None None)
none_either_way true = refl
none_either_way false = refl

-- one entry, at its own key
step_at : {K X : Type 0} (p : K → Bool) (g : K → X → X) (test : K → Bool) (k : K) (v : X) (es rest : List (K × X)) (b : Bool)
    → p k ≡ b → test k ≡ true → lookup test rest ≡ cond (p k) (option_map (g k) (lookup test es)) None
    → lookup test (cond (p k) ((k, g k v) ∷ rest) rest) ≡ cond (p k) (option_map (g k) (cond (test k) (Some v) (lookup test es))) None
step_at p g test k v es rest true kept here ih = simp (kept, here)
step_at p g test k v es rest false kept here ih = simp kept (let h = simp kept at ih in h)

-- and at any other
step_past : {K X : Type 0} (p : K → Bool) (g : K → X → X) (test : K → Bool) (q k : K) (v : X) (es rest : List (K × X)) (b : Bool)
    → p k ≡ b → test k ≡ false → lookup test rest ≡ cond (p q) (option_map (g q) (lookup test es)) None
    → lookup test (cond (p k) ((k, g k v) ∷ rest) rest) ≡ cond (p q) (option_map (g q) (cond (test k) (Some v) (lookup test es))) None
step_past p g test q k v es rest true kept past ih = simp (kept, past) ih
step_past p g test q k v es rest false kept past ih = simp (kept, past) ih

step : {K X : Type 0} (p : K → Bool) (g : K → X → X) (test : K → Bool) (q k : K) (v : X) (es rest : List (K × X)) (a : Bool)
    → test k ≡ a → (test k ≡ true → q ≡ k) → lookup test rest ≡ cond (p q) (option_map (g q) (lookup test es)) None
    → lookup test (cond (p k) ((k, g k v) ∷ rest) rest) ≡ cond (p q) (option_map (g q) (cond (test k) (Some v) (lookup test es))) None
step p g test q k v es rest true here same ih =
    subst (λ x. lookup test rest ≡ cond (p x) (option_map (g x) (lookup test es)) None → lookup test (cond (p k) ((k, g k v) ∷ rest) rest) ≡ cond (p x) (option_map (g x) (cond (test k) (Some v) (lookup test es))) None) (sym (same here)) (step_at p g test k v es rest (p k) refl here) ih
step p g test q k v es rest false past same ih = step_past p g test q k v es rest (p k) refl past ih

-- a closure that keeps the keys that pass p, writes g of each key and value, and stays as it was
pub lookup-retained : {F K X : Type 0} (T : F → K → X → Bool → X → F → Type 0) (p : K → Bool) (g : K → X → X) (f : F)
    → ((k : K) (v : X) (b : Bool) (w : X) (f' : F) → T f k v b w f' → (b ≡ p k) × (w ≡ g k v) × (f' ≡ f))
    → (test : K → Bool) (q : K) → ((k : K) → test k ≡ true → q ≡ k)
    → (es kept : List (K × X)) → RetainsPairs T f es kept
    → lookup test kept ≡ cond (p q) (option_map (g q) (lookup test es)) None
lookup-retained T p g f means test q same [] kept r = ap (lookup test) r ∙ none_either_way (p q)
lookup-retained T p g f means test q same (e ∷ es) kept r =
    let m = means e.0 e.1 r.0 r.1 r.2 r.4 in
    let ih = lookup-retained T p g f means test q same es r.3 (subst (λ h. RetainsPairs T h es r.3) m.2 r.5) in
    ap (lookup test) r.6
    ∙ ap (λ b. lookup test (cond b ((e.0, r.1) ∷ r.3) r.3)) m.0
    ∙ ap (λ w. lookup test (cond (p e.0) ((e.0, w) ∷ r.3) r.3)) m.1
    ∙ step p g test q e.0 e.1 es r.3 (test e.0) refl (same e.0) ih
