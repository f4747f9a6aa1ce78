-- What a text names beneath a path has right components.
use Rattle.std.proofs.Common.{◌≡◌, ℕ, ◌+◌, List, [], ◌∷◌, ◌++◌, length, drop, Option, Some, None, Ok, refl, sym, ap, ◌∙◌, subst, append_assoc}
use Rattle.std.proofs.{lemmas.Bool.false≢true, lemmas.List.Elements.{All-nil, All-cons, All-append}}
use Rattle.std.specs.{Option.option_or, Prelude.is_some}
use Rattle.svnpath.specs.{Components.{beneath, component_fault, depth_fault, first_fault, IsComponent, unless_fault}, PathLaws.rest_append}
use Rattle.svnpath.specs.{Paths.{Component, PathValue}, Texts.{components_of, joined, without_first_slash, without_last_slash}}
use Rattle.svnpath.specs.declared.fault.PathFault.{PathFault}
use Rattle.reporter.specs.Named.{IsNamed, IsNamedBeneath}

some_none : {A : Type 0} {x : A} → Some x ≡ None → ⊥
some_none e = false≢true (sym (ap is_some e))

first_none : {A : Type 0} (a b : Option A) → option_or a b ≡ None → (a ≡ None) × (b ≡ None)
first_none None b e = (refl, e)
first_none (Some x) b e = absurd (some_none e)

-- components that nothing refuses are right ones
faultless : (n : ℕ) (cs : List Component) → first_fault n cs ≡ None → IsNamed cs
faultless n [] e = All-nil IsComponent
faultless n (c ∷ cs) e =
    let here = first_none (component_fault c) (option_or (depth_fault n) (first_fault (n + 1) cs)) e in
    All-cons IsComponent c cs (ap is_some here.0) (faultless (n + 1) cs (first_none (depth_fault n) (first_fault (n + 1) cs) here.1).1)

-- so are those beneath a path
beneath_named : (base : PathValue) (cs : List Component) (p : PathValue) → beneath base cs ≡ Ok p → (p ≡ base ++ cs) × IsNamed cs
beneath_named base cs p e = by (first_fault (length base) cs) refl e
  where
    by : (f : Option PathFault) → first_fault (length base) cs ≡ f → unless_fault f (base ++ cs) ≡ Ok p → (p ≡ base ++ cs) × IsNamed cs
    by None is h = (cc h, faultless (length base) cs is)
    by (Some fault) is h = cc h

pub joined_named : (base : PathValue) (text : List ℕ) (p : PathValue) → joined base text ≡ Ok p → IsNamedBeneath base p
joined_named base text p e =
    let cs : List Component = components_of (without_last_slash (without_first_slash text)) in
    let b : (p ≡ base ++ cs) × IsNamed cs = beneath_named base cs p e in
    let rest : drop (length base) p ≡ cs = ap (drop (length base)) b.0 ∙ rest_append base cs in
    record {
      whole = b.0 ∙ ap (λ r. base ++ r) (sym rest);
      named = subst IsNamed (sym rest) b.1;
    }

-- beneath the anchor and the target, from the anchor on
pub from_anchor : (anchor target own p : PathValue) → own ≡ anchor ++ target → IsNamed target → p ≡ own ++ drop (length own) p → IsNamed (drop (length own) p) → IsNamed ([] ++ drop (length anchor) p)
from_anchor anchor target own p is top whole rest =
    subst IsNamed (sym from_here) (All-append IsComponent target (drop (length own) p) top rest)
  where
    from_here : drop (length anchor) p ≡ target ++ drop (length own) p
    from_here =
        ap (drop (length anchor)) (whole ∙ ap (λ o. o ++ drop (length own) p) is ∙ append_assoc anchor target (drop (length own) p))
        ∙ rest_append anchor (target ++ drop (length own) p)
