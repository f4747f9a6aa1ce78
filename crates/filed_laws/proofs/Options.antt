-- What holds of what an option has.
use Rattle.std.proofs.Common.{◌≡◌, Bool, true, false, Option, Some, None, subst}
use Rattle.std.specs.Prelude.{IfSome, option_and_then, option_map, if◌then◌else◌}

pub of_some : {X : Type 0} (P : X → Type 0) (o : Option X) (x : X) → o ≡ Some x → IfSome o P → P x
of_some P o x e h = subst (λ (q : Option _). IfSome q P) e h

pub more_some : {X : Type 0} {P Q : X → Type 0} (o : Option X) → ((x : X) → P x → Q x) → IfSome o P → IfSome o Q
more_some None more h = tt
more_some (Some x) more h = more x h

-- of each there is
pub each_some : {X : Type 0} (P : X → Type 0) (o : Option X) → ((x : X) → o ≡ Some x → P x) → IfSome o P
each_some P None h = tt
each_some P (Some x) h = h x refl'
  where
    refl' : Some x ≡ Some x
    refl' = λ i. Some x

pub then_some : {X Y : Type 0} (P : Y → Type 0) (f : X → Option Y) (o : Option X) → ((x : X) → o ≡ Some x → IfSome (f x) P) → IfSome (option_and_then f o) P
then_some P f None h = tt
then_some P f (Some x) h = h x (λ i. Some x)

pub map_some : {X Y : Type 0} (P : Y → Type 0) (f : X → Y) (o : Option X) → IfSome o (λ x. P (f x)) → IfSome (option_map f o) P
map_some P f None h = tt
map_some P f (Some x) h = h

pub if_some : {X : Type 0} (P : X → Type 0) (c : Bool) (a b : Option X) → IfSome a P → IfSome b P → IfSome (if c then a else b) P
if_some P true a b first other = first
if_some P false a b first other = other
