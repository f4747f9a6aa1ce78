-- That trees hold together is a fact with one proof at most.
use Rattle.std.proofs.{Common.{◌≡◌, true, List, Option, Some, None}, Math.Bool.Bool-set}
use Rattle.std.specs.Prelude.{IsTrue, IsSomeAnd}
use Rattle.repo_api.specs.{States.{Revision, trees_in}, Trees.is_directory, declared.entry.Entry.Entry}
use Rattle.reporter.specs.Places.{AllHoldTogether}

true_prop : (e : Entry) → IsProp (IsTrue (is_directory e))
true_prop e = Bool-set (is_directory e) true

directory_prop : (o : Option Entry) → (x y : IsSomeAnd o (λ e. IsTrue (is_directory e))) → x ≡ y
directory_prop None x y = absurd x
directory_prop (Some e) x y = true_prop e x y

pub AllHoldTogether-prop : (rs : List Revision) → IsProp (AllHoldTogether rs)
AllHoldTogether-prop rs f g = λ i n p q at low some.
    directory_prop (trees_in rs n p) (f n p q at low some) (g n p q at low some) i
