-- What is made, for a reply or on the way to one.
use Rattle.std.specs.Prelude.{◌≡◌, Result, IfOk}

-- this value is made, unless there is an error
abbrev pub Makes : {T E : Type 0} → Result T E → T → Type 0
Makes r value = IfOk r (λ made. made ≡ value)
