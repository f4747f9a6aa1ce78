use Rattle.std.proofs.Common.{List, ℕ, ◌++◌, sym, ap, ◌∙◌, append-nil}
use Rattle.hub.proofs.hub.greeting.Goals as goal

pub returns : goal.returns
returns c =
    c.in_ok-write.ensures ∙ ap (λ (xs : List ℕ). xs ++ _) c.new-out.ensures.items ∙ sym (append-nil _)
