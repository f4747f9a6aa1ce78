use Rattle.std.proofs.Common.{map, sym, ap, ◌∙◌}
use Rattle.std.specs.{Map.Iter.deref_pair, Prelude.option_copied}
use Rattle.repo_api.specs.Locking.{first_refusal}
use Rattle.pathlocks.proofs.locks.Locks.check.Goals as goal

pub returns-in-Some : goal.returns-in-Some
returns-in-Some c =
    let refused = (λ i. first_refusal (option_copied c.args.user) (λ t. sym (c.in_ok-handed_in.ensures t) i)
    (sym (ap (map deref_pair) c.as_slice.ensures.value ∙ c.in_ok-found.ensures) i))
    ∙ sym c.first_refusal.ensures ∙ c.in-Some.is in
    (tt, refused, tt)
