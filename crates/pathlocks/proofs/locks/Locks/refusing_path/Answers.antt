use Rattle.std.proofs.{Common.{map, sym, ap, ◌∙◌}, lemmas.Result.IfOk-weaker}
use Rattle.std.specs.{Map.Iter.deref_pair, Prelude.option_copied}
use Rattle.repo_api.specs.Locking.{first_refusing}
use Rattle.pathlocks.proofs.locks.Locks.refusing_path.Goals as goal

pub returns : goal.returns
returns c =
    let first = (λ i. first_refusing (option_copied c.args.user) (λ t. sym (c.in_ok-handed_in.ensures t) i)
    (sym (ap (map deref_pair) c.as_slice.ensures.value ∙ c.in_ok-found.ensures) i))
    ∙ sym c.first_refusing.ensures in
    IfOk-weaker c.copied.result _ _ (λ path is. is ∙ sym first) c.copied.ensures
