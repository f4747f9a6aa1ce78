use Rattle.std.proofs.Common.{Some, ◌⊎◌, ◌≡◌, ◌++◌, map, subst, sym, ap, ◌∙◌}
use Rattle.std.specs.{List.Contains, Map.keys_of, Map.Iter.deref}
use Rattle.noderevs.specs.Nodes.{kid_named}
use Rattle.noderevs.proofs.NamesApart.{all_apart}
use Rattle.noderevs.proofs.differing.names_apart.Goals as goal

pub returns : goal.returns
returns c = λ name.
    let gone = map deref c.deref.result.now in
    let come = map deref c.deref-2.result.now in
    subst (λ names. Contains names name ⊎ (kid_named c.args.kids.now name ≡ kid_named c.args.others.now name))
    (sym (c.in_ok-append_names-2.ensures ∙ ap (λ names. names ++ keys_of come) (c.in_ok-append_names.ensures ∙ ap (λ items. map deref items ++ keys_of gone) c.new-names.ensures.items)))
    (all_apart c.args.kids.now c.args.others.now gone come
    (λ n kid is. subst (λ list. (kid_named c.args.others.now n ≡ Some kid) ⊎ Contains list (n, kid)) (sym (ap (map deref) c.deref.ensures.value)) (c.in_ok-gone.ensures.others n kid is))
    (λ n kid is. subst (λ list. (kid_named c.args.kids.now n ≡ Some kid) ⊎ Contains list (n, kid)) (sym (ap (map deref) c.deref-2.ensures.value)) (c.in_ok-come.ensures.others n kid is)) name)
