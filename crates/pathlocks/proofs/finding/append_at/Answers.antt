use Rattle.std.proofs.{Common.{◌++◌, ◌∷◌, [], map, sym, ap, ◌∙◌}, lemmas.List.{append-nil, map_push}}
use Rattle.std.specs.Map.Iter.{deref_pair}
use Rattle.svnpath.specs.Paths.{path_cmp-IsAntisymmetric}
use Rattle.pathlocks.proofs.Ways.{one_at, none_at}
use Rattle.pathlocks.proofs.finding.append_at.Goals as goal

pub returns-in_ok-push : goal.returns-in_ok-push
returns-in_ok-push c =
    let key = path_cmp-IsAntisymmetric c.args.path.now c.in-Some.entry.0.now c.in-Some.ensures.same_key in
    ap (map deref_pair) c.in_ok-push.ensures.items
    ∙ map_push deref_pair c.args.found.now.items c.in-Some.entry
    ∙ ap (λ xs. map deref_pair c.args.found.now.items ++ xs)
    ((λ i. (sym key i, c.in-Some.entry.1.now) ∷ [])
    ∙ sym (one_at c.args.locks.now.entries c.args.path.now c.in-Some.entry.1.now c.note_order.ensures (sym c.in-Some.ensures.value)))

pub returns-in_default : goal.returns-in_default
returns-in_default c =
    sym (append-nil (map deref_pair c.args.found.now.items))
    ∙ ap (λ xs. map deref_pair c.args.found.now.items ++ xs) (sym (none_at c.args.locks.now.entries c.args.path.now (sym c.in_default.ensures.value)))
