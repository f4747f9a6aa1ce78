use Rattle.std.proofs.{Common.{map, sym, ap, ◌∙◌, ⊎_elim, inl, inr}, lemmas.Result.IfOk-weaker}
use Rattle.std.specs.Map.Iter.{deref}
use Rattle.noderevs.specs.{Held.node_at, Nodes.kid_at}
use Rattle.shared_revisions.proofs.Seen.{among_these, same_entry, some_weaker}
use Rattle.shared_revisions.proofs.held.Held.differing_names.Goals as goal

pub returns : goal.returns
returns c =
    let h = c.args.self.now in
    let look = node_at h.nodes in
    IfOk-weaker c.differing_names.result _ _ (λ found apart.
    some_weaker found _ _ (λ names apart name.
    ⊎_elim (λ there. inl (among_these (map deref names.items) name there))
    (λ one. inr (same_entry h c.args.revision c.args.other c.args.path.now c.args.other_path.now name
    (sym (ap (λ o. kid_at look o name) c.find-one.ensures) ∙ one ∙ ap (λ o. kid_at look o name) c.find-beside.ensures)))
    (apart name)) apart)
    c.differing_names.ensures
