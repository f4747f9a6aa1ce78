use Rattle.std.proofs.Common.{◌≡◌, sym, ap, subst, ◌∙◌}
use Rattle.std.specs.{FinMap.Entries.{is_sorted, put}, Prelude.{T, is_ok}}
use Rattle.shared_map.specs.Entries.{by_bytes, part_entries}
use Rattle.shared_map.proofs.Copies.{kept_or_copied, at_err, on_err, ok_then, err_then}
use Rattle.shared_map.proofs.putting.put_in_part.Goals as goal

pub returns-in_err-list-clause-err : goal.returns-in_err-list-clause-err
returns-in_err-list-clause-err g c =
    on_err c.from_residual.result _ (kept_or_copied c.args.part.now.value.items _ (λ e. ap (λ v. v.items) e)
    (at_err c.make_mut.result c.in_err-list.field-0.0 _ c.in_err-list.was c.make_mut.follows.holds-at-none))

pub put_in-requires : goal.put_in-requires
put_in-requires g c =
    subst (λ es. T (is_sorted by_bytes es)) (sym (kept_or_copied c.args.part.now.value.items c.in_ok-list.list.now.items (λ e. ap (λ v. v.items) e) c.in_ok-list.ensures.value)) c.requires

pub returns-clause-ok : goal.returns-clause-ok
returns-clause-ok g c =
    let same : part_entries c.in_ok-list.list.now ≡ part_entries c.args.part.now.value = kept_or_copied c.args.part.now.value.items c.in_ok-list.list.now.items (λ e. ap (λ v. v.items) e) c.in_ok-list.ensures.value in
    ok_then c.put_in.result _ _
    (λ e. ap part_entries (c.make_mut.follows.holds c.put_in.new.list (ap is_ok c.in_ok-list.was)) ∙ e ∙ ap (put by_bytes c.args.entry.value.0 c.args.entry.value.1) same)
    c.put_in.ensures.ok

pub returns-clause-err : goal.returns-clause-err
returns-clause-err g c =
    let same : part_entries c.in_ok-list.list.now ≡ part_entries c.args.part.now.value = kept_or_copied c.args.part.now.value.items c.in_ok-list.list.now.items (λ e. ap (λ v. v.items) e) c.in_ok-list.ensures.value in
    err_then c.put_in.result _ _
    (λ e. ap part_entries (c.make_mut.follows.holds c.put_in.new.list (ap is_ok c.in_ok-list.was)) ∙ e ∙ same)
    c.put_in.ensures.err
