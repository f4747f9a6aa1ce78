use Rattle.std.proofs.{Common.{sym, ap, ◌∙◌}, lemmas.Option.slice_get_within, lemmas.Result.IfOk-weaker}
use Rattle.std.specs.Prelude.{option_copied}
use Rattle.shared_revisions.specs.Contents.{held_state}
use Rattle.shared_revisions.proofs.Again.{set_missing}
use Rattle.shared_revisions.proofs.held.Held.with_property.Goals as goal

pub returns-in_default : goal.returns-in_default
returns-in_default c =
    let h = c.args.self.now in
    let lists = c.in_ok-share.ensures
    ∙ sym
    (set_missing h.properties c.args.revision _
    (sym c.properties.ensures ∙ ap option_copied c.in_default.is)) in
    IfOk-weaker c.with_lists.result _ _
    (λ other same. (same.0, same.1 ∙ ap (λ l. record (held_state h) { properties = l }) lists))
    c.with_lists.ensures

pub with_list-requires : goal.with_list-requires
with_list-requires c =
    slice_get_within c.args.self.now.properties c.args.revision c.in-Some.list.now
    (sym c.properties.ensures ∙ ap option_copied c.in-Some.is)
