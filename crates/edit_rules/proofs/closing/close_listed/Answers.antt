use Rattle.std.proofs.{Common.{[], ◌∷◌, ◌++◌, take, sym, ap, ◌∙◌}, lemmas.List.take_more}
use Rattle.std.specs.Prelude.{option_copied}
use Rattle.edit_rules.proofs.Places.{closed_more}
use Rattle.edit_rules.proofs.closing.close_listed.Goals as goal

pub loop-place-preserved : goal.loop-place-preserved
loop-place-preserved c =
    let more = take_more c.args.listed.now c.loop-place.place-index c.place-item.result c.loop-place-test.true in (
      closed_more (option_copied c.args.kept) c.args.path.now c.place-item.result (take c.loop-place.place-index c.args.listed.now) _
          c.args.opened.now.entries c.loop-place.opened.entries c.close_at.new.opened.entries
          (more ∙ ap (λ x. take c.loop-place.place-index c.args.listed.now ++ x ∷ []) (sym c.place-item.is)) c.loop-place.invariant.0 c.close_at.ensures.closes,
      c.close_at.ensures.placed,
    )
