use Rattle.std.proofs.Common.{◌≡◌, sym, ◌∙◌, ap, length}
use Rattle.published.proofs.Adding.{takes_moves}
use Rattle.published.proofs.history.Front.take_turn.Goals as goal

pub compare_exchange-found-requires : goal.compare_exchange-found-requires
compare_exchange-found-requires g c =
    let h = c.args.book.now.head_is in
    let offer = c.plain-offer.ensures in
    let pen = c.no_pen-pen.ensures in
    let book : c.again-seen.result.book ≡ g.J.Naming.book = ap (λ s. s.book) c.again-seen.ensures ∙ c.self.invariant.1 in
    let log : c.again-seen.result.log ≡ c.self.inside.seen.log = ap (λ s. s.log) c.again-seen.ensures in (
      ap (λ w. w.tracked) h,
      book ∙ sym (ap (λ w. w.book) h),
      pen.0 ∙ (book ∙ sym (ap (λ w. w.book) h)),
      offer.0,
      rw (ap (λ w. w.key) h, pen.1, offer.3) (takes_moves c.again-seen.result.log c.plain-offer.result.ask c.self.inside.events (ap (λ l. length l) log ∙ sym c.self.invariant.0)),
    )
