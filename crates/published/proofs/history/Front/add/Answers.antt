use Rattle.std.proofs.Common.{◌≡◌, sym, ◌∙◌, ap, length, ℕ, List}
use Rattle.published.specs.{Events.{Event, MayFollow}, Rules.turn_after}
use Rattle.published.proofs.Adding.{adds_moves}
use Rattle.published.proofs.history.Front.add.Goals as goal

pub compare_exchange-requires : goal.compare_exchange-requires
compare_exchange-requires g c =
    let h = c.args.book.now.head_is in
    let offer = c.plain-offer.ensures in
    let book : c.again-seen.result.book ≡ g.J.Naming.book = ap (λ s. s.book) c.again-seen.ensures ∙ c.self.invariant.1 in
    let log : c.again-seen.result.log ≡ c.self.inside.seen.log = ap (λ s. s.log) c.again-seen.ensures in
    let events : c.self.inside.events ≡ length c.args.self.now = c.self.invariant.0 ∙ ap (λ (l : List Event). length l) c.self.view_is in
    let nib : c.turn.inside.pen.nib ≡ turn_after c.self.inside.events = c.turn.invariant.1 ∙ ap (λ (n : ℕ). turn_after n) (c.turn.view_is ∙ (c.requires.turn ∙ sym events)) in
    let may : MayFollow c.again-seen.result.log c.plain-offer.result.ask = rw (log, c.self.view_is, offer.1) c.requires.may.0 in (
      ap (λ w. w.tracked) h,
      book ∙ sym (ap (λ w. w.book) h),
      c.turn.invariant.0 ∙ sym (ap (λ w. w.book) h),
      offer.0,
      rw (ap (λ w. w.key) h, nib, offer.3 ∙ c.requires.may.1) (adds_moves c.again-seen.result.log c.plain-offer.result.ask c.self.inside.events (ap (λ l. length l) log ∙ sym c.self.invariant.0) may),
    )
