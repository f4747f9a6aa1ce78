use Rattle.std.proofs.Common.{◌≡◌, ◌+◌, ◌++◌, ◌∷◌, [], arith, map, take, sym, subst}
use Rattle.std.specs.Prelude.{string_bytes}
use Rattle.serving.specs.Asked.{AreSocketTexts}
use Rattle.serving.proofs.Addresses.{one_more}
use Rattle.serving.proofs.settings.addresses_of.Goals as goal

pub loop-place-preserved : goal.loop-place-preserved
loop-place-preserved c =
    let listen = c.args.listen.now in
    let at = c.loop-place.place in
    let read = c.loop-place.addresses.items in
    let address = c.in_ok-address_at.field-0 in
    let items : c.push.new.self.items ≡ read ++ address ∷ [] = c.in_ok-push.ensures.items in
    subst (λ items. AreSocketTexts (map string_bytes (take (at + 1) listen)) items) (sym items)
    (one_more string_bytes listen at read address (omega (arith)) c.loop-place.invariant c.in_ok-address_at.ensures)
