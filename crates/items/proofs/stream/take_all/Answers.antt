-- An item more, and then none.
use Rattle.std.proofs.Common.{◌≡◌, ◌++◌, ◌∷◌, [], sym, subst, rules}
use Rattle.items.specs.{Unread.Unread, Reading.HasNone, Decoding.TakesSome}
use Rattle.items.proofs.Rows.{takes_item}
use Rattle.items.proofs.stream.take_all.Goals as goal

pub taking-preserved : goal.taking-preserved
taking-preserved c =
    let takes = rw c.in-Some.is at c.in_ok-item.ensures.item in
    let pushed : c.push.new.self.items ≡ c.taking.items.items ++ (c.in-Some.item ∷ []) = search rules in
    takes_item c.args.reader.now c.taking.reader c.next.new.self c.args.items.now.items c.taking.items.items c.push.new.self.items c.in-Some.item c.taking.invariant takes pushed

pub returns-in-None-clause-ok : goal.returns-in-None-clause-ok
returns-in-None-clause-ok c =
    let none = rw c.in-None.is at c.in_ok-item.ensures.none in
    let same : c.next.new.self ≡ c.taking.reader = none.1 in
    let P : Unread → Type 0 = λ u. TakesSome c.args.reader.now c.args.items.now.items c.taking.items.items u in
    let N : Unread → Type 0 = λ u. HasNone u in
    let there : HasNone c.next.new.self = subst N (sym same) none.0 in
    record { takes = subst P (sym same) c.taking.invariant; no_item = there.no_item }
