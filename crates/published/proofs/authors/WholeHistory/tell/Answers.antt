use Rattle.std.proofs.Common.{◌≡◌, ◌<◌, ◌≤◌, ◌^◌, arith, ap, length, sym, subst, ◌∙◌, List}
use Rattle.published.specs.Events.{Event, Known, count_in}
use Rattle.published.proofs.Owns.{count_le}
use Rattle.published.proofs.authors.WholeHistory.tell.Goals as goal

pub overflow_add-index_mut : goal.overflow_add-index_mut
overflow_add-index_mut g c =
    let n = c.author.inside.number in
    let front = c.self.inside.front in
    let less : n < length c.self.inside.made.items = subst (λ m. n < m) (c.len.ensures ∙ c.self.inside.made.ok.0) c.if-number-len.true in
    let is : c.index_mut.result.now ≡ count_in n front = c.index_mut.ensures.value ∙ c.self.invariant.1 n c.index_mut.result.now less in
    let le : count_in n front ≤ length front = count_le n front in
    let room : length front < 2 ^ 60 = subst (λ (l : List Event). length l < 2 ^ 60) (sym c.self.view_is) c.requires.room in
    omega (arith, is, le, room)

pub overflow_add-author : goal.overflow_add-author
overflow_add-author g c =
    let list = c.args.self.now in
    let n = c.args.author.now.number in
    let is : c.author.inside.made ≡ count_in n list = ap (λ (k : Known). k.count) c.author.view_is ∙ ap (λ (k : Known). k.count) c.requires.met in
    let le : count_in n list ≤ length list = count_le n list in
    let room : length list < 2 ^ 60 = c.requires.room in
    omega (arith, is, le, room)
