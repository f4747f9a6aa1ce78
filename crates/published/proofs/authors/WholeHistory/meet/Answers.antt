use Rattle.std.proofs.Common.{◌≡◌, ◌<◌, ap, length, sym, subst, ◌∙◌, List}
use mathlib.Core.List.{IsPrefix}
use Rattle.access.specs.Points.{Point}
use Rattle.published.specs.{Events.{Event, Known, count_in, moment_of, own_in, point_of}, Moments.{GoesOn, ListGoesOn}}
use Rattle.published.proofs.Owns.{meets}
use Rattle.published.proofs.authors.WholeHistory.meet.Goals as goal

pub returns : goal.returns
returns g c =
    let n = c.author.inside.number in
    let told = c.author.inside.told in
    let seen = c.author.inside.seen in
    let front = c.self.inside.front in
    let took = c.if-not-take.ensures.took in
    let less : n < length c.self.inside.made.items = subst (λ m. n < m) (c.len.ensures ∙ c.self.inside.made.ok.0) c.if-number-len.false in
    let counted : count_in n front ≡ count_in n told =
    sym (c.self.invariant.1 n c.index.result.now less) ∙ (sym c.index.ensures ∙ (c.if-index-author.false ∙ c.author.invariant.2)) in
    let number : n ≡ c.args.author.now.number = ap (λ (k : Known). k.number) c.author.view_is in
    let all = took ∙ c.self.view_is in
    let known = c.again.ensures ∙ c.self.view_is in
    let count = c.author.invariant.2 ∙ (sym counted ∙ (λ i. count_in (number i) (c.self.view_is i))) in
    let l : ListGoesOn seen front = subst (λ (w : List Event). ListGoesOn seen w) took c.if-not-take.ensures.later in
    let there : moment_of front (own_in n front) ≡ moment_of c.take.new.self (own_in n c.again.result) = λ i. moment_of (sym took i) (own_in n (sym c.again.ensures i)) in (
      λ i. record { number = number i; list = all i; own = own_in (number i) (known i); count = count i },
      subst (λ (k : Known). GoesOn (point_of k) (moment_of c.take.new.self (own_in n c.again.result))) c.author.view_is
          (subst (λ (q : Point). GoesOn (moment_of seen (own_in n told)) q) there (meets n told seen front c.author.invariant.1 l counted)),
      subst (λ (xs : List Event). IsPrefix xs c.args.self.now) (ap (λ (k : Known). k.list) c.author.view_is)
          (subst (λ (ys : List Event). IsPrefix seen ys) c.self.view_is l.begins),
      sym count ∙ ap (λ (k : Known). k.count) c.author.view_is,
    )
