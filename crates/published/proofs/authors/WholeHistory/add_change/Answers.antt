use Rattle.std.proofs.Common.{◌≡◌, ◌<◌, ◌∷◌, ◌++◌, [], false, ap, length, sym, subst, ◌∙◌, List}
use Rattle.published.specs.{Authors.GrowsBy, Events.{Event, Known, Told, accepted_by, told_in}, Events.Event.Makes}
use Rattle.published.proofs.{Histories.told_makes, Owns.grows_made}
use Rattle.published.proofs.authors.WholeHistory.add_change.Goals as goal

pub next_front-next-requires-clause-halted : goal.next_front-next-requires-clause-halted
next_front-next-requires-clause-halted g c =
    let e = accepted_by g.R.Repository.txn_state c.args.asked in
    let running : (told_in c.self.inside.front).halted ≡ false = subst (λ (l : List Event). (told_in l).halted ≡ false) (sym c.self.view_is) c.requires.running in
    sym (ap (λ (t : Told). t.halted) (told_makes c.self.inside.front c.author.inside.number e) ∙ running)

pub tell-requires-clause-grows : goal.tell-requires-clause-grows
tell-requires-clause-grows g c =
    let e = accepted_by g.R.Repository.txn_state c.args.asked in
    let number : c.author.inside.number ≡ c.args.author.now.number = ap (λ (k : Known). k.number) c.author.view_is in
    let is : c.next_front-next.result ≡ c.args.self.now ++ Makes c.args.author.now.number e ∷ [] = c.next_front-next.ensures.0 ∙ (λ i. c.self.view_is i ++ Makes (number i) e ∷ []) in
    let begun : 0 < length c.args.self.now = subst (λ (l : List Event). 0 < length l) c.self.view_is c.self.invariant.0 in
    subst (λ (l : List Event). GrowsBy c.args.author.now.number c.args.self.now l) (sym is) (grows_made c.args.author.now.number c.args.self.now e begun)
