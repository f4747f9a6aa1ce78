use Rattle.std.proofs.Common.{◌≡◌, ◌<◌, ◌∷◌, ◌++◌, [], false, ap, length, sym, subst, ◌∙◌, List}
use Rattle.published.specs.{Authors.GrowsBy, Events.{Event, Known, Told, accepted_by, told_in}, Events.Event.Fails}
use Rattle.published.proofs.{Histories.{halted_by, told_fails}, Owns.grows_failed}
use Rattle.published.proofs.authors.WholeHistory.add_failure.Goals as goal

pub next_front-next-requires-clause-halted : goal.next_front-next-requires-clause-halted
next_front-next-requires-clause-halted g c =
    let e = accepted_by g.R.Repository.txn_state c.args.asked in
    let list = c.self.inside.front in
    let n = c.author.inside.number in
    let running : (told_in list).halted ≡ false = subst (λ (l : List Event). (told_in l).halted ≡ false) (sym c.self.view_is) c.requires.running in
    sym (ap (λ (t : Told). t.halted) (told_fails list n e c.is_halted-halts.result c.failures.result) ∙ halted_by (told_in list) n e c.is_halted-halts.result c.failures.result running)

pub tell-requires-clause-grows : goal.tell-requires-clause-grows
tell-requires-clause-grows g c =
    let e = accepted_by g.R.Repository.txn_state c.args.asked in
    let h = c.is_halted-halts.result in
    let f = c.failures.result in
    let number : c.author.inside.number ≡ c.args.author.now.number = ap (λ (k : Known). k.number) c.author.view_is in
    let is : c.next_front-next.result ≡ c.args.self.now ++ Fails c.args.author.now.number e h f ∷ [] = c.next_front-next.ensures.0 ∙ (λ i. c.self.view_is i ++ Fails (number i) e h f ∷ []) in
    let begun : 0 < length c.args.self.now = subst (λ (l : List Event). 0 < length l) c.self.view_is c.self.invariant.0 in
    subst (λ (l : List Event). GrowsBy c.args.author.now.number c.args.self.now l) (sym is) (grows_failed c.args.author.now.number c.args.self.now e h f begun)
