use Rattle.std.proofs.{lemmas.Bool.Decides.Decides-eqb, lemmas.List.length_push, lemmas.Slice.Zip.{zip_turn, zip_end}}
use Rattle.cram.proofs.Equal.{difference_none, difference_more, difference_all}
use Rattle.cram.proofs.answer.are_equal.Goals as goal

pub loop-this-init : goal.loop-this-init
loop-this-init c = difference_none _ _

pub loop-this-preserved : goal.loop-this-preserved
loop-this-preserved c =
    let turn = zip_turn c.args.these.now c.args.those.now c.loop-this.yielded _ _ c.next.new.self _ (cc) (cc) c.loop-this.yielded_by (c.in-Some.this, c.in-Some.that) c.in-Some.is c.next.ensures.steps in
    rw length_push (difference_more _ _ _ _ _ _ c.loop-this.invariant (turn.2 0) (turn.3 0))

pub returns : goal.returns
returns c =
    let count = zip_end c.args.these.now c.args.those.now c.loop-this.yielded _ _ c.next.new.self _ (cc) (cc) c.loop-this.yielded_by c.in-None.is c.next.ensures.steps in
    let zero = difference_all _ _ _ _ c.loop-this.invariant c.requires count in
    let test = Decides-eqb c.loop-this.difference 0 in
    (λ h. zero.0 (test.0 h), λ same. test.1 (zero.1 same))
