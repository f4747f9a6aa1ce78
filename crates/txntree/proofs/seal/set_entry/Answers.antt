use Rattle.std.proofs.{Common.{◌≡◌, sym, subst}, lemmas.Result.on_ok_weaker}
use Rattle.std.specs.{FinMap.insert, Prelude.OnOk}
use Rattle.txntree.specs.Sealing.{HasEntry}
use Rattle.txntree.proofs.Entries.{has_put, has_gone}
use Rattle.txntree.proofs.seal.set_entry.Goals as goal

pub returns-in-None : goal.returns-in-None
returns-in-None c = subst (λ o. OnOk c.remove.result (HasEntry c.args.name.now o c.args.kids.now c.remove.new.self)) (sym c.in-None.is)
    (on_ok_weaker c.remove.result (has_gone c.args.kids.now c.remove.new.self c.args.name.now) c.remove.ensures.ok)

pub returns-in_ok-clone-in-Some : goal.returns-in_ok-clone-in-Some
returns-in_ok-clone-in-Some c = subst (λ o. OnOk c.put.result (HasEntry c.args.name.now o c.args.kids.now c.put.new.self)) (sym c.in-Some.is)
    (on_ok_weaker c.put.result
    (λ put. has_put c.args.kids.now c.put.new.self c.args.name.now c.in-Some.id
    (subst (λ k. c.put.new.self ≡ insert c.args.kids.now k c.in-Some.id) c.in_ok-clone-in-Some.ensures.cases put)) c.put.ensures.ok)
