use Rattle.std.proofs.Common.{◌≡◌, false, List, [], ◌∷◌, ◌++◌, ℕ, refl, sym, ap, subst, ◌∙◌}
use Rattle.wire_replies.specs.declared.reply.Reply.TheVariants.{Greeting}
use Rattle.machine.specs.Stages.{SessionState}
use Rattle.hub.specs.{Runs.new_session, State.{hub_at, HubState}}
use Rattle.hub.proofs.Everywhere.{AllOpen-push, HasTrees-push}
use Rattle.hub.proofs.hub.Hub.connect.Goals as goal

pub invariant_of-self : goal.invariant_of-self
invariant_of-self g c =
    let xs = c.self.inside.sessions.items in
    let n = c.in-Some.number in
    let old = hub_at c.self.inside.options (g.A.RepoAccess.point c.self.inside.access) xs c.self.inside.used in
    rw c.in-Ok-add_session.ensures.ok (AllOpen-push xs n new_session c.self.invariant.0 refl, HasTrees-push old n c.self.invariant.1)

pub returns-in-Ok-add_session-clause-ok : goal.returns-in-Ok-add_session-clause-ok
returns-in-Ok-add_session-clause-ok g c =
    let p = g.A.RepoAccess.point c.self.inside.access in
    let n = c.in-Some.number in
    let added = ap (λ (xs : List (ℕ × SessionState)). hub_at c.self.inside.options p xs n) c.in-Ok-add_session.ensures.ok in
    let new = ap (λ (h : HubState). record h { sessions = h.sessions ++ (n, new_session) ∷ []; used = n }) c.self.view_is in
    record {
      running = subst (λ (h : HubState). h.halted ≡ false) c.self.view_is (sym c.is_halted.ensures ∙ c.if-is_halted.false);
      room = c.in-Some.ensures.1;
      told = Greeting ∷ [];
      step = λ env. (c.in-Some.ensures.0, refl, refl, added ∙ new);
      written = c.in-Ok.ensures;
    }

pub returns-in_default-clause-err : goal.returns-in_default-clause-err
returns-in_default-clause-err g c =
    (subst (λ (h : HubState). h.halted ≡ false) c.self.view_is (sym c.is_halted.ensures ∙ c.if-is_halted.false), c.in_default.ensures, refl)
