use Rattle.std.proofs.Common.{◌≡◌, ℕ, List, None, true, false, refl, sym, subst, ◌∙◌}
use Rattle.machine.specs.Stages.{SessionState}
use Rattle.hub.specs.State.{Finds, HubState, session_of}
use Rattle.hub.proofs.hub.Hub.feed_to.Goals as goal

pub returns-then-is_halted-clause-fed : goal.returns-then-is_halted-clause-fed
returns-then-is_halted-clause-fed g c = λ _.
    let halted = subst (λ (h : HubState). h.halted ≡ true) c.self.view_is (sym c.is_halted.ensures ∙ c.if-is_halted.true) in
    ((halted, refl), g.met.S.ReplySink.nothing _)

pub returns-in_default-clause-fed : goal.returns-in_default-clause-fed
returns-in_default-clause-fed g c = λ _.
    let none = subst (λ (xs : List (ℕ × SessionState)). session_of xs c.args.number ≡ None) c.deref.ensures.value c.in_default.ensures in
    let known = subst (λ (h : HubState). (h.halted ≡ false) × (session_of h.sessions c.args.number ≡ None)) c.self.view_is
    (sym c.is_halted.ensures ∙ c.if-is_halted.false, none) in
    ((known.0, known.1, refl), g.met.S.ReplySink.nothing _)

pub feed_open-requires : goal.feed_open-requires
feed_open-requires g c =
    let here = subst (λ (xs : List (ℕ × SessionState)). Finds xs c.args.number c.in-Some.i) c.deref.ensures.value c.in-Some.ensures in
    record { found = subst (λ (h : HubState). Finds h.sessions c.args.number c.in-Some.i) c.self.view_is here }

pub returns-in-Err-clause-fed : goal.returns-in-Err-clause-fed
returns-in-Err-clause-fed g c = λ known.
    (subst (λ (h : HubState). h.halted ≡ false) c.self.view_is (sym c.is_halted.ensures ∙ c.if-is_halted.false), c.in-Err.ensures.err known)
