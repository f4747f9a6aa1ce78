use Rattle.std.proofs.{Common.{ap, sym, subst, ◌∙◌}, Math.Logic.∥∥₁_map}
use Rattle.repo_api.specs.Accepted.{changed}
use Rattle.repostore.specs.Saving.{Stands}
use Rattle.hub.specs.State.{HubState}
use Rattle.stored_repository.specs.Keeping.{HasEitherRepository, HasRepository}
use Rattle.filed_repository.specs.Files.{IsOf, filed_content}
use Rattle.hub.proofs.opening.store_of.Goals as goal

pub returns-clause-stands : goal.returns-clause-stands
returns-clause-stands g c = λ honest running.
    let s = g.S.Store in
    let access = c.access.result.now in
    let content = ap (λ (h : HubState). h.content) (sym c.access.ensures) in
    let halted = ap (λ (h : HubState). h.halted) (sym c.access.ensures) in
    subst
    (λ store. Stands s store (λ f. ∥ HasRepository filed_content IsOf c.args.hub.now.content f ∥₁))
    (sym c.store.ensures.store)
    (subst (λ contained. Stands s access.saves.store
    (λ f. ∥ HasRepository filed_content IsOf contained f ∥₁))
    content
    (c.store.ensures.stands (subst s.is_honest c.store.ensures.store honest) (halted ∙ running)))

pub returns-clause-halted : goal.returns-clause-halted
returns-clause-halted g c =
    let s = g.S.Store in
    let access = c.access.result.now in
    let content = ap (λ (h : HubState). h.content) (sym c.access.ensures) in
    let halted = ap (λ (h : HubState). h.halted) (sym c.access.ensures) in
    let pending = ap (λ (h : HubState). h.pending) (sym c.access.ensures) in
    ∥∥₁_map c.store.ensures.halted (λ keeps honest stopped.
    let at = keeps (subst s.is_honest c.store.ensures.store honest) (halted ∙ stopped) in record {
      change = at.change;
      is_pending = sym pending ∙ at.is_pending;
      stands =
          subst (λ store. Stands s store (λ f. ∥ HasEitherRepository filed_content IsOf
          c.args.hub.now.content (changed c.args.hub.now.content at.change) f ∥₁))
          (sym c.store.ensures.store)
          (subst (λ contained. Stands s access.saves.store (λ f. ∥ HasEitherRepository
          filed_content IsOf contained (changed contained at.change) f ∥₁))
          content at.stands);
    })
