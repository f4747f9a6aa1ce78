use Rattle.std.proofs.{Common.{◌≡◌, ◌<◌, ap, sym, subst, ◌∙◌}, Math.Logic.∥∥₁_map}
use Rattle.shared_revisions.specs.{Contents.{held_state, revisions_of}, declared.held.Held.Held}
use Rattle.world.specs.Adding.{HasFirstList}
use Rattle.world.proofs.Keeping.{same_revisions}
use Rattle.world.proofs.adding.with_first_list.Goals as goal

pub with_list-requires : goal.with_list-requires
with_list-requires c = subst (λ n. 0 < n) (sym c.args.held.now.all) c.args.held.now.begun

pub returns-clause-revised : goal.returns-clause-revised
returns-clause-revised c =
    let made : ◌≡◌ {A = Held} c.in_ok-new.field-0.value c.in_ok-revised.revised = c.in_ok-new.ensures.ok in
    let state = c.in_ok-revised.ensures.1 in
    subst (λ (h : Held). HasFirstList c.args.held.now h c.args.list) (sym made) (record {
      same = c.in_ok-revised.ensures.0;
      uuid = ap (λ x. x.uuid) state;
      lists = ap (λ x. x.properties) state;
    })

pub returns-clause-sound : goal.returns-clause-sound
returns-clause-sound c = ∥∥₁_map c.requires (λ s.
    same_revisions (held_state c.args.held.now) (held_state c.in_ok-new.field-0.value)
    (ap revisions_of c.in_ok-new.ensures.ok ∙ ap (λ x. x.revisions) c.in_ok-revised.ensures.1) s)
