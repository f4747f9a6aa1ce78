use Rattle.std.proofs.{Common.{rules, ◌≡◌, ◌+◌, ◌++◌, ◌∷◌, [], take, refl, sym, ap, ◌∙◌}, lemmas.List.take_more}
use Rattle.std.specs.Prelude.{option_copied}
use Rattle.repo_api.specs.Locking.{is_held}
use Rattle.pathlocks.proofs.Releases.{Releases, begins, hit, miss, is_there, same_releases}
use Rattle.pathlocks.proofs.locks.Locks.release.Goals.{then-is_held+in-Some+in_ok-push, then-is_held+in_default, else-is_held}
use Rattle.pathlocks.proofs.locks.Locks.release.Goals as goal

pub loop-pair-init : goal.loop-pair-init
loop-pair-init c =
    let none = same_releases (option_copied c.args.user) c.args.self.now {ts = []} refl refl (sym c.in_ok-taken.ensures.items) (begins (option_copied c.args.user) c.args.self.now) in
    (none.0, none.1, none.2, search rules, search rules)

pub loop-pair-preserved : goal.loop-pair-preserved
loop-pair-preserved c =
    let user = option_copied c.args.user in
    let old = c.args.self.now in
    let pair = c.pair-item.result in
    let before = take c.loop-pair.pair-index c.args.tokens.now in
    let more : before ++ pair ∷ [] ≡ take (c.loop-pair.pair-index + 1) c.args.tokens.now
    = sym (take_more c.args.tokens.now c.loop-pair.pair-index pair c.loop-pair-test.true ∙ ap (λ t. before ++ t ∷ []) (sym c.pair-item.is)) in
    let so : Releases user old before c.loop-pair.self c.loop-pair.taken.items = (c.loop-pair.invariant.0, c.loop-pair.invariant.1, c.loop-pair.invariant.2) in
    elim c.if-is_held.branch [
      | then-is_held+in-Some+in_ok-push w ↦
          let held = ap (is_held user pair.1) (sym c.get.ensures) ∙ sym w.if-is_held.ensures in
          let now = same_releases user old more (sym (w.self-is ∙ w.take.ensures.left)) (sym (ap (λ v. v.items) w.taken-is ∙ w.in_ok-push.ensures.items))
          (hit user old before pair c.loop-pair.self c.loop-pair.taken.items w.in-Some.entry so held (sym w.take.ensures.taken ∙ w.in-Some.is)) in
          (now.0, now.1, now.2, search rules, search rules)
      | then-is_held+in_default w ↦
          absurd (is_there user old pair c.loop-pair.self (ap (is_held user pair.1) (sym c.get.ensures) ∙ sym w.if-is_held.ensures) (sym w.take.ensures.taken ∙ w.in_default.is))
      | else-is_held w ↦
          let held = ap (is_held user pair.1) (sym c.get.ensures) ∙ sym w.if-is_held.ensures in
          let now = same_releases user old more (sym w.self-is) (sym (ap (λ v. v.items) w.taken-is))
          (miss user old before pair c.loop-pair.self c.loop-pair.taken.items so held) in
          (now.0, now.1, now.2, search rules, search rules)
    ]
