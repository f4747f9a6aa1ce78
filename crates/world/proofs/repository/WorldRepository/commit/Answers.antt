use Rattle.std.proofs.Common.{rules, ◌≡◌}
use Rattle.std.specs.Prelude.{None}
use Rattle.repo_api.specs.Commits.{commit_refusal, committed}
use Rattle.history_marks.specs.Sound.{IsSoundRepo}
use Rattle.shared_revisions.specs.{Contents.{held_state, state_of}, declared.held.Held.Held}
use Rattle.world.specs.Whole.{txn_state_of}
use Rattle.world.proofs.{Keeping.commit_keeps, Mapping.txn_sound}
use Rattle.world.proofs.repository.WorldRepository.commit.Goals as goal

pub invariant_of-self-2 : goal.invariant_of-self-2
invariant_of-self-2 c =
    let old = c.args.self.now.held.value in
    let locks = c.args.self.now.locks.value in
    let t = txn_state_of c.args.txn in
    let accepted : commit_refusal (state_of old locks) c.args.ask t ≡ None = search rules in
    let keeps : (new : Held) → held_state new ≡ committed (held_state old) c.args.ask t
    → ∥ IsSoundRepo (held_state new) ∥₁ =
    λ new is. commit_keeps old new locks c.args.ask t c.requires accepted is
    (txn_sound c.args.txn) c.args.self.now.sound in
    record { sound = search (keeps, rules) }
