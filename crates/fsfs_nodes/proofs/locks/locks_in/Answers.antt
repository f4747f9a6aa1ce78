use Rattle.std.proofs.{Common.{◌≡◌, ◌-◌, ◌<◌, ◌∷◌, length, inl, inr, ⊎_elim, subst, rules}, lemmas.Result.err_from_is_err_and}
use Rattle.repo_api.specs.{declared.limits.TheConstants.LOCK_LIMIT, Properties.PropertyList}
use Rattle.fsfs_nodes.specs.Locks.{locks_within}
use Rattle.fsfs_nodes.proofs.FolderLoops.{locks_behind, no_lock, next_lock}
use Rattle.fsfs_nodes.proofs.locks.locks_in.Goals as goal

pub returns-in_err-locked : goal.returns-in_err-locked
returns-in_err-locked c =
    let front = c.loop-key.locks.items in
    let rows = c.next.new.self in
    let at : c.loop-key.key-iterator ≡ (c.as_slice.result.now, c.as_slice-in-loop-key.result.now) ∷ rows = search rules in
    let room : length front < LOCK_LIMIT = search rules in
    let so_far = subst (λ (x : PropertyList). locks_behind front (locks_within (LOCK_LIMIT - length front) x) ≡ locks_within LOCK_LIMIT c.args.rows.now) at c.loop-key.invariant in
    let p = err_from_is_err_and c.from_residual.result c.from_residual.ensures.1 in
    rw (p.1, p.2)
    (⊎_elim (λ e. inl (no_lock front LOCK_LIMIT (c.as_slice.result.now, c.as_slice-in-loop-key.result.now) rows (locks_within LOCK_LIMIT c.args.rows.now) so_far c.in_err-locked.field-0.0 room e))
    (λ e. inr e) c.in_err-locked.ensures)

pub loop-key-preserved : goal.loop-key-preserved
loop-key-preserved c =
    let front = c.loop-key.locks.items in
    let rows = c.next.new.self in
    let at : c.loop-key.key-iterator ≡ (c.as_slice.result.now, c.as_slice-in-loop-key.result.now) ∷ rows = search rules in
    let room : length front < LOCK_LIMIT = search rules in
    let so_far = subst (λ (x : PropertyList). locks_behind front (locks_within (LOCK_LIMIT - length front) x) ≡ locks_within LOCK_LIMIT c.args.rows.now) at c.loop-key.invariant in
    rw c.in_ok-push.ensures.items
    (next_lock front LOCK_LIMIT (c.as_slice.result.now, c.as_slice-in-loop-key.result.now) rows (locks_within LOCK_LIMIT c.args.rows.now) so_far c.in_ok-locked.locked room c.in_ok-locked.ensures)
