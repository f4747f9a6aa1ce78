use Rattle.std.proofs.{Common.{◌||◌, inl, inr, ⊎_elim, sym, ap, ◌∙◌, map, subst}, lemmas.Bool.{or_left, or_right}}
use Rattle.std.specs.Map.Iter.{deref}
use Rattle.repo_api.specs.Readings.{DifferAtMostBy, is_name_among, names_at}
use Rattle.replays.proofs.Found.{both_found, on_ok}
use Rattle.replays.proofs.names.put_differing.Goals as goal

pub returns-in-Some-clause-differ : goal.returns-in-Some-clause-differ
returns-in-Some-clause-differ g c =
    let state = g.R.Repository.content c.args.replay.now.view.now in
    let apart = rw c.in-Some.is at c.in_ok-found.ensures in
    let found = map deref c.deref.result.now in
    let all =
    subst (λ list. DifferAtMostBy state c.args.base.now.revision c.args.base.now.path c.args.replay.now.revision c.args.path.now (map deref list)) (sym c.deref.ensures.value) apart in
    on_ok (λ puts x.
    ⊎_elim (λ among. inl (puts x ∙ or_right (is_name_among c.args.names.now.keys x) (is_name_among found x) among)) (λ same. inr (inr same)) (all x)) c.put_all.result c.put_all.ensures

pub returns-in_ok-put_names-in-None-clause-keeps :
    goal.returns-in_ok-put_names-in-None-clause-keeps
returns-in_ok-put_names-in-None-clause-keeps g c =
    let state = g.R.Repository.content c.args.replay.now.view.now in
    on_ok (λ puts x among.
    puts x ∙ or_left (is_name_among c.put_names.new.names.keys x) (is_name_among (names_at state c.args.replay.now.revision c.args.path.now) x)
    (c.in_ok-put_names-in-None.ensures x
    ∙ or_left (is_name_among c.args.names.now.keys x) (is_name_among (names_at state c.args.base.now.revision c.args.base.now.path) x) among))
    c.put_names-in-None.result c.put_names-in-None.ensures

pub returns-in_ok-put_names-in-None-clause-differ :
    goal.returns-in_ok-put_names-in-None-clause-differ
returns-in_ok-put_names-in-None-clause-differ g c =
    let state = g.R.Repository.content c.args.replay.now.view.now in
    on_ok (λ puts x.
    both_found c.put_names-in-None.new.names.keys state c.args.base.now.revision c.args.base.now.path c.args.replay.now.revision c.args.path.now (is_name_among c.args.names.now.keys x) x
    (puts x ∙ ap (λ b. b || is_name_among (names_at state c.args.replay.now.revision c.args.path.now) x) (c.in_ok-put_names-in-None.ensures x)))
    c.put_names-in-None.result c.put_names-in-None.ensures
