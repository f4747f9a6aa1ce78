use Rattle.session_rows.proofs.locks.new_repository.Goals as goal

pub returns : goal.returns
returns g c = c.new_repositories_are_sound.ensures _ _ c.in_ok-repository.ensures.0 c.in_ok-repository.ensures.2
