use Rattle.seat_rows.proofs.releases.a_commit_whose_locks_are_not_released_is_made.Given as goal

-- the history that was just opened
abbrev pub ghosts-is_played_over : goal.ghosts-is_played_over
ghosts-is_played_over g a = record { book = a.history.seen.book }
