use Rattle.seat_rows.proofs.releases.with_ample_memory_a_seat_releases_the_lock_that_it_hands_in.Given as goal

-- the history that was just opened
abbrev pub ghosts-is_played_over : goal.ghosts-is_played_over
ghosts-is_played_over g a = record { book = a.history.seen.book }
