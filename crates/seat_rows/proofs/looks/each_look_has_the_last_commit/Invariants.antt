use Rattle.seat_rows.proofs.looks.each_look_has_the_last_commit.Given as goal

-- the history that was just opened
abbrev pub ghosts-is_played_over : goal.ghosts-is_played_over
ghosts-is_played_over g a = record { book = a.history.seen.book }
