use Rattle.seat_rows.proofs.properties.of_two_that_have_seen_one_value_one_changes_it.Given as goal

-- the history that was just opened
abbrev pub ghosts-is_played_over : goal.ghosts-is_played_over
ghosts-is_played_over g a = record { book = a.history.seen.book }
