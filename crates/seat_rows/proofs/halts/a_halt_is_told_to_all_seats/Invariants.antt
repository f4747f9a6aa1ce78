use Rattle.seat_rows.proofs.halts.a_halt_is_told_to_all_seats.Given as goal

-- the history that was just opened
abbrev pub ghosts-is_played_over : goal.ghosts-is_played_over
ghosts-is_played_over g a = record { book = a.history.seen.book }
