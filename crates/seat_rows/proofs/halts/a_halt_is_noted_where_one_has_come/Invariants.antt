use Rattle.seat_rows.proofs.halts.a_halt_is_noted_where_one_has_come.Given as goal

-- the history that was just opened
abbrev pub ghosts-is_noted : goal.ghosts-is_noted
ghosts-is_noted g a = record { book = a.history.seen.book }
