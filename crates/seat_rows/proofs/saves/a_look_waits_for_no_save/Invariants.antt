use Rattle.seat_rows.proofs.saves.a_look_waits_for_no_save.Given as goal

-- the history that was just opened
abbrev pub ghosts-look_beside : goal.ghosts-look_beside
ghosts-look_beside g a = record { book = a.history.seen.book }
