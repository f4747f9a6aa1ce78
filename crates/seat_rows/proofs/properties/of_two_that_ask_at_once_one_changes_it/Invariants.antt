use Rattle.seat_rows.proofs.properties.of_two_that_ask_at_once_one_changes_it.Given as goal

-- the history that was just opened
abbrev pub ghosts-change_at_once : goal.ghosts-change_at_once
ghosts-change_at_once g a = record { book = a.history.seen.book }
