use Rattle.seat_rows.proofs.stopped.a_commit_beside_a_look_is_found_whole_or_not_at_all.Given as goal

-- the history that was just opened
abbrev pub ghosts-look_beside : goal.ghosts-look_beside
ghosts-look_beside g a = record { book = a.history.seen.book }
