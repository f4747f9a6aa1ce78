use Rattle.seat_rows.proofs.sixteen.nothing_is_lost_where_sixteen_work_at_once.Given as goal

-- the history that was just opened
abbrev pub ghosts-is_whole_behind_all : goal.ghosts-is_whole_behind_all
ghosts-is_whole_behind_all g a = record { book = a.history.seen.book }
