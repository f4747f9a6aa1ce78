use Rattle.session_rows.proofs.logging_in.who_changes_something_has_to_log_in.Given as goal

-- the history that was just opened
abbrev pub ghosts-serve_one : goal.ghosts-serve_one
ghosts-serve_one g a = record { book = a.history.seen.book }
