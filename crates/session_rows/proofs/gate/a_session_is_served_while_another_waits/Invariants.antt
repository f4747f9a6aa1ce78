use Rattle.session_rows.proofs.gate.a_session_is_served_while_another_waits.Given as goal

-- the history that was just opened
abbrev pub ghosts-serve_two : goal.ghosts-serve_two
ghosts-serve_two g a = record { book = a.history.seen.book }
