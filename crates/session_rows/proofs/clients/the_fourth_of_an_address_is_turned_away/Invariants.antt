use Rattle.session_rows.proofs.clients.the_fourth_of_an_address_is_turned_away.Given as goal

-- the history that was just opened
abbrev pub ghosts-serve_clients : goal.ghosts-serve_clients
ghosts-serve_clients g a = record { book = a.history.seen.book }
