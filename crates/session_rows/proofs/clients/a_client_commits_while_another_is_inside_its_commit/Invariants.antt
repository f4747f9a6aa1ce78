use Rattle.session_rows.proofs.clients.a_client_commits_while_another_is_inside_its_commit.Given as goal

-- the history that was just opened
abbrev pub ghosts-serve_clients : goal.ghosts-serve_clients
ghosts-serve_clients g a = record { book = a.history.seen.book }
