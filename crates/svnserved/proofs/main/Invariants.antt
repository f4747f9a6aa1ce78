use Rattle.svnserved.proofs.main.Given as goal

-- the history that was just opened
abbrev pub ghosts-serve_shared : goal.ghosts-serve_shared
ghosts-serve_shared g a = record { book = a.history.seen.book }
