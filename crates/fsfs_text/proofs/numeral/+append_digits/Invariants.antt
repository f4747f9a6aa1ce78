use Rattle.fsfs_text.proofs.numeral.+append_digits.Given as goal

abbrev pub decreases-append_digits : goal.decreases-append_digits
decreases-append_digits l = l.n
