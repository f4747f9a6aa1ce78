use Rattle.fsfs_text.proofs.numeral.+append_short_digits.Given as goal

abbrev pub decreases-append_short_digits : goal.decreases-append_short_digits
decreases-append_short_digits l = l.n
