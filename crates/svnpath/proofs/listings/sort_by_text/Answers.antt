-- A stable sort by the texts of the paths gives the listing.
use Rattle.std.proofs.Common.{rules}
use Rattle.svnpath.proofs.ListingLemmas.{listed_by_sort}
use Rattle.svnpath.proofs.listings.sort_by_text.Goals as goal

pub returns-clause-ok : goal.returns-clause-ok
returns-clause-ok g c = listed_by_sort _ _ _ c.sort_by.ensures.sorted c.sort_by.ensures.stable (λ a o f' k. search rules)
