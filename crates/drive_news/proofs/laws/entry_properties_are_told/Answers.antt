use Rattle.drive_news.proofs.Told.{told_of_entry}
use Rattle.drive_news.proofs.laws.entry_properties_are_told.Goals as goal

pub returns : goal.returns
returns c = told_of_entry
