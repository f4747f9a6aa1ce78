use Rattle.std.proofs.Common.{rules, refl, ◌≡◌, ◌<◌, ◌^◌, length}
use Rattle.fsfs.proofs.KnownTexts.{known_entries, known_same}
use Rattle.fsfs.proofs.known.KnownDump.entries_of.Goals as goal

pub returns-then-is_same : goal.returns-then-is_same
returns-then-is_same c =
    let known = c.args.self.now in
    let text = c.args.text.now in
    let entries = c.as_slice-then-is_same.result.now in
    let lengths = known.listed.lengths.items in
    let same : text ≡ known.text = search rules in
    let same_entries : entries ≡ known.listed.entries.items = search rules in
    let small : length text < 2 ^ 64 = search rules in
    known_entries text lengths entries (known_same text known.text lengths lengths entries known.listed.entries.items known.known same refl same_entries) small
