-- A letter, and the bytes of a word behind it.
use Rattle.std.proofs.Common.{◌-◌, length, take, drop, ap, ◌∙◌}
use Rattle.items.specs.Values.{word}
use Rattle.items.proofs.{Views.view-Word, Fronts.{all_dropped, word_of, word_read}}
use Rattle.items.proofs.build.read_word.Goals as goal

pub from_slice-requires : goal.from_slice-requires
from_slice-requires c =
    let bytes = c.args.bytes.now in
    word_of bytes (take (length bytes - 1) (drop 1 bytes)) c.count_word-len.result c.requires (all_dropped 1 bytes) c.count_word-len.ensures.value

pub returns : goal.returns
returns c =
    let bytes = c.args.bytes.now in
    let rest = take (length bytes - 1) (drop 1 bytes) in
    let len = c.count_word-len.result in
    let behind = c.behind_space.ensures ∙ ap (λ x. drop 1 x) (all_dropped len rest) in
    let name = c.in_ok-name.name in
    let r = word_read bytes rest name c.behind_space.result.now len c.requires (all_dropped 1 bytes) c.count_word-len.ensures.value c.in_ok-name.ensures behind in
    (r.0, r.1, r.2, ap (λ t. (t, c.behind_space.result.now)) (view-Word name) ∙ r.3)
