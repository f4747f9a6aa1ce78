use Rattle.std.proofs.lemmas.List.{length-take-le}
use Rattle.text_deltas.proofs.Groups.{mask_tells}
use Rattle.text_deltas.proofs.shared.is_alike.Goals as goal

pub returns : goal.returns
returns c =
    mask_tells _ _ (length-take-le 32 c.args.before.now c.requires.0) (length-take-le 32 c.args.text.now c.requires.1)
