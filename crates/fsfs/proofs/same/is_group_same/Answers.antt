use Rattle.std.proofs.lemmas.List.{length-take-le}
use Rattle.text_deltas.proofs.Groups.{mask_tells}
use Rattle.fsfs.proofs.same.is_group_same.Goals as goal

pub returns : goal.returns
returns c =
    mask_tells _ _ (length-take-le 32 c.args.bytes.now c.requires.0) (length-take-le 32 c.args.others.now c.requires.1)
