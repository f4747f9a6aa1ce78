-- The parts of a text are the first, and those of what stands behind its slash.
use Rattle.std.proofs.{Common.{◌+◌, ◌∷◌, take, sym, ap, ◌∙◌}, lemmas.List.take_rest}
use Rattle.std.specs.List.{slice_split}
use Rattle.svnpath.proofs.TextLemmas.{slice_split_at_slash, slice_split_no_slash}
use Rattle.svnpath.specs.Texts.{is_slash}
use Rattle.svnpath.proofs.repository_url.split_first_part.Goals as goal

pub returns-in-Some : goal.returns-in-Some
returns-in-Some c =
    slice_split_at_slash c.args.text.now c.in-Some.end (sym c.in-Some.ensures)
    ∙ ap (λ rest. take c.in-Some.end c.args.text.now ∷ slice_split is_slash rest) (sym (take_rest c.args.text.now (c.in-Some.end + 1)))

pub returns-in-None : goal.returns-in-None
returns-in-None c = slice_split_no_slash c.args.text.now (sym c.in-None.ensures)
