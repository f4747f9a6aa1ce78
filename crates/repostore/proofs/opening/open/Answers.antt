use Rattle.std.proofs.Common.{refl, ap, ◌∙◌}
use Rattle.fsfs_text.specs.Formats.{layout_in}
use Rattle.repostore.proofs.Reaching.{same_files, is_length, format_is}
use Rattle.repostore.proofs.opening.open.Goals as goal

pub returns-in-Ok-clause-saved : goal.returns-in-Ok-clause-saved
returns-in-Ok-clause-saved g c = λ honest rests files has.
    let s = g.S.Store in
    let old = s.holds c.args.store in
    let reads = c.read_all.ensures.reads.0 in
    record {
      stands = record {
        honest = honest;
        read = same_files files old (s.holds c.read_all.new.store) (reads.same honest) has;
        left = λ f left. same_files files old f (rests f (reads.left honest f left)) has;
      };
      count = is_length old files c.in-Ok.count has (c.in-Ok.ensures.count honest);
      layout = c.in-Ok.ensures.layout honest ∙ ap layout_in (format_is old files has);
      goes_on = refl;
    }
