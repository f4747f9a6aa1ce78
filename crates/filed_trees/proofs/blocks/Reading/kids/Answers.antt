use Rattle.std.proofs.Common.{None, [], sym, ap, subst, ◌∙◌}
use Rattle.noderevs.specs.Nodes.{kid_named}
use Rattle.filed_trees.specs.{Pieces.entries_at, Comparing.{IsBody, earlier_text, tables_of}, Readable.{AreRightKids, IsTabled}, Tables.IsAt}
use Rattle.filed_trees.proofs.Entering.{nothing_named}
use Rattle.filed_trees.proofs.blocks.Reading.kids.Goals as goal

pub returns-in-Empty : goal.returns-in-Empty
returns-in-Empty c = (
  subst (AreRightKids (IsTabled (tables_of c.args.self.places)) c.args.earlier) (sym c.in-Empty.is) tt,
  λ files line body was. record {
    entries = [];
    read = ap (entries_at files) (subst (IsBody files line (earlier_text c.args.earlier)) c.in-Empty.is body);
    kids = λ name. subst (λ o. IsAt (tables_of c.args.self.places) o None)
        (sym (ap (λ m. kid_named m name) c.new.ensures ∙ nothing_named name)) tt;
  },
)
