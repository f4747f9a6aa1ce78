use Rattle.std.proofs.Common.{◌≡◌, ◌++◌, ◌∷◌, [], Some, length, sym, ap, subst, ◌∙◌, arith, rules, Err, refl}
use Rattle.std.specs.{Prelude.{slice_get, IsSome, is_some}, FinMap.entries, Result.result_ok}
use Rattle.noderevs.specs.Held.{blocks_of}
use Rattle.noderevs.proofs.Pushing.{last_place}
use Rattle.world.specs.Adding.{MayComeNext}
use Rattle.repostore.specs.Reading.{with_one_more}
use Rattle.fsfs_nodes.specs.Properties.{properties_of}
use Rattle.filed_trees.specs.{Readable.Judges, StandsFor.revision_bytes, Tables.AreTabled}
use Rattle.filed_trees.proofs.Judged.{still_judged}
use Rattle.filed_repository.specs.{Histories.{HasHistory, with_next}, Reading.{AreRead, read_history}}
use Rattle.filed_repository.proofs.{Further.{all_said, comes_next, has_room, history_of_next, if_judged, may_come}, Next.{next_comes, whole}}
use Rattle.filed_repository.proofs.Taken.{next_history, next_read, ok_both}
use Rattle.filed_repository.proofs.filed_world.FiledWorld.with_further_revision.Goals as goal

pub returns-clause-read : goal.returns-clause-read
returns-clause-read c = ok_both c.with_read.result (λ made taken may files are.
    let f = c.args.self.now in
    let h = f.world.held.value in
    let new = made.world.held.value in
    let read = c.in_ok-read.read in
    let list = c.in_ok-read.list in
    let is = c.in_ok-read.ensures.read in
    let file = c.args.revision.now in
    let properties = c.args.properties.now in
    let bytes = revision_bytes files in
    let more = with_one_more files (file, properties) in
    let tables = f.tables ++ read.table ∷ [] in
    let begun = c.requires in
    let some : f.tables ≡ [] → ⊥ = λ none. let n = ap length none in omega (arith, n, begun) in
    let next = next_comes f.world made.world f.tables read.block read.changes list some taken.world in
    let all : AreTabled bytes (blocks_of h.nodes) f.tables h.changes =
    subst (λ bs. AreTabled bytes bs f.tables h.changes) (whole f.tables (blocks_of h.nodes) some)
    (subst (AreTabled bytes _ f.tables) (whole f.tables h.changes some) are.tabled) in
    let behind = is.tabled bytes all in
    let readable = is.readable bytes all in
    let tabled : AreTabled (bytes ++ file ∷ []) (blocks_of new.nodes) tables new.changes =
    subst (λ bs. AreTabled (bytes ++ file ∷ []) bs tables new.changes) (sym taken.world.held.blocks)
    (subst (AreTabled (bytes ++ file ∷ []) _ tables) (sym taken.world.held.changes) behind) in
    let many : length h.properties ≡ length f.tables = h.all ∙ all.listed ∙ sym all.tabled in
    let last : slice_get new.properties (length f.tables) ≡ Some list =
    ap (λ ls. slice_get ls (length f.tables)) taken.world.held.lists
    ∙ ap (slice_get (h.properties ++ list ∷ [])) (sym many) ∙ last_place h.properties list in
    subst (λ ts. AreRead new made.world.locks.value ts made.current more) (sym taken.tables)
    (subst (λ now. AreRead new made.world.locks.value tables now more) (sym taken.current)
    (next_read h f.world.locks.value f.tables f.current files are new next made.world.locks.value file properties read.table
    taken.world.locks tabled
    (next_history h f.world.locks.value f.tables f.current files are new next file read.table tabled
    (λ pos. comes_next h f.tables bytes some are.history file is.pieces is.said is.says read.block read.table
    read.changes behind is.judged readable may.next)
    (λ no_files. absurd (omega (arith, no_files, begun, all.all, all.tabled)))
    (has_room h f.tables bytes some are.history file is.pieces is.said is.says read.block read.table
    read.changes behind is.judged readable may))
    (λ other same. c.in_ok-read.ensures.list ∙ sym last ∙ same)))) c.with_read.ensures.taken
    (if_judged (MayComeNext c.args.self.now.world.held.value c.in_ok-read.read.block (entries c.in_ok-read.read.changes)) c.with_read.result
    c.with_read.ensures.may)

pub returns-in_err-read-clause-judges : goal.returns-in_err-read-clause-judges
returns-in_err-read-clause-judges c = λ files is.
    let right = HasHistory (files ++ c.args.revision.now ∷ []) × IsSome (result_ok (properties_of c.args.properties.now)) in
    let fault = c.in_err-read.field-0.0 in
    let result : c.from_residual.result ≡ Err fault = search rules in
    subst (λ r. Judges r right) (sym result) (c.in_err-read.ensures.faulty files is)

pub returns-clause-judges : goal.returns-clause-judges
returns-clause-judges c = λ files history.
    let f = c.args.self.now in
    let h = f.world.held.value in
    let file = c.args.revision.now in
    let begun = c.requires in
    let some : f.tables ≡ [] → ⊥ = λ none. let n = ap length none in omega (arith, n, begun) in
    let read = c.in_ok-read.read in
    let is = c.in_ok-read.ensures.read in
    let all = all_said h f.tables files some history in
    let tabled = is.tabled files all in
    let readable = is.readable files all in
    still_judged c.with_read.result c.with_read.ensures.may
    (λ may. (
      (
        with_next (read_history h f.tables files) file read.block read.table read.changes,
        (refl, history_of_next h f.tables files some history file is.pieces is.said is.says read.block read.table read.changes tabled is.judged readable may),
      ),
      ap is_some c.in_ok-read.ensures.list,
    ))
    (λ p. may_come h f.tables files some history file is.pieces is.said is.says read.block read.table read.changes tabled is.judged readable p.0 (is.high files all))
