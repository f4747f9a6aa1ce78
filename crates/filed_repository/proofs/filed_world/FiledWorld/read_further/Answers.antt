use Rattle.std.proofs.Common.{◌≡◌, ◌++◌, ◌∷◌, [], Ok, length, sym, ap, subst, ◌∙◌, arith, append-nil, rules, Err}
use Rattle.std.specs.{Prelude.{IsSome, is_some}, Result.result_ok}
use Rattle.noderevs.specs.{Heights.AreHigh, Held.{blocks_of, node_at}, Nodes.with_block, declared.nodes.Nodes.Nodes}
use Rattle.fsfs_nodes.specs.Properties.{properties_of}
use Rattle.fsfs.specs.{Judging.judged_revision, Pieces.revision_of}
use Rattle.repostore.specs.Reading.{IfFindsFaulty}
use Rattle.filed_trees.specs.Tables.{AreTabled}
use Rattle.filed_trees.proofs.Judged.{exact_fault, no_part}
use Rattle.filed_repository.specs.Histories.{HasHistory}
use Rattle.filed_repository.proofs.Further.{all_said, right_file, says_of}
use Rattle.filed_repository.proofs.filed_world.FiledWorld.read_further.Goals as goal

pub returns-in-Ok-clause-read : goal.returns-in-Ok-clause-read
returns-in-Ok-clause-read c =
    let f = c.args.self.now in
    let h = f.world.held.value in
    let file = c.args.revision.now in
    let pieces = c.in_ok-file.file.pieces.items in
    let changes = c.in_ok-file.file.changes.items in
    let read = c.in-Ok.read in
    let said : revision_of (length f.tables) file ≡ Ok (pieces, changes) =
    ap (λ n. revision_of n file) (sym c.len-number.ensures.length) ∙ c.in_ok-file.ensures in
    let blocks = ap blocks_of c.nodes.ensures ∙ sym (append-nil (blocks_of h.nodes)) in
    record {
      pieces = pieces;
      said = changes;
      says = said;
      judged = ap (λ n. judged_revision n pieces changes) (sym c.len-number.ensures.length) ∙ c.in_ok-judge_revision.ensures;
      readable = λ files all. c.in-Ok.ensures.judges files file (blocks_of h.nodes) [] h.changes all blocks said;
      tabled = λ files all. c.in-Ok.ensures.tabled files file (blocks_of h.nodes) [] h.changes all blocks said;
      high = λ files all. subst (λ n. AreHigh (with_block (node_at h.nodes) n read.block.nodes.items)) all.tabled
          (subst (λ (ns : Nodes). AreHigh (with_block (node_at ns) (length f.tables) read.block.nodes.items)) c.nodes.ensures
          (c.in-Ok.ensures.high files file h.changes
          (subst (λ (ns : Nodes). AreTabled files (blocks_of ns) f.tables h.changes) (sym c.nodes.ensures) all) said));
    }

pub returns-in_err-file-clause-faulty : goal.returns-in_err-file-clause-faulty
returns-in_err-file-clause-faulty c = λ files is.
    let f = c.args.self.now in
    let h = f.world.held.value in
    let file = c.args.revision.now in
    let begun = c.requires in
    let some : f.tables ≡ [] → ⊥ = λ none. let n = ap length none in omega (arith, n, begun) in
    let right = HasHistory (files ++ file ∷ []) × IsSome (result_ok (properties_of c.args.properties.now)) in
    let fault = c.in_err-file.field-0.0 in
    let result : c.from_residual.result ≡ Err fault = search rules in
    subst (λ r. IfFindsFaulty r (right → ⊥)) (sym result)
    (no_part fault (λ (p : right). let s = says_of h f.tables files some is file p.0 in
    ap (λ r. is_some (result_ok r)) (ap (λ n. revision_of n file) c.len-number.ensures.length ∙ s.1.1.0))
    (exact_fault fault (revision_of c.len-number.result file) c.in_err-file.ensures))

pub returns-in_err-judge_revision-clause-faulty : goal.returns-in_err-judge_revision-clause-faulty
returns-in_err-judge_revision-clause-faulty c = λ files is.
    let f = c.args.self.now in
    let h = f.world.held.value in
    let file = c.args.revision.now in
    let begun = c.requires in
    let some : f.tables ≡ [] → ⊥ = λ none. let n = ap length none in omega (arith, n, begun) in
    let right = HasHistory (files ++ file ∷ []) × IsSome (result_ok (properties_of c.args.properties.now)) in
    let pieces = c.in_ok-file.file.pieces.items in
    let changes = c.in_ok-file.file.changes.items in
    let said : revision_of (length f.tables) file ≡ Ok (pieces, changes) =
    ap (λ n. revision_of n file) (sym c.len-number.ensures.length) ∙ c.in_ok-file.ensures in
    let fault = c.in_err-judge_revision.field-0.0 in
    let result : c.from_residual-in_err-judge_revision.result ≡ Err fault = search rules in
    subst (λ r. IfFindsFaulty r (right → ⊥)) (sym result)
    (no_part fault (λ (p : right). let r = right_file h f.tables files some is file p.0 pieces changes said in
    ap (λ x. is_some (result_ok x)) (ap (λ n. judged_revision n pieces changes) c.len-number.ensures.length ∙ r.0))
    (exact_fault fault (judged_revision c.len-number.result pieces changes) c.in_err-judge_revision.ensures))

pub returns-in_err-list-clause-faulty : goal.returns-in_err-list-clause-faulty
returns-in_err-list-clause-faulty c = λ files is.
    let right = HasHistory (files ++ c.args.revision.now ∷ []) × IsSome (result_ok (properties_of c.args.properties.now)) in
    let fault = c.in_err-list.field-0.0 in
    let result : c.from_residual-in_err-list.result ≡ Err fault = search rules in
    subst (λ r. IfFindsFaulty r (right → ⊥)) (sym result)
    (no_part fault (λ (p : right). p.1) (exact_fault fault (properties_of c.args.properties.now) c.in_err-list.ensures))

pub returns-clause-faulty : goal.returns-clause-faulty
returns-clause-faulty c = λ files is.
    let f = c.args.self.now in
    let h = f.world.held.value in
    let file = c.args.revision.now in
    let begun = c.requires in
    let some : f.tables ≡ [] → ⊥ = λ none. let n = ap length none in omega (arith, n, begun) in
    let right = HasHistory (files ++ file ∷ []) × IsSome (result_ok (properties_of c.args.properties.now)) in
    let pieces = c.in_ok-file.file.pieces.items in
    let changes = c.in_ok-file.file.changes.items in
    let said : revision_of (length f.tables) file ≡ Ok (pieces, changes) =
    ap (λ n. revision_of n file) (sym c.len-number.ensures.length) ∙ c.in_ok-file.ensures in
    let all = all_said h f.tables files some is in
    let blocks = ap blocks_of c.nodes.ensures ∙ sym (append-nil (blocks_of h.nodes)) in
    no_part c.in-Err.fault (λ (p : right). (right_file h f.tables files some is file p.0 pieces changes said).1)
    (c.in-Err.ensures.judges files file (blocks_of h.nodes) [] h.changes all blocks said)
