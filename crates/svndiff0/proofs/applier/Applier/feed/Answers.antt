use Rattle.std.proofs.{Common.{◌≡◌, ◌∙◌, refl}, lemmas.Result.err_from_is_err_and}
use Rattle.svndiff0.specs.{declared.stage.Stage.TheVariants.Broken, Targets.target_bytes}
use Rattle.svndiff0.proofs.{Stages.{left_is, fed_view, sound_view, same_view, cut_is, feeds_broken}, Documents.fed_more}
use Rattle.svndiff0.proofs.applier.Applier.feed.Goals as goal

pub returns-in-Broken-clause-pieces : goal.returns-in-Broken-clause-pieces
returns-in-Broken-clause-pieces c = λ document h. fed_more c.args.self.now document c.args.piece.now h

pub returns-in_err-extend_from_slice : goal.returns-in_err-extend_from_slice
returns-in_err-extend_from_slice c =
    let p = err_from_is_err_and c.from_residual.result c.from_residual.ensures.1 in
    record {
      feeds = rw (p.1, p.2) (same_view _ _ _ _ _ c.self.inside.stage _ c.self.view_is refl c.in_err-extend_from_slice.ensures.err);
      pieces = λ document h. fed_more c.args.self.now document c.args.piece.now h;
    }

pub returns-in-Ok : goal.returns-in-Ok
returns-in-Ok c =
    let r = rw (c.as_slice-base.ensures.value, c.deref.ensures, c.as_slice-bytes.ensures) at c.in-Ok.ensures.reads in
    let kept : c.advance.new.self.items ≡ c.in-Ok.rest.now = c.advance.ensures.items ∙ left_is _ _ _ c.len.ensures.value r.3 in
    record {
      feeds = (fed_view _ _ _ _ _ _ _ _ c.self.inside.stage c.in-Ok.stage _ c.self.view_is c.in_ok-extend_from_slice.ensures.ok r.0 kept, sound_view (target_bytes c.read_on.new.self) _ _ c.in-Ok.stage kept r.1);
      pieces = λ document h. fed_more c.args.self.now document c.args.piece.now h;
    }

pub returns-in-NoMemory : goal.returns-in-NoMemory
returns-in-NoMemory c =
    record {
      feeds = same_view _ _ _ _ _ c.self.inside.stage _ c.self.view_is
          c.in-Err.ensures.err
          (c.truncate.ensures.items ∙ cut_is _ _ _ c.len-kept.ensures.value (c.args.piece.now, c.in_ok-extend_from_slice.ensures.ok));
      pieces = λ document h. fed_more c.args.self.now document c.args.piece.now h;
    }

pub returns-in_default-fault : goal.returns-in_default-fault
returns-in_default-fault c =
    let r = rw (c.as_slice-base.ensures.value, c.deref.ensures, c.as_slice-bytes.ensures) at (c.in-Err.ensures.reads c.in_default-fault.not-NoMemory) in
    record {
      feeds = feeds_broken _ _ _ c.in-Err.fault c.in_default-fault.not-NoMemory
          (fed_view _ _ _ _ _ (target_bytes c.read_on.new.self) c.extend_from_slice.new.self.items c.extend_from_slice.new.self.items c.self.inside.stage (Broken c.in-Err.fault) _ c.self.view_is c.in_ok-extend_from_slice.ensures.ok r refl) refl;
      pieces = λ document h. fed_more c.args.self.now document c.args.piece.now h;
    }
