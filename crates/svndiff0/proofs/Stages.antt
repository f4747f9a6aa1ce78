-- The stages of an applier.
use Rattle.std.proofs.Common.{◌≡◌, ◌≢◌, ℕ, true, false, cond, ◌==◌, List, [], ◌∷◌, ◌++◌, length, take, drop, Some, Ok, Err, refl, sym, ◌∙◌, ap, subst}
use Rattle.std.proofs.{Common.{append_assoc, ◌-◌, length-append, arith}, Math.Seq.{drop-append_seam, take-append_seam}, lemmas.Bool.eqb-true}
use Rattle.svndiff0.specs.{declared.fault.DiffFault.DiffFault, declared.fault.DiffFault.TheVariants.{BadHeader, TargetCopy, BadInstruction, CopyBeyondView}}
use Rattle.svndiff0.specs.{declared.fault.DiffFault.TheVariants.{ViewBeyondBase, LengthsDisagree, Truncated, TooLarge, NoMemory}, declared.stage.Stage.Stage}
use Rattle.svndiff0.specs.declared.stage.Stage.TheVariants.{Header, Windows, Broken}
use Rattle.svndiff0.specs.Document.{header, bytes_behind, header_at, Reading, broken, after_header, windows_of}
use Rattle.svndiff0.specs.{Applying.{Applying, with_more, go_on, fed, IsSound, FeedsApplier}, Stages.{reading_of, HasTextOf}}

pub behind_front : (ws bytes rest : List ℕ) → bytes_behind ws bytes ≡ Ok (Some rest) → bytes ≡ ws ++ rest
behind_front [] bytes rest e = cc
behind_front (w ∷ ws) [] rest e = cc
behind_front (w ∷ ws) (b ∷ bs) rest e =
    (elim (b == w) as (λ v. (b == w) ≡ v → cond v (bytes_behind ws bs) (Err BadHeader) ≡ Ok (Some rest) → b ∷ bs ≡ w ∷ (ws ++ rest)) [
      | true ↦ λ t h. let p : b ≡ w = eqb-true b w t in let q = behind_front ws bs rest h in cc
      | false ↦ λ t h. cc
    ]) refl e

-- the windows begin here
pub record Begins (base : List ℕ) (stage : Stage) (old bytes windows : List ℕ) : Type 0 where
  pub same : go_on base (reading_of stage old bytes) ≡ windows_of base old windows
  pub front : (front : List ℕ) × (bytes ≡ front ++ windows)

pub begins_header : (base old bytes windows : List ℕ) (stage : Stage) → HasTextOf stage old → stage ≡ Header → header_at bytes ≡ Ok (Some windows) → Begins base stage old bytes windows
unfolding header_at
begins_header base old bytes windows stage t s e =
    let none : old ≡ [] = let P : Stage → Type 0 = λ u. HasTextOf u old in subst P s t in
    record {
      same = ap (λ u. go_on base (reading_of u old bytes)) s ∙ (ap (after_header base bytes) e ∙ ap (λ u. windows_of base u windows) (sym none));
      front = (header, behind_front header bytes windows e);
    }

pub begins_windows : (base old bytes : List ℕ) (stage : Stage) → stage ≡ Windows → Begins base stage old bytes bytes
begins_windows base old bytes stage s = record { same = ap (λ u. go_on base (reading_of u old bytes)) s; front = ([], refl) }

pub fronts_join : (bytes mid rest : List ℕ) → ((front : List ℕ) × (bytes ≡ front ++ mid)) → ((front : List ℕ) × (mid ≡ front ++ rest)) → ((front : List ℕ) × (bytes ≡ front ++ rest))
fronts_join bytes mid rest f g = (f.0 ++ g.0, f.1 ∙ (ap (λ w. f.0 ++ w) g.1 ∙ sym (append_assoc f.0 g.0 rest)))

more_is : (stage : Stage) (text rest piece : List ℕ) → reading_of stage text (rest ++ piece) ≡ with_more (reading_of stage text rest) piece
more_is Header text rest piece = refl
more_is Windows text rest piece = refl
more_is (Broken f) text rest piece = refl

-- dropping all but the bytes that are left
pub left_is : (bytes left : List ℕ) (n : ℕ) → n ≡ length bytes → ((front : List ℕ) × (bytes ≡ front ++ left)) → drop (n - length left) bytes ≡ left
left_is bytes left n s f =
    let k : n - length left ≡ length f.0 = omega (arith, length-append f.0 left, ap length f.1) in
    ap (λ m. drop m bytes) k ∙ (ap (drop (length f.0)) f.1 ∙ drop-append_seam f.0 left)

pub fed_view : (base text rest piece bytes new left kept : List ℕ) (stage after : Stage) (old : Applying) → record { base = base; reading = reading_of stage text rest } ≡ old
    → bytes ≡ rest ++ piece → go_on base (reading_of stage text bytes) ≡ reading_of after new left → kept ≡ left
    → record { base = base; reading = reading_of after new kept } ≡ fed old piece
fed_view base text rest piece bytes new left kept stage after old v b g k =
    let r : reading_of after new kept ≡ go_on base (with_more (reading_of stage text rest) piece) =
    ap (reading_of after new) k ∙ (sym g ∙ (ap (λ u. go_on base (reading_of stage text u)) b ∙ ap (go_on base) (more_is stage text rest piece))) in
    rw (← v) (ap (λ (u : Reading). let a : Applying = record { base = base; reading = u } in a) r)

pub sound_view : (text rest kept : List ℕ) (stage : Stage) → kept ≡ rest → IsSound (reading_of stage text rest) → IsSound (reading_of stage text kept)
sound_view text rest kept stage k s = let P : List ℕ → Type 0 = λ u. IsSound (reading_of stage text u) in subst P (sym k) s

pub same_view : (base text rest text' rest' : List ℕ) (stage : Stage) (old : Applying) → record { base = base; reading = reading_of stage text rest } ≡ old
    → text' ≡ text → rest' ≡ rest → record { base = base; reading = reading_of stage text' rest' } ≡ old
same_view base text rest text' rest' stage old v t r = rw (t, r) v

-- cutting off what was added
pub cut_is : (old new : List ℕ) (n : ℕ) → n ≡ length old → ((added : List ℕ) × (new ≡ old ++ added)) → take n new ≡ old
cut_is old new n e g = ap (λ m. take m new) e ∙ (ap (take (length old)) g.1 ∙ take-append_seam old g.0)

pub feeds_broken : (old : Applying) (piece : List ℕ) (new : Applying) (f : DiffFault) → f ≢ NoMemory → new ≡ fed old piece → new.reading ≡ broken f → FeedsApplier old piece (Err f) new
feeds_broken old piece new BadHeader n e b = (e, b)
feeds_broken old piece new TargetCopy n e b = (e, b)
feeds_broken old piece new BadInstruction n e b = (e, b)
feeds_broken old piece new CopyBeyondView n e b = (e, b)
feeds_broken old piece new ViewBeyondBase n e b = (e, b)
feeds_broken old piece new LengthsDisagree n e b = (e, b)
feeds_broken old piece new Truncated n e b = (e, b)
feeds_broken old piece new TooLarge n e b = (e, b)
feeds_broken old piece new NoMemory n e b = absurd (n refl)
