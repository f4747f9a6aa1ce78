-- What comes is added.
use Rattle.std.proofs.Common.{◌≡◌, Bool, true, false, cond, ◌&&◌, not, List, [], ◌∷◌, Option, Some, None, refl, sym, ap, ◌∙◌, option_map}
use Rattle.std.proofs.lemmas.Bool.{false≢true}
use Rattle.std.specs.Prelude.{is_some}
use Rattle.svnpath.specs.Paths.{is_at_or_under, PathValue, same_path}
use Rattle.repo_api.specs.declared.entry.Content.TheVariants.{File}
use Rattle.drive_rules.specs.Steps.{Step, Node, after_step, after_steps, has_step, step_path, is_adding, is_entry_property, with_property_value, empty_content}
use Rattle.drive_rules.specs.{Steps.no_properties, Steps.Step.{OpenAt, AddAt, DeleteAt, PropertyAt, TextAt}}
use Rattle.drive_rules.proofs.Joined.{or_left, or_right}

stays_none : (b : Bool) {X : Type 0} (o : Option X) → o ≡ None → cond b o None ≡ None
stays_none true o h = h
stays_none false o h = refl

-- a step of a path at which nothing is leaves nothing there, unless it adds it
still_none : (q : PathValue) (c : Step) → (same_path (step_path c) q && is_adding c) ≡ false → after_step q None c ≡ None
still_none q (OpenAt p kind) h = refl
still_none q (AddAt p kind) h = by (same_path p q) h
  where
    added : Option Node
    added = Some (empty_content kind, no_properties)

    by : (b : Bool) → (b && true) ≡ false → cond b added None ≡ None
    by true h = absurd (false≢true (sym h))
    by false h = refl
still_none q (DeleteAt p) h = stays_none (is_at_or_under q p) None refl
still_none q (PropertyAt p name value) h = stays_none (same_path p q && not (is_entry_property name)) (option_map (λ (x : Node). (x.0, with_property_value x.1 name value)) None) refl
still_none q (TextAt p text) h = stays_none (same_path p q) (option_map (λ (x : Node). (File text, x.1)) None) refl

pub coming_is_added : (cs : List Step) (q : PathValue) → is_some (after_steps q None cs) ≡ true → has_step is_adding q cs ≡ true
coming_is_added [] q h = absurd (false≢true h)
coming_is_added (c ∷ cs) q h = by (same_path (step_path c) q && is_adding c) refl (coming_is_added cs q)
  where
    by : (b : Bool) → (same_path (step_path c) q && is_adding c) ≡ b
        → (is_some (after_steps q None cs) ≡ true → has_step is_adding q cs ≡ true)
        → has_step is_adding q (c ∷ cs) ≡ true
    by true e later = or_left _ (has_step is_adding q cs) e
    by false e later =
        or_right _ (has_step is_adding q cs)
        (later (ap (λ n. is_some (after_steps q n cs)) (sym (still_none q c e)) ∙ h))
