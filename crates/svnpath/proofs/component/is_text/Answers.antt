-- `from_utf8` succeeds where the bytes are UTF-8.
use Rattle.std.proofs.{Common.{◌≡◌, ℕ, List, Result, Ok, Err, is_ok, MatchResult, sym, ◌∙◌}, lemmas.Bool.false_from_ne_true}
use Rattle.std.proofs.lemmas.Str.{IsUtf8-from_is_utf8, is_utf8-from_IsUtf8}
use Rattle.std.specs.Str.{is_utf8, IsUtf8}
use Rattle.svnpath.proofs.component.is_text.Goals as goal

utf8_tested : {T E : Type 0} (P : T → Type 0) (Q : E → Type 0) (bytes : List ℕ) (r : Result T E) → MatchResult r (λ s. P s × IsUtf8 bytes) (λ e. (IsUtf8 bytes → ⊥) × Q e) → is_ok r ≡ is_utf8 bytes
utf8_tested P Q bytes (Ok s) h = sym (is_utf8-from_IsUtf8 bytes h.1)
utf8_tested P Q bytes (Err e) h = sym (false_from_ne_true _ (λ t. h.0 (IsUtf8-from_is_utf8 bytes t)))

pub returns : goal.returns
returns c = c.is_ok.ensures.value ∙ utf8_tested _ _ c.args.component.now c.from_utf8.result c.from_utf8.ensures.cases
