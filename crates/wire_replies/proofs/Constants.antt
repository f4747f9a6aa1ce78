-- The replies that are always the same bytes.
use Rattle.std.specs.{Prelude.{Result, Ok, Err, is_ok, MatchResult, if◌then◌else◌}, Fmt.digits}
use Rattle.std.proofs.Common.{◌≡◌, ℕ, List, ◌++◌, ◌∙◌, ap, append_assoc, sym, codes, refl}
use Rattle.items.specs.Print.{Grows, printed}
use Rattle.wire_replies.specs.{Replies.reply_item, declared.reply.Reply.TheVariants.{Greeting, NoLogin, MechanismNotOffered, LoginFailed, FinishReplay}}

pub printed-greeting : printed (reply_item Greeting) ≡ codes "( success ( 2 2 ( ) ( edit-pipeline absent-entries commit-revprops depth atomic-revprops ) ) ) "
unfolding digits
printed-greeting = refl

pub printed-no_login : printed (reply_item NoLogin) ≡ codes "( success ( ( ) 0: ) ) "
unfolding digits
printed-no_login = refl

pub printed-not_offered : printed (reply_item MechanismNotOffered) ≡ codes "( failure ( 21:mechanism not offered ) ) "
unfolding digits
printed-not_offered = refl

pub printed-login_failed : printed (reply_item LoginFailed) ≡ codes "( failure ( 12:login failed ) ) "
unfolding digits
printed-login_failed = refl

pub printed-finish_replay : printed (reply_item FinishReplay) ≡ codes "( finish-replay ( ) ) "
printed-finish_replay = refl

-- what is wanted is what was appended; or, where there is an error, nothing was
pub appended : {T E : Type 0} (r : Result T E) (old new text wanted : List ℕ) → new ≡ (if is_ok r then old ++ text else old) → wanted ≡ text
    → MatchResult r (λ _. new ≡ old ++ wanted) (λ _. new ≡ old)
appended (Ok x) old new text wanted grown same = grown ∙ ap (λ t. old ++ t) (sym same)
appended (Err e) old new text wanted grown same = grown

-- so is what was appended in three parts, of which the last may fail
pub appended_last : {T E : Type 0} (r : Result T E) (old first second new a b last wanted : List ℕ) → first ≡ old ++ a → second ≡ first ++ b
    → new ≡ (if is_ok r then second ++ last else second) → wanted ≡ a ++ (b ++ last)
    → MatchResult r (λ _. new ≡ old ++ wanted) (λ _. Grows old new)
appended_last r old first second new a b last wanted is_first is_second grown same =
    parts r (is_second ∙ ap (λ t. t ++ b) is_first ∙ append_assoc old a b) grown
  where
    parts : {T E : Type 0} (r : Result T E) → second ≡ old ++ (a ++ b) → new ≡ (if is_ok r then second ++ last else second)
        → MatchResult r (λ _. new ≡ old ++ wanted) (λ _. Grows old new)
    parts (Ok x) both more =
        more ∙ ap (λ t. t ++ last) both ∙ append_assoc old (a ++ b) last ∙ ap (λ t. old ++ t) (append_assoc a b last ∙ sym same)
    parts (Err e) both more = (a ++ b, more ∙ both)
