-- Callers that are served in turn, each by the options of some reading.
use Rattle.std.proofs.Common.{◌≡◌, ℕ, List, [], ◌∷◌, ◌++◌, refl, ap, sym, subst, ◌∙◌}
use Rattle.std.specs.Prelude.{None, Option, Result, Some}
use Rattle.access.specs.Points.{AccessRules, Point}
use Rattle.cram.specs.UsersFile.{AreRight, file_lines, logins_of}
use Rattle.machine.specs.{declared.env.Env.Env, Settings.Settings}
use Rattle.conversations.specs.declared.fault.TalkFault.{TalkFault}
use Rattle.session_pool.specs.{Terms.{AreTerms, IsHandedOver, IsReadAgain}, Serving.{IsServed, ServesAll, ServesInTurn, ServesOne, Stand, stand}}

-- options that are those of the start but for the users, which are those of a right file
pub is_read_again : (start s : Settings) (bytes : List ℕ) → AreRight (file_lines bytes)
    → s.users ≡ Some (logins_of (file_lines bytes)) → s.name ≡ start.name → s.account ≡ None → start.account ≡ None
    → s.revprops ≡ start.revprops
    → IsReadAgain start s
is_read_again start s bytes right users name of_s of_start revprops =
    (bytes, right, λ i. record { name = name i; account = (of_s ∙ sym of_start) i; users = users i; revprops = revprops i })

-- options that are those of the start but for the account and the users, of which there are none
pub is_handed_over : (start s : Settings) (account : List ℕ) → s.account ≡ Some account → s.users ≡ None
    → s.name ≡ start.name → s.revprops ≡ start.revprops → IsHandedOver start s
is_handed_over start s account known users name revprops =
    (account, λ i. record { name = name i; account = known i; users = users i; revprops = revprops i })

module _ {E : Type 0} (rules : AccessRules) (gives : E → Env → E → Type 0) where
  -- none was served yet
  pub serves_none : (old : Stand E) → ServesInTurn rules gives old old
  serves_none old = record { turns = []; served = refl }

  all_and_one : (old : Stand E) (turns : List (Stand E)) (settings : Settings) (p q : Point) (e f : E)
      → ServesAll rules gives old turns (stand old.settings p e) → AreTerms old.settings settings
      → ServesOne rules gives (stand settings p e) (stand settings q f)
      → ServesAll rules gives old (turns ++ stand settings q f ∷ []) (stand old.settings q f)
  all_and_one old [] settings p q e f same read one =
      (read, subst (λ (s : Stand E). ServesOne rules gives (stand settings s.point s.envs) (stand settings q f)) same one, refl)
  all_and_one old (first ∷ turns) settings p q e f (again, here, later) read one =
      (again, here, all_and_one (stand old.settings first.point first.envs) turns settings p q e f later read one)

  -- and one more
  pub serves_one_more : (old : Stand E) (settings : Settings) (p q : Point) (e f : E)
      → ServesInTurn rules gives old (stand old.settings p e) → AreTerms old.settings settings
      → ServesOne rules gives (stand settings p e) (stand settings q f)
      → ServesInTurn rules gives old (stand old.settings q f)
  serves_one_more old settings p q e f h read one = record {
    turns = h.turns ++ stand settings q f ∷ [];
    served = all_and_one old h.turns settings p q e f h.served read one;
  }

  -- a caller was served, from how it stood to how it stands, by whichever names these are given
  pub one_served : (result : Result (Unit {0}) TalkFault) (input output unread written : Option (List ℕ)) (old new : Stand E)
      (settings : Settings) (p q : Point) (e f : E) → old ≡ stand settings p e → q ≡ new.point → f ≡ new.envs
      → IsServed rules gives result input output unread written old new
      → ServesOne rules gives (stand settings p e) (stand settings q f)
  one_served result input output unread written old new settings p q e f begins here from h = (
    result,
    input,
    output,
    unread,
    written,
    subst (λ (x : Stand E × Stand E). IsServed rules gives result input output unread written x.0 x.1)
        (λ i. (begins i, stand ((h.settings ∙ ap (λ (s : Stand E). s.settings) begins) i) (sym here i) (sym from i))) h,
  )
