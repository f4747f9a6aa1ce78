-- The drive of a plan may be sent.
use Rattle.std.proofs.Common.{◌≡◌, ◌≤◌, ℕ, Bool, true, false, ◌&&◌, ◌||◌, List, [], ◌∷◌, ◌++◌, append-nil, length, Option, Some, None, option_map, refl, sym}
use Rattle.std.proofs.{Common.{ap, ◌∙◌, subst, if◌then◌else◌}, lemmas.Bool.false≢true, lemmas.List.Elements.{All-head, All-tail, All-nil, All-cons}}
use Rattle.std.proofs.lemmas.List.Sums.{fold-append}
use Rattle.std.specs.{Prelude.{All, IsSomeAnd, fold, is_some}, List.list_any, Option.option_or}
use Rattle.svnpath.specs.{PathLaws.same_path_is, Paths.{PathValue, same_path}}
use Rattle.svndiff0.specs.Window.{limit}
use Rattle.repo_api.specs.{States.RepoState, Trees.Tree, declared.entry.Entry.Entry}
use Rattle.wire_edits.specs.declared.editing.EditorCommand.TheVariants.{CloseDirectory}
use Rattle.drive_rules.specs.{Steps.{has_step, is_adding, is_entry_property, is_opening, Step}, Steps.EntryKind.DirectoryKind, Steps.Step.{AddAt, OpenAt}}
use Rattle.drive_rules.proofs.{Joined.{and_front, named_append}, Trees.{in_scope, is_scope}}
use Rattle.drive_visits.specs.{Own.{Change, property_steps, text_steps}, Visits.{entry_kind, kind_if, plan_steps, visit_steps, Visit}}
use Rattle.drive_visits.specs.Visits.Visit.{Open, Add, Delete, Close}
use Rattle.reporter.specs.{Reported.reported_entries, Targets.{WholeReport, client_tree, counted_entries, depth_inherited, drive_limit, target_entries}}
use Rattle.reporter.specs.{Targets.{drive_scope, due_in, is_apart, is_hidden, old_tree, new_tree, stale_in}, EntryProperties.{entry_property, told_by, told}}
use Rattle.reporter.specs.{Saying.Says, Sent.{IsDrive, LeadsToTarget, TellsEach, base_of, or_no_text, enters, from_root, counts_of}}
use Rattle.reporter.proofs.{Joining.says_append, Writing.reads_close}
use Rattle.drive_news.specs.{News.{news_at, news_steps, steps_if, own_steps_of, old_entry}, declared.news.News.News}
use Rattle.drive_sides.specs.Plans.{IsPlan, from_top}
use Rattle.drive_sending.specs.{Commands.{news_commands, news_told, root_commands, plan_commands, body_commands, drive_of}, Tokens.token_of}
use Rattle.drive_sending.proofs.{Sending.IsSendable, Tokens.{entry_at, open_directories}, Entries.{GiveTexts, says_news}}
use Rattle.drive_sending.proofs.{Plans.{says_plan, steps_told, news_silent, nothing_short}, Told.{own_news, other_news}}

-- ---- which visits enter a path

-- the visit opens or adds the path
abbrev is_of : PathValue → Visit → Bool
is_of q (Open p directory) = same_path p q
is_of q (Add p directory) = same_path p q
is_of q (Delete p) = false
is_of q Close = false

or_shuffle : (a b c d : Bool) → ((a || b) || (c || d)) ≡ ((a || c) || (b || d))
or_shuffle true b c d = refl
or_shuffle false true true d = refl
or_shuffle false true false d = refl
or_shuffle false false c d = refl

enters_append : (q : PathValue) (xs ys : List Step) → enters q (xs ++ ys) ≡ (enters q xs || enters q ys)
enters_append q xs ys =
    ap (λ b. b || has_step is_adding q (xs ++ ys)) (named_append is_opening q xs ys)
    ∙ ap (λ b. (has_step is_opening q xs || has_step is_opening q ys) || b) (named_append is_adding q xs ys)
    ∙ or_shuffle (has_step is_opening q xs) (has_step is_opening q ys) (has_step is_adding q xs) (has_step is_adding q ys)

never : (b : Bool) → (b && false) ≡ false
never true = refl
never false = refl

properties_enter_none : (q p : PathValue) (changes : List Change) → enters q (property_steps p changes) ≡ false
properties_enter_none q p [] = refl
properties_enter_none q p (x ∷ changes) =
    ap (λ b. (b || has_step is_opening q (property_steps p changes)) || ((same_path p q && false) || has_step is_adding q (property_steps p changes))) (never (same_path p q))
    ∙ ap (λ b. has_step is_opening q (property_steps p changes) || (b || has_step is_adding q (property_steps p changes))) (never (same_path p q))
    ∙ properties_enter_none q p changes

text_enters_none : (q p : PathValue) (text : Option (List ℕ)) → enters q (text_steps p text) ≡ false
text_enters_none q p None = refl
text_enters_none q p (Some text) =
    ap (λ b. (b || false) || ((same_path p q && false) || false)) (never (same_path p q)) ∙ ap (λ b. false || (b || false)) (never (same_path p q))

news_enter_none : (q p : PathValue) (news : News) → enters q (news_steps p news) ≡ false
news_enter_none q p news =
    enters_append q (property_steps p news.changes) (text_steps p news.text)
    ∙ ap (λ b. b || enters q (text_steps p news.text)) (properties_enter_none q p news.changes) ∙ text_enters_none q p news.text

if_enter_none : (q p : PathValue) (o : Option News) → enters q (steps_if p o) ≡ false
if_enter_none q p None = refl
if_enter_none q p (Some news) = news_enter_none q p news

one_opens : (b : Bool) → (((b && true) || false) || ((b && false) || false)) ≡ b
one_opens true = refl
one_opens false = refl

one_adds : (b : Bool) → (((b && false) || false) || ((b && true) || false)) ≡ b
one_adds true = refl
one_adds false = refl

or_none : (b : Bool) → (b || false) ≡ b
or_none true = refl
or_none false = refl

again : (o s : Option (Option (List ℕ))) → option_or o (option_or o s) ≡ option_or o s
again None s = refl
again (Some v) s = refl

module _ (c : RepoState) (report : WholeReport) where
  abbrev New : Tree
  New = new_tree c report

  abbrev Steps : List Visit → List Step
  Steps visits = plan_steps (own_steps_of c report) visits

  abbrev VisitSteps : Visit → List Step
  VisitSteps v = visit_steps (own_steps_of c report) v

  visit_enters : (q : PathValue) (v : Visit) → enters q (VisitSteps v) ≡ is_of q v
  visit_enters q (Open p directory) =
      enters_append q (OpenAt p (kind_if directory) ∷ []) (own_steps_of c report p false)
      ∙ ap (λ b. enters q (OpenAt p (kind_if directory) ∷ []) || b) (if_enter_none q p (option_map (news_at c report p false) (New p)))
      ∙ or_none (enters q (OpenAt p (kind_if directory) ∷ [])) ∙ one_opens (same_path p q)
  visit_enters q (Add p directory) =
      enters_append q (AddAt p (kind_if directory) ∷ []) (own_steps_of c report p true)
      ∙ ap (λ b. enters q (AddAt p (kind_if directory) ∷ []) || b) (if_enter_none q p (option_map (news_at c report p true) (New p)))
      ∙ or_none (enters q (AddAt p (kind_if directory) ∷ [])) ∙ one_adds (same_path p q)
  visit_enters q (Delete p) = ap (λ b. (b || false) || ((same_path p q && false) || false)) (never (same_path p q)) ∙ ap (λ b. b || false) (never (same_path p q))
  visit_enters q Close = refl

  plan_enters : (q : PathValue) (vs : List Visit) → enters q (Steps vs) ≡ list_any (is_of q) vs
  plan_enters q [] = refl
  plan_enters q (v ∷ vs) =
      enters_append q (VisitSteps v) (Steps vs) ∙ ap (λ b. b || enters q (Steps vs)) (visit_enters q v) ∙ ap (λ b. is_of q v || b) (plan_enters q vs)

  -- ---- what stands there

  abbrev pub Stands : Visit → Type 0
  Stands (Open p directory) = is_some (New p) ≡ true
  Stands (Add p directory) = is_some (New p) ≡ true
  Stands (Delete p) = Unit {0}
  Stands Close = Unit {0}

  visit_stands : (v : Visit) → IsSendable New v → Stands v
  visit_stands (Open p directory) s = s.stands
  visit_stands (Add p directory) s = s.stands
  visit_stands (Delete p) s = tt
  visit_stands Close s = tt

  all_stand : (vs : List Visit) → All (IsSendable New) vs → All Stands vs
  all_stand [] s = All-nil Stands
  all_stand (v ∷ vs) s = All-cons Stands v vs (visit_stands v (All-head (IsSendable New) v vs s)) (all_stand vs (All-tail (IsSendable New) v vs s))

  one_stands : (q : PathValue) (v : Visit) → Stands v → is_of q v ≡ true → is_some (New q) ≡ true
  one_stands q (Open p directory) s e = subst (λ x. is_some (New x) ≡ true) (same_path_is p q e) s
  one_stands q (Add p directory) s e = subst (λ x. is_some (New x) ≡ true) (same_path_is p q e) s
  one_stands q (Delete p) s e = absurd (false≢true e)
  one_stands q Close s e = absurd (false≢true e)

  entered_stands : (q : PathValue) (vs : List Visit) → All Stands vs → list_any (is_of q) vs ≡ true → is_some (New q) ≡ true
  entered_stands q [] s e = absurd (false≢true e)
  entered_stands q (v ∷ vs) s e = by (is_of q v) refl e (λ h. entered_stands q vs (All-tail Stands v vs s) h)
    where
      by : (b : Bool) → is_of q v ≡ b → (b || list_any (is_of q) vs) ≡ true → (list_any (is_of q) vs ≡ true → is_some (New q) ≡ true) → is_some (New q) ≡ true
      by true h x rest = one_stands q v (All-head Stands v vs s) h
      by false h x rest = rest x

  -- ---- what is told

  module _ (q : PathValue) (name : List ℕ) (e : Entry) (is : New q ≡ Some e) (special : is_entry_property name ≡ true) where
    abbrev Due : Option (Option (List ℕ))
    Due = entry_property c (stale_in c report q) e name

    abbrev Last : Option (Option (List ℕ)) → List Step → Option (Option (List ℕ))
    Last before steps = fold (told_by q name) before steps

    other_steps : (p : PathValue) → same_path p q ≡ false → (o : Option News) (before : Option (Option (List ℕ))) → Last before (steps_if p o) ≡ before
    other_steps p other None before = refl
    other_steps p other (Some news) before = other_news q name p other news before

    own_told : (p : PathValue) (anew : Bool) (before : Option (Option (List ℕ))) → Last before (own_steps_of c report p anew) ≡ (if same_path p q then option_or Due before else before)
    own_told p anew before = by (same_path p q) refl
      where
        by : (b : Bool) → same_path p q ≡ b → Last before (own_steps_of c report p anew) ≡ (if b then option_or Due before else before)
        by true h =
            ap (λ x. Last before (own_steps_of c report x anew)) (same_path_is p q h)
            ∙ ap (λ o. Last before (steps_if q (option_map (news_at c report q anew) o))) is
            ∙ own_news q name c (stale_in c report q) e special report.ask.purpose (old_entry anew (old_tree c report) q) before
        by false h = other_steps p h (option_map (news_at c report p anew) (New p)) before

    visit_told : (v : Visit) (before : Option (Option (List ℕ))) → Last before (VisitSteps v) ≡ (if is_of q v then option_or Due before else before)
    visit_told (Open p directory) before = own_told p false before
    visit_told (Add p directory) before = own_told p true before
    visit_told (Delete p) before = refl
    visit_told Close before = refl

    plan_told : (vs : List Visit) (before : Option (Option (List ℕ))) → Last before (Steps vs) ≡ (if list_any (is_of q) vs then option_or Due before else before)
    plan_told [] before = refl
    plan_told (v ∷ vs) before =
        fold-append (told_by q name) before (VisitSteps v) (Steps vs)
        ∙ plan_told vs (Last before (VisitSteps v))
        ∙ ap (λ s. if list_any (is_of q) vs then option_or Due s else s) (visit_told v before)
        ∙ both (is_of q v) (list_any (is_of q) vs)
      where
        both : (a b : Bool) → (if b then option_or Due (if a then option_or Due before else before) else (if a then option_or Due before else before)) ≡ (if a || b then option_or Due before else before)
        both true true = again Due before
        both true false = refl
        both false b = refl

  or_nothing : (o : Option (Option (List ℕ))) → option_or o None ≡ o
  or_nothing None = refl
  or_nothing (Some v) = refl

  tells_plan : (vs : List Visit) → All Stands vs → TellsEach c report (Steps vs)
  tells_plan vs stand q name entered special = by (New q) refl (entered_stands q vs stand among)
    where
      among : list_any (is_of q) vs ≡ true
      among = sym (plan_enters q vs) ∙ entered

      by : (o : Option Entry) → New q ≡ o → is_some o ≡ true → IsSomeAnd o (λ e. told q name (Steps vs) ≡ entry_property c (stale_in c report q) e name)
      by None is some = absurd (false≢true some)
      by (Some e) is some =
          plan_told q name e is special vs None
          ∙ ap (λ b. if b then option_or (entry_property c (stale_in c report q) e name) None else None) among
          ∙ or_nothing (entry_property c (stale_in c report q) e name)

  -- ---- the drive

  -- where there is no target, a directory is to stand at the root
  abbrev pub RootStands : Type 0
  RootStands = same_path report.ask.target [] ≡ true → (is_some (New []) ≡ true) × (entry_kind (New []) ≡ DirectoryKind)

  abbrev Top : PathValue
  Top = report.ask.target

  abbrev Base : PathValue → List ℕ
  Base = base_of (old_tree c report)

  abbrev Body : List Visit → List Step
  Body vs = (if same_path report.ask.target [] then own_steps_of c report [] false else []) ++ Steps vs

  says_root : GiveTexts → RootStands → Says report.ask.purpose Top Base (open_directories ([] ∷ [])) (root_commands c report) (if same_path report.ask.target [] then own_steps_of c report [] false else []) (open_directories ([] ∷ []))
  says_root give root = by (same_path report.ask.target []) refl
    where
      by : (b : Bool) → same_path report.ask.target [] ≡ b
          → Says report.ask.purpose Top Base (open_directories ([] ∷ [])) (if b then news_commands report.ask.purpose DirectoryKind (token_of DirectoryKind 0) [] (news_told c report [] false) else []) (if b then own_steps_of c report [] false else []) (open_directories ([] ∷ []))
      by true h =
          let silent : (news_told c report [] false).text ≡ None = news_silent c report [] false (New []) (root h).1 in
          subst (λ s. Says report.ask.purpose Top Base (open_directories ([] ∷ [])) (news_commands report.ask.purpose DirectoryKind (token_of DirectoryKind 0) [] (news_told c report [] false)) s (open_directories ([] ∷ [])))
          (sym (steps_told [] (option_map (news_at c report [] false) (New []))))
          (says_news Top Base report.ask.purpose give DirectoryKind [] [] [] (news_told c report [] false) (λ _. refl) (λ _. silent)
          (subst (λ t. length (or_no_text t) ≤ limit) (sym silent) nothing_short) (λ _. ap or_no_text silent))
      by false h = (refl, refl)

  steps_from : (vs : List Visit) → plan_steps (own_steps_of c report) (from_top report.ask vs) ≡ from_root report.ask (Body vs)
  steps_from vs = by (same_path report.ask.target []) refl
    where
      by : (b : Bool) → same_path report.ask.target [] ≡ b → Steps (if b then Open [] true ∷ vs else vs)
          ≡ (if b then OpenAt [] DirectoryKind ∷ ((if b then own_steps_of c report [] false else []) ++ Steps vs) else ((if b then own_steps_of c report [] false else []) ++ Steps vs))
      by true h = refl
      by false h = refl

  top_stands : (vs : List Visit) → RootStands → All Stands vs → All Stands (from_top report.ask vs)
  top_stands vs root all = by (same_path report.ask.target []) refl
    where
      by : (b : Bool) → same_path report.ask.target [] ≡ b → All Stands (if b then Open [] true ∷ vs else vs)
      by true h = All-cons Stands (Open [] true) vs (root h).0 all
      by false h = all

  pub is_drive : GiveTexts → (vs : List Visit) → All (IsSendable New) vs → RootStands → IsPlan c report vs → IsDrive c report (drive_of c report vs)
  is_drive give vs sendable root plan = record {
    root = token_of DirectoryKind 0;
    commands = body_commands c report vs;
    is = refl;
    body = Body vs;
    says = says;
    right = subst (LeadsToTarget c report) (steps_from vs) right;
    tells = subst (TellsEach c report) (steps_from vs) (tells_plan (from_top report.ask vs) (top_stands vs root (all_stand vs sendable)));
  }
    where
      closed : Says report.ask.purpose Top Base (open_directories ([] ∷ [])) (CloseDirectory (token_of DirectoryKind 0) ∷ []) [] []
      closed = ([], [], [], reads_close report.ask.purpose Top Base (entry_at DirectoryKind 0 [] []) [] refl, (refl, refl), refl)

      visited : Says report.ask.purpose Top Base (open_directories ([] ∷ [])) (plan_commands c report 0 vs ++ CloseDirectory (token_of DirectoryKind 0) ∷ []) (Steps vs) []
      visited =
          subst (λ s. Says report.ask.purpose Top Base (open_directories ([] ∷ [])) (plan_commands c report 0 vs ++ CloseDirectory (token_of DirectoryKind 0) ∷ []) s []) (append-nil (Steps vs))
          (says_append report.ask.purpose Top Base (open_directories ([] ∷ [])) (open_directories ([] ∷ [])) [] (plan_commands c report 0 vs) (CloseDirectory (token_of DirectoryKind 0) ∷ []) (Steps vs) []
          (says_plan c report give vs [] [] ([] ∷ []) sendable (plan.nests [])) closed)

      says : Says report.ask.purpose Top Base (open_directories ([] ∷ [])) (body_commands c report vs) (Body vs) []
      says =
          says_append report.ask.purpose Top Base (open_directories ([] ∷ [])) (open_directories ([] ∷ [])) [] (root_commands c report) (plan_commands c report 0 vs ++ CloseDirectory (token_of DirectoryKind 0) ∷ [])
          (if same_path report.ask.target [] then own_steps_of c report [] false else []) (Steps vs) (says_root give root) visited

      right : LeadsToTarget c report (Steps (from_top report.ask vs))
      right =
          in_scope (counts_of report.ask.purpose) (drive_scope c report) (due_in c report) (is_apart c report) report.ask.target
          (reported_entries (client_tree c report)) (target_entries c report) (Steps (from_top report.ask vs))
          (is_scope (is_hidden c report) (depth_inherited report.ask) (drive_limit c report) (counted_entries c report) (target_entries c report) report.ask.target)
          (λ w s. and_front (drive_scope c report w) _ s) plan.right
