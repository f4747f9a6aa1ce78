-- The commands of entries lead a mirror to a revision.
use Rattle.std.proofs.Common.{◌≡◌, ℕ, Bool, true, false, not, ◌&&◌, ◌||◌, List, [], ◌∷◌, ◌++◌, Option, Some, None, option_map, refl, sym, ap, subst, ◌∙◌}
use Rattle.std.proofs.{Common.if◌then◌else◌, lemmas.Bool.false≢true}
use Rattle.std.specs.{FinMap.get, Option.{option_or, unwrap_or}, Prelude.{is_some, IsTrue}}
use Rattle.svnpath.specs.{PathLaws.same_component_refl, Paths.{Component, is_at_or_under, PathValue}}
use Rattle.repo_api.specs.{Histories.history_of, Kinds.{content_kind, is_directory_kind, is_present, kind_at, kind_of}, Properties.property_value}
use Rattle.repo_api.specs.{Soundness.AreTrees, States.{RepoState, tree_at, trees_in}, Trees.{is_directory, is_directory_content}, declared.change.Change.Change}
use Rattle.repo_api.specs.{declared.change.Source.Source, declared.entry.Content.Content, declared.entry.Content.TheVariants.{Directory, File}}
use Rattle.repo_api.specs.{declared.entry.Entry.Entry, declared.entry.NodeKind.NodeKind}
use Rattle.repo_api.specs.declared.entry.NodeKind.TheVariants as kinds
use Rattle.traces.specs.declared.place.Place.{Place}
use Rattle.file_histories.specs.Deleted.{is_modify}
use Rattle.wire_edits.specs.declared.editing.EditorCommand.{EditorCommand}
use Rattle.replays.specs.{Commands.{add_command, delete_command, is_empty, open_command}, Edits.{entry_commands, Inside}}
use Rattle.replays.specs.Mirrors.{AreSameNodes, is_directory_at, Nodes, Opened}
use Rattle.replays.specs.Places.{change_in, followed, has_text, is_in_part, is_new, is_of_kind, kept, kind_there, may_follow, place_in, source_in}
use Rattle.replays.specs.declared.ask.ReplayAsk.{ReplayAsk}
use Rattle.replays.proofs.{Bringing.{at_itself, AreGiven, body, Enters, IsBrought, IsLike, like_by, whole}, Entered.{entry_deleted, IsIn, without}}
use Rattle.replays.proofs.{Standing.{copy_brings, kept_brings, new_brings}, Having.{copy_there, Has, has_deleted, has_none, has_outside, none_beneath, some_by}}
use Rattle.replays.proofs.Mirroring.{Leads, leads_on, leads_one, upon}

-- ---- the commands of an entry, by what becomes of it

abbrev standing : RepoState → ReplayAsk → ℕ → PathValue → Inside → NodeKind → Option Place → Option Place → Bool → Bool → List EditorCommand
standing c ask r q inside kind source stays listed text =
    if is_some stays
    then (if listed || not (is_empty (body c ask r q inside (is_directory_kind kind) text (option_or source stays)))
    then open_command (is_directory_kind kind) q ∷ whole c ask r q inside (is_directory_kind kind) text (option_or source stays)
    else [])
    else add_command (is_directory_kind kind) q source ∷ whole c ask r q inside (is_directory_kind kind) text (option_or source stays)

abbrev piece : RepoState → ReplayAsk → ℕ → PathValue → Inside → NodeKind → Bool → Option Place → Option Place → Bool → Bool → List EditorCommand
piece c ask r q inside kind gone source stays listed text =
    (if gone && not (is_some stays) then delete_command q ∷ [] else []) ++ (if is_present kind then standing c ask r q inside kind source stays listed text else [])

-- ---- what goes

above_out : (p : PathValue) (name : Component) → is_at_or_under p (p ++ name ∷ []) ≡ false
above_out [] name = refl
above_out (c ∷ p) name = ap (λ b. b && is_at_or_under p (p ++ name ∷ [])) (same_component_refl c) ∙ above_out p name

still_in : (t s : Nodes) (token : List ℕ) (p q : PathValue) → ((x : PathValue) → is_at_or_under x q ≡ false → s x ≡ t x) → IsIn t token p q → IsIn s token p q
still_in t s token p q same so = record {
  name = so.name;
  is = so.is;
  named = so.named;
  token_is = so.token_is;
  directory = ap (λ o. is_directory_at (λ _. o) p) (same p (ap (is_at_or_under p) so.is ∙ above_out p so.name)) ∙ so.directory;
}

record IsCleared (c : RepoState) (ask : ReplayAsk) (t : Nodes) (token : List ℕ) (p : PathValue) (os : List Opened) (q : PathValue) (commands : List EditorCommand) : Type 0 where
  after : Nodes
  leads : Leads (trees_in c.revisions) (upon t token p None os) commands (upon after token p None os)
  here : Has c ask after None q
  elsewhere : (x : PathValue) → is_at_or_under x q ≡ false → after x ≡ t x

present_content : (x : Content) → is_present (content_kind x) ≡ true
present_content Directory = refl
present_content (File text) = refl

cleared : (c : RepoState) (ask : ReplayAsk) (t : Nodes) (token : List ℕ) (p : PathValue) (os : List Opened) (q : PathValue) (had : Option Place) → AreTrees c.revisions → IsTrue (is_in_part ask q)
    → IsIn t token p q → Has c ask t had q → IsCleared c ask t token p os q (if is_present (kind_there c had) && true then delete_command q ∷ [] else [])
cleared c ask t token p os q None trees within so has = record { after = t; leads = refl; here = has; elsewhere = λ x out. refl }
cleared c ask t token p os q (Some at) trees within so has = by (get (tree_at c at.revision) at.path) refl
  where
    by : (o : Option Entry) → get (tree_at c at.revision) at.path ≡ o → IsCleared c ask t token p os q (if is_present (kind_of (get (tree_at c at.revision) at.path)) && true then delete_command q ∷ [] else [])
    by None is =
        subst (λ b. IsCleared c ask t token p os q (if b && true then delete_command q ∷ [] else [])) (sym (ap (λ o. is_present (kind_of o)) is))
        (record { after = t; leads = refl; here = has_none c ask t at q trees is has; elsewhere = λ x out. refl })
    by (Some x) is =
        subst (λ b. IsCleared c ask t token p os q (if b && true then delete_command q ∷ [] else [])) (sym (ap (λ o. is_present (kind_of o)) is ∙ present_content x.content))
        (record {
          after = without q t;
          leads =
              leads_one (trees_in c.revisions) (delete_command q) (upon t token p None os) (upon (without q t) token p None os)
              (entry_deleted (trees_in c.revisions) t token p q None os so
              (some_by (t q) (Some (x.content, property_value x.properties)) (at_itself c ask t at q x within has (record { entry = x; stands = is; kind = refl }))));
          here = has_deleted c ask t q;
          elsewhere = λ y out. copy_there q (λ _. None) [] t y out;
        })

-- what is cleared first, and then brought
after_cleared : (c : RepoState) (ask : ReplayAsk) (r : ℕ) (t : Nodes) (token : List ℕ) (p : PathValue) (os : List Opened) (q : PathValue) (first second : List EditorCommand)
    → (gone : IsCleared c ask t token p os q first) → IsBrought c ask r gone.after token p os q second → IsBrought c ask r t token p os q (first ++ second)
after_cleared c ask r t token p os q first second gone brought = record {
  after = brought.after;
  leads = leads_on (trees_in c.revisions) first second (upon t token p None os) (upon gone.after token p None os) (upon brought.after token p None os) gone.leads brought.leads;
  here = brought.here;
  elsewhere = λ x out. brought.elsewhere x out ∙ gone.elsewhere x out;
}

-- ---- an entry that is not to be there

none_of_kind : (k : NodeKind) → is_of_kind k kinds.Absent ≡ false
none_of_kind kinds.Absent = refl
none_of_kind kinds.File = refl
none_of_kind kinds.Directory = refl

and_false : (b : Bool) → (b && false) ≡ false
and_false true = refl
and_false false = refl

none_kept : (c : RepoState) (change : Option Change) (had : Option Place) → kept c change kinds.Absent had ≡ None
none_kept c change had =
    ap (λ b. if not (is_new change) && b then had else None) (none_of_kind (kind_there c had)) ∙ ap (λ b. if b then had else None) (and_false (not (is_new change)))

absent_here : (c : RepoState) (ask : ReplayAsk) (r : ℕ) (t : Nodes) (q : PathValue) → AreTrees c.revisions → get (tree_at c r) q ≡ None → Has c ask t None q → Has c ask t (Some (place_in r q)) q
absent_here c ask r t q trees none has rest within =
    subst (λ o. AreSameNodes (t (q ++ rest)) (option_map (λ (y : Entry). (y.content, property_value y.properties)) o)) (sym (none_beneath c.revisions r q rest trees none)) (has rest within)

absent_led : (c : RepoState) (ask : ReplayAsk) (r : ℕ) (q : PathValue) (inside : Inside) (change : Option Change) (source : Option Place) (listed text : Bool) (had : Option Place) (t : Nodes) (token : List ℕ) (p : PathValue)
    (os : List Opened) → AreTrees c.revisions → get (tree_at c r) q ≡ None → IsTrue (is_in_part ask q) → IsIn t token p q → Has c ask t had q
    → IsBrought c ask r t token p os q (piece c ask r q inside kinds.Absent (is_present (kind_there c had)) source (kept c change kinds.Absent had) listed text)
absent_led c ask r q inside change source listed text had t token p os trees none within so has =
    subst (λ stays. IsBrought c ask r t token p os q (piece c ask r q inside kinds.Absent (is_present (kind_there c had)) source stays listed text)) (sym (none_kept c change had))
    (let gone = cleared c ask t token p os q had trees within so has in
    after_cleared c ask r t token p os q (if is_present (kind_there c had) && true then delete_command q ∷ [] else []) [] gone
    (record { after = gone.after; leads = refl; here = absent_here c ask r gone.after q trees none gone.here; elsewhere = λ x out. refl }))

-- ---- an entry that is to be there

directory_kind : (x : Content) → is_directory_kind (content_kind x) ≡ is_directory_content x
directory_kind Directory = refl
directory_kind (File text) = refl

no_source : (change : Option Change) → not (is_new change) ≡ true → source_in change ≡ None
no_source None h = refl
no_source (Some change) h = ap (λ b. if b then None else change.source) (twice (is_modify change.action) h)
  where
    twice : (b : Bool) → not (not b) ≡ true → b ≡ true
    twice true k = refl
    twice false k = absurd (false≢true k)

both_true : (a b : Bool) → (a && b) ≡ true → (a ≡ true) × (b ≡ true)
both_true true b h = (refl, h)
both_true false b h = absurd (false≢true h)

-- the entry is added, by a copy where it has a source
added_led : (c : RepoState) (ask : ReplayAsk) (r : ℕ) (q : PathValue) (inside : Inside) (text : Bool) (e : Entry) (from : Option Source) (t : Nodes) (token : List ℕ) (p : PathValue) (os : List Opened)
    → AreTrees c.revisions → AreGiven c → ask.sends_deltas ≡ true → get (tree_at c r) q ≡ Some e → IsTrue (is_in_part ask q) → Enters c ask r inside q → IsIn t token p q → Has c ask t None q
    → (source : Option Place) → source ≡ followed c ask (content_kind e.content) from
    → IsBrought c ask r t token p os q (add_command (is_directory e) q source ∷ whole c ask r q inside (is_directory e) text (option_or source None))
added_led c ask r q inside text e from t token p os trees given sends stands within enters so none None is =
    new_brings c ask r q inside text e t token p os trees given sends stands within enters so none
added_led c ask r q inside text e None t token p os trees given sends stands within enters so none (Some at) is = absurd (false≢true (sym (ap is_some is)))
added_led c ask r q inside text e (Some s) t token p os trees given sends stands within enters so none (Some at) is =
    copy_brings c ask r q inside text at e t token p os trees given sends stands within enters so none (by (may_follow ask s && is_of_kind (kind_at c s.revision s.path) (content_kind e.content)) refl is)
  where
    by : (b : Bool) → (may_follow ask s && is_of_kind (kind_at c s.revision s.path) (content_kind e.content)) ≡ b → Some at ≡ (if b then Some (place_in s.revision s.path) else None) → IsLike c at e
    by false h k = absurd (false≢true (sym (ap is_some k)))
    by true h k =
        let same : place_in s.revision s.path ≡ at = ap (λ o. unwrap_or o at) (sym k) in
        subst (λ x. IsLike c x e) same (like_by c (place_in s.revision s.path) e (both_true (may_follow ask s) (is_of_kind (kind_at c s.revision s.path) (content_kind e.content)) h).1)

present_led : (c : RepoState) (ask : ReplayAsk) (r : ℕ) (q : PathValue) (inside : Inside) (change : Option Change) (listed text : Bool) (e : Entry) (had : Option Place) (t : Nodes) (token : List ℕ) (p : PathValue) (os : List Opened)
    → AreTrees c.revisions → AreGiven c → ask.sends_deltas ≡ true → get (tree_at c r) q ≡ Some e → IsTrue (is_in_part ask q) → Enters c ask r inside q → IsIn t token p q → Has c ask t had q
    → IsBrought c ask r t token p os q
    (piece c ask r q inside (content_kind e.content) (is_present (kind_there c had)) (followed c ask (content_kind e.content) (source_in change)) (kept c change (content_kind e.content) had) listed text)
present_led c ask r q inside change listed text e had t token p os trees given sends stands within enters so has =
    by (not (is_new change) && is_of_kind (kind_there c had) kind) refl
  where
    kind : NodeKind
    kind = content_kind e.content

    gone : Bool
    gone = is_present (kind_there c had)

    commands : Option Place → Option Place → Bool → Bool → Bool → List EditorCommand
    commands source stays d goes present =
        (if goes then delete_command q ∷ [] else [])
        ++ (if present
        then (if is_some stays
        then (if listed || not (is_empty (body c ask r q inside d text (option_or source stays))) then open_command d q ∷ whole c ask r q inside d text (option_or source stays) else [])
        else add_command d q source ∷ whole c ask r q inside d text (option_or source stays))
        else [])

    keeps : (place : Option Place) → had ≡ place → not (is_new change) ≡ true → is_of_kind (kind_there c place) kind ≡ true
        → IsBrought c ask r t token p os q (commands (followed c ask kind (source_in change)) had (is_directory_kind kind) (gone && not (is_some had)) (is_present kind))
    keeps None is old like = absurd (false≢true like)
    keeps (Some at) is old like =
        subst (λ xs. IsBrought c ask r t token p os q xs)
        (λ i. commands (ap (followed c ask kind) (sym (no_source change old)) i) (sym is i) (sym (directory_kind e.content) i)
        (sym (ap (λ o. gone && not (is_some o)) is ∙ and_false gone) i) (sym (present_content e.content) i))
        (kept_brings c ask r q inside listed text at e t token p os trees given sends stands within enters so (subst (λ o. Has c ask t o q) is has) (like_by c at e like))

    adds : IsBrought c ask r t token p os q (commands (followed c ask kind (source_in change)) None (is_directory_kind kind) (gone && true) (is_present kind))
    adds =
        let first = cleared c ask t token p os q had trees within so has in
        subst (λ xs. IsBrought c ask r t token p os q xs)
        (λ i. commands (followed c ask kind (source_in change)) None (sym (directory_kind e.content) i) (gone && true) (sym (present_content e.content) i))
        (after_cleared c ask r t token p os q (if gone && true then delete_command q ∷ [] else [])
        (add_command (is_directory e) q (followed c ask kind (source_in change)) ∷ whole c ask r q inside (is_directory e) text (option_or (followed c ask kind (source_in change)) None)) first
        (added_led c ask r q inside text e (source_in change) first.after token p os trees given sends stands within enters (still_in t first.after token p q first.elsewhere so) first.here
        (followed c ask kind (source_in change)) refl))

    by : (b : Bool) → (not (is_new change) && is_of_kind (kind_there c had) kind) ≡ b
        → IsBrought c ask r t token p os q
        (piece c ask r q inside kind gone (followed c ask kind (source_in change)) (if not (is_new change) && is_of_kind (kind_there c had) kind then had else None) listed text)
    by true h =
        let parts = both_true (not (is_new change)) (is_of_kind (kind_there c had) kind) h in
        subst (λ stays. IsBrought c ask r t token p os q (piece c ask r q inside kind gone (followed c ask kind (source_in change)) stays listed text)) (ap (λ b. if b then had else None) (sym h))
        (keeps had refl parts.0 parts.1)
    by false h =
        subst (λ stays. IsBrought c ask r t token p os q (piece c ask r q inside kind gone (followed c ask kind (source_in change)) stays listed text)) (ap (λ b. if b then had else None) (sym h)) adds

-- ---- an entry

pub entry_led : (c : RepoState) (ask : ReplayAsk) (r : ℕ) (q : PathValue) (inside : Inside) (had : Option Place) (t : Nodes) (token : List ℕ) (p : PathValue) (os : List Opened)
    → AreTrees c.revisions → AreGiven c → ask.sends_deltas ≡ true → Enters c ask r inside q → IsIn t token p q → Has c ask t had q → IsBrought c ask r t token p os q (entry_commands c ask r had q inside)
entry_led c ask r q inside had t token p os trees given sends enters so has = by (is_in_part ask q) refl
  where
    change : Option Change
    change = change_in (history_of c r) q

    commands : NodeKind → List EditorCommand
    commands kind = piece c ask r q inside kind (is_present (kind_there c had)) (followed c ask kind (source_in change)) (kept c change kind had) (is_some change) (has_text change)

    there : IsTrue (is_in_part ask q) → (o : Option Entry) → get (tree_at c r) q ≡ o → IsBrought c ask r t token p os q (commands (kind_of o))
    there within None is = absent_led c ask r q inside change (followed c ask kinds.Absent (source_in change)) (is_some change) (has_text change) had t token p os trees is within so has
    there within (Some e) is = present_led c ask r q inside change (is_some change) (has_text change) e had t token p os trees given sends is within enters so has

    by : (b : Bool) → is_in_part ask q ≡ b → IsBrought c ask r t token p os q (if is_in_part ask q then commands (kind_at c r q) else [])
    by true h = subst (λ b. IsBrought c ask r t token p os q (if b then commands (kind_at c r q) else [])) (sym h) (there h (get (tree_at c r) q) refl)
    by false h =
        subst (λ b. IsBrought c ask r t token p os q (if b then commands (kind_at c r q) else [])) (sym h)
        (record { after = t; leads = refl; here = has_outside c ask t (Some (place_in r q)) q h; elsewhere = λ x out. refl })
