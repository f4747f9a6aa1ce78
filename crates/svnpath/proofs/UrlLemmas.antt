-- A text names a path as a URL exactly where `path_of_text` gives that path.
use Rattle.std.proofs.Common.{◌≡◌, ℕ, List, [], ◌∷◌, Bool, true, false, ◌&&◌, cond, None, Result, Ok, Err, IfOk, IfErr, inl, inr, refl, sym, ap, ◌∙◌, subst}
use Rattle.std.proofs.lemmas.Bool.{cond-true}
use Rattle.std.specs.Str.{is_utf8}
use Rattle.url.specs.{Parser.{parse_url, Parsed}, Parts.Parts}
use Rattle.svnpath.proofs.BeneathLemmas.{beneath_is, beneath_right, beneath_root, root_right}
use Rattle.svnpath.specs.{Components.{AnswersPath, beneath, IsRightPath}, Paths.{PathValue, Component, same_component}}
use Rattle.svnpath.specs.{PathLaws.{same_component_refl, same_component_is}, Texts.starts_with_slash}
use Rattle.svnpath.specs.Urls.{NamesPath, path_of_text, path_of_url, path_of_segments, read_url, url_or_fault, url_segments, and_then, is_repository_scheme}
use Rattle.svnpath.specs.{declared.fault.PathFault.PathFault, declared.fault.PathFault.TheVariants.{NotThisRepository, NoMemory}}

pub path_of_text_names : (text name : List ℕ) (path : PathValue) → NamesPath text name path → path_of_text text name ≡ Ok path
path_of_text_names text name path h =
    ap (λ r. and_then r (path_of_url name)) (cond-true _ _ _ h.is_text ∙ ap url_or_fault h.is_url)
    ∙ cond-true _ _ _ (ap (λ b. b && starts_with_slash h.url.path) h.has_scheme ∙ h.has_path)
    ∙ ap (path_of_segments name) h.segments
    ∙ cond-true _ _ _ (same_component_refl name)
    ∙ beneath_root path h.right

segments_name : (name : List ℕ) (segments : List Component) (path : PathValue) → path_of_segments name segments ≡ Ok path → (segments ≡ name ∷ path) × IsRightPath path
segments_name name [] path e = cc
segments_name name (first ∷ others) path e =
    by (same_component first name) refl e
  where
    by : (b : Bool) → same_component first name ≡ b → cond b (beneath [] others) (Err NotThisRepository) ≡ Ok path → ((first ∷ others) ≡ name ∷ path) × IsRightPath path
    by false different e = cc
    by true same e =
        let first_is : first ≡ name = same_component_is first name same in
        let others_are : path ≡ others = beneath_is [] others path e in
        (cc, beneath_right others [] path root_right e)

url_names : (text name : List ℕ) (url : Parts) (path : PathValue) → is_utf8 text ≡ true → parse_url None text ≡ Ok url → path_of_url name url ≡ Ok path → NamesPath text name path
url_names text name url path is_text is_url e =
    by (is_repository_scheme url.scheme) (starts_with_slash url.path) refl refl e
  where
    by : (s a : Bool) → is_repository_scheme url.scheme ≡ s → starts_with_slash url.path ≡ a
        → cond (s && a) (path_of_segments name (url_segments url.path)) (Err NotThisRepository) ≡ Ok path → NamesPath text name path
    by false a is_s is_a e = cc
    by true false is_s is_a e = cc
    by true true is_s is_a e =
        let named = segments_name name (url_segments url.path) path e in
        record {
          url = url;
          is_text = is_text;
          is_url = is_url;
          has_scheme = is_s;
          has_path = is_a;
          segments = named.0;
          right = named.1;
        }

pub names_path : (text name : List ℕ) (path : PathValue) → path_of_text text name ≡ Ok path → NamesPath text name path
names_path text name path e =
    by (is_utf8 text) refl (parse_url None text) refl e
  where
    by : (b : Bool) → is_utf8 text ≡ b → (r : Parsed Parts) → parse_url None text ≡ r
        → and_then (cond b (url_or_fault r) (Err NotThisRepository)) (path_of_url name) ≡ Ok path → NamesPath text name path
    by false neither r is e = cc
    by true text_is (Err fault) is e = cc
    by true text_is (Ok url) is e = url_names text name url path text_is is e

-- what is read of a URL's parts is read of its text
pub answers_read : (text name : List ℕ) (url : Parts) (r : Result PathValue PathFault) → read_url text ≡ Ok url → AnswersPath r (path_of_url name url) → AnswersPath r (path_of_text text name)
answers_read text name url r read h = subst (AnswersPath r) (sym (ap (λ read. and_then read (path_of_url name)) read)) h

pub answer_names : (text name : List ℕ) (r : Result PathValue PathFault) → AnswersPath r (path_of_text text name) → IfOk r (NamesPath text name)
answer_names text name (Ok path) h = names_path text name path h
answer_names text name (Err fault) h = tt

pub answer_refuses : (text name : List ℕ) (r : Result PathValue PathFault) → AnswersPath r (path_of_text text name) → (path : PathValue) → NamesPath text name path → IfErr r (λ fault. fault ≡ NoMemory)
answer_refuses text name (Ok found) h path named = tt
answer_refuses text name (Err fault) h path named =
    elim h [
      | inl refused ↦ cc (sym (path_of_text_names text name path named) ∙ refused)
      | inr memory ↦ memory
    ]
