-- Entries that are deleted, opened and added in a mirror.
use Rattle.std.proofs.Common.{◌≡◌, ℕ, ◌-◌, ◌+◌, Bool, true, false, not, ◌&&◌, List, [], ◌∷◌, ◌++◌, length, take, Option, Some, None, option_map, refl, sym, ap}
use Rattle.std.proofs.{Common.{◌∙◌, arith, if◌then◌else◌}, lemmas.List.length_push, Math.Seq.take-append_seam}
use Rattle.std.specs.Prelude.{is_some}
use Rattle.svnpath.specs.{PathLaws.{same_component_refl, same_path_refl}, Paths.{Component, PathValue, same_component, same_path}, Texts.path_text}
use Rattle.repo_api.specs.{Trees.Tree, declared.entry.Content.Content, declared.entry.Content.TheVariants.{Directory, File}}
use Rattle.traces.specs.declared.place.Place.{Place}
use Rattle.replays.specs.Commands.{add_command, delete_command, open_command, parent_token, token_of}
use Rattle.replays.specs.Mirrors.{adds_from, in_last, is_directory_at, mirrored, new_node, Nodes, nodes_of, Opened, with_copy, with_node}
use Rattle.replays.proofs.{Mirroring.upon, Spelled.{IsNamed, spelled}}

-- the directory of an entry is open
pub record IsIn (t : Nodes) (token : List ℕ) (p q : PathValue) : Type 0 where
  pub name : Component
  pub is : q ≡ p ++ name ∷ []
  pub named : IsNamed q
  pub token_is : token ≡ token_of true (length p)
  pub directory : is_directory_at t p ≡ true

not_root : (p : PathValue) (c : Component) → not (same_path (p ++ c ∷ []) []) ≡ true
not_root [] c = refl
not_root (d ∷ p) c = refl

all_true : (a b c d : Bool) → a ≡ true → b ≡ true → c ≡ true → d ≡ true → (a && (b && (c && d))) ≡ true
all_true a b c d w x y z = λ i. w i && (x i && (y i && z i))

length_less : (p : PathValue) (c : Component) → length (p ++ c ∷ []) - 1 ≡ length p
length_less p c = let n : length (p ++ c ∷ []) ≡ length p + 1 = length_push p c in omega (arith, n)

-- so the entry is in the last
pub in_the_last : (t : Nodes) (token : List ℕ) (p q : PathValue) (delta : Option (List ℕ)) (os : List Opened) → IsIn t token p q → in_last (upon t token p delta os) q (parent_token q) ≡ true
in_the_last t token p q delta os so =
    ap (λ x. in_last (upon t token p delta os) x (parent_token x)) so.is
    ∙ all_true (same_component token (parent_token (p ++ so.name ∷ []))) (is_directory_at t p) (not (same_path (p ++ so.name ∷ []) [])) (same_path p (take (length (p ++ so.name ∷ []) - 1) (p ++ so.name ∷ [])))
    (ap (λ x. same_component x (parent_token (p ++ so.name ∷ []))) (so.token_is ∙ ap (token_of true) (sym (length_less p so.name))) ∙ same_component_refl (parent_token (p ++ so.name ∷ [])))
    so.directory (not_root p so.name)
    (ap (λ n. same_path p (take n (p ++ so.name ∷ []))) (length_less p so.name) ∙ ap (same_path p) (take-append_seam p (so.name ∷ [])) ∙ same_path_refl p)

-- ---- deletes

-- nothing stands at a path, nor beneath it
abbrev pub without : PathValue → Nodes → Nodes
without q t = with_copy q (λ _. None) [] t

pub entry_deleted : (trees : ℕ → Tree) (t : Nodes) (token : List ℕ) (p q : PathValue) (delta : Option (List ℕ)) (os : List Opened) → IsIn t token p q → is_some (t q) ≡ true
    → mirrored trees (upon t token p delta os) (delete_command q) ≡ Some (upon (without q t) token p delta os)
entry_deleted trees t token p q delta os so there =
    ap (λ x. if in_last (upon t token p delta os) x (parent_token q) && is_some (t x) then Some (upon (without x t) token p delta os) else None) (spelled q so.named)
    ∙ (λ i. if in_the_last t token p q delta os so i && there i then Some (upon (without q t) token p delta os) else None)

-- ---- opens

pub directory_opened : (trees : ℕ → Tree) (t : Nodes) (token : List ℕ) (p q : PathValue) (delta : Option (List ℕ)) (os : List Opened) → IsIn t token p q → is_some (t q) ≡ true
    → is_directory_at t q ≡ true
    → mirrored trees (upon t token p delta os) (open_command true q) ≡ Some (upon t (token_of true (length q)) q None (record { token = token; path = p; delta = delta } ∷ os))
directory_opened trees t token p q delta os so there kind =
    ap (λ x. if in_last (upon t token p delta os) x (parent_token q) && (is_some (t x) && is_directory_at t x)
    then Some (upon t (token_of true (length q)) x None (record { token = token; path = p; delta = delta } ∷ os)) else None) (spelled q so.named)
    ∙ (λ i. if in_the_last t token p q delta os so i && (there i && kind i)
    then Some (upon t (token_of true (length q)) q None (record { token = token; path = p; delta = delta } ∷ os)) else None)

pub file_opened : (trees : ℕ → Tree) (t : Nodes) (token : List ℕ) (p q : PathValue) (delta : Option (List ℕ)) (os : List Opened) → IsIn t token p q → is_some (t q) ≡ true
    → is_directory_at t q ≡ false
    → mirrored trees (upon t token p delta os) (open_command false q) ≡ Some (upon t (token_of false (length q)) q None (record { token = token; path = p; delta = delta } ∷ os))
file_opened trees t token p q delta os so there kind =
    ap (λ x. if in_last (upon t token p delta os) x (parent_token q) && (is_some (t x) && not (is_directory_at t x))
    then Some (upon t (token_of false (length q)) x None (record { token = token; path = p; delta = delta } ∷ os)) else None) (spelled q so.named)
    ∙ (λ i. if in_the_last t token p q delta os so i && (there i && not (kind i))
    then Some (upon t (token_of false (length q)) q None (record { token = token; path = p; delta = delta } ∷ os)) else None)

-- ---- adds

-- what a new entry is before it is told of anything
abbrev pub new_content : Bool → Content
new_content true = Directory
new_content false = File []

pub entry_added : (trees : ℕ → Tree) (t : Nodes) (token : List ℕ) (p q : PathValue) (delta : Option (List ℕ)) (os : List Opened) (d : Bool) → IsIn t token p q → is_some (t q) ≡ false
    → mirrored trees (upon t token p delta os) (add_command d q None)
    ≡ Some (upon (with_node q (Some (new_node (new_content d))) t) (token_of d (length q)) q None (record { token = token; path = p; delta = delta } ∷ os))
entry_added trees t token p q delta os true so none =
    ap (λ x. if in_last (upon t token p delta os) x (parent_token q) && not (is_some (t x))
    then Some (upon (with_node x (Some (new_node Directory)) t) (token_of true (length q)) x None (record { token = token; path = p; delta = delta } ∷ os)) else None) (spelled q so.named)
    ∙ (λ i. if in_the_last t token p q delta os so i && not (none i)
    then Some (upon (with_node q (Some (new_node Directory)) t) (token_of true (length q)) q None (record { token = token; path = p; delta = delta } ∷ os)) else None)
entry_added trees t token p q delta os false so none =
    ap (λ x. if in_last (upon t token p delta os) x (parent_token q) && not (is_some (t x))
    then Some (upon (with_node x (Some (new_node (File []))) t) (token_of false (length q)) x None (record { token = token; path = p; delta = delta } ∷ os)) else None) (spelled q so.named)
    ∙ (λ i. if in_the_last t token p q delta os so i && not (none i)
    then Some (upon (with_node q (Some (new_node (File []))) t) (token_of false (length q)) q None (record { token = token; path = p; delta = delta } ∷ os)) else None)

-- a copy, of a source of this kind
copy_made : (trees : ℕ → Tree) (t : Nodes) (token : List ℕ) (p q : PathValue) (delta : Option (List ℕ)) (os : List Opened) (d : Bool) (at : Place) → IsNamed at.path
    → is_some (nodes_of (trees at.revision) at.path) ≡ true → is_directory_at (nodes_of (trees at.revision)) at.path ≡ d
    → adds_from trees (upon t token p delta os) q (new_content d) (Some (path_text at.path, at.revision)) ≡ Some (with_copy q (nodes_of (trees at.revision)) at.path t)
copy_made trees t token p q delta os true at named there kind =
    ap (λ x. if is_some (nodes_of (trees at.revision) x) && is_directory_at (nodes_of (trees at.revision)) x then Some (with_copy q (nodes_of (trees at.revision)) x t) else None) (spelled at.path named)
    ∙ (λ i. if there i && kind i then Some (with_copy q (nodes_of (trees at.revision)) at.path t) else None)
copy_made trees t token p q delta os false at named there kind =
    ap (λ x. if is_some (nodes_of (trees at.revision) x) && not (is_directory_at (nodes_of (trees at.revision)) x) then Some (with_copy q (nodes_of (trees at.revision)) x t) else None) (spelled at.path named)
    ∙ (λ i. if there i && not (kind i) then Some (with_copy q (nodes_of (trees at.revision)) at.path t) else None)

pub entry_copied : (trees : ℕ → Tree) (t : Nodes) (token : List ℕ) (p q : PathValue) (delta : Option (List ℕ)) (os : List Opened) (d : Bool) (at : Place) → IsIn t token p q
    → is_some (t q) ≡ false → IsNamed at.path → is_some (nodes_of (trees at.revision) at.path) ≡ true
    → is_directory_at (nodes_of (trees at.revision)) at.path ≡ d
    → mirrored trees (upon t token p delta os) (add_command d q (Some at))
    ≡ Some (upon (with_copy q (nodes_of (trees at.revision)) at.path t) (token_of d (length q)) q None (record { token = token; path = p; delta = delta } ∷ os))
entry_copied trees t token p q delta os true at so none named there kind =
    ap (λ x. if in_last (upon t token p delta os) x (parent_token q) && not (is_some (t x))
    then option_map (λ tree. upon tree (token_of true (length q)) x None (record { token = token; path = p; delta = delta } ∷ os))
    (adds_from trees (upon t token p delta os) x Directory (Some (path_text at.path, at.revision))) else None) (spelled q so.named)
    ∙ (λ i. if in_the_last t token p q delta os so i && not (none i)
    then option_map (λ tree. upon tree (token_of true (length q)) q None (record { token = token; path = p; delta = delta } ∷ os))
    (copy_made trees t token p q delta os true at named there kind i) else None)
entry_copied trees t token p q delta os false at so none named there kind =
    ap (λ x. if in_last (upon t token p delta os) x (parent_token q) && not (is_some (t x))
    then option_map (λ tree. upon tree (token_of false (length q)) x None (record { token = token; path = p; delta = delta } ∷ os))
    (adds_from trees (upon t token p delta os) x (File []) (Some (path_text at.path, at.revision))) else None) (spelled q so.named)
    ∙ (λ i. if in_the_last t token p q delta os so i && not (none i)
    then option_map (λ tree. upon tree (token_of false (length q)) q None (record { token = token; path = p; delta = delta } ∷ os))
    (copy_made trees t token p q delta os false at named there kind i) else None)
