-- What is written under the premise that texts were read as they are known.
use Rattle.std.proofs.{Common.{◌≡◌, ℕ, List, [], ◌++◌, sym, ap, ◌∙◌, length, take, drop}, Math.Seq.take-append_seam, lemmas.List.take-append-drop}
use Rattle.std.specs.Prelude.{Result, Ok, Err}
use Rattle.wire_replies.specs.{Replies.print, Sinks.{WritesPart, Writes, Says}, declared.reply.Reply.Reply}

-- a part of some bytes is the part of others that are the same
same_part : (bytes others part rest : List ℕ) → bytes ≡ others → bytes ≡ part ++ rest → part ≡ take (length part) others
same_part bytes others part rest same whole =
    sym (take-append_seam part rest) ∙ ap (take (length part)) (sym whole ∙ same)

module _ {S : Type 0} (honest : S → Type 0) (writes : S → S → List ℕ → Type 0)
    (kept : (s t : S) (bytes : List ℕ) → writes s t bytes → honest t → honest s)
    (given : (s t : S) (bytes others : List ℕ) → writes s t bytes → (honest t → bytes ≡ others) → writes s t others)
    (more : (s t u : S) (first second : List ℕ) → writes s t first → writes t u second → writes s u (first ++ second)) where
  -- bytes were written after a read, and they are these where what was read is known
  all_given : (s t u : S) (bytes others : List ℕ) → writes s t [] → (honest t → bytes ≡ others) → writes t u bytes → writes s u others
  all_given s t u bytes others silent same wrote =
      given s u bytes others (more s t u [] bytes silent wrote) (λ known. same (kept t u bytes wrote known))

  -- and so of a part of them
  part_given : (s t u : S) (bytes others : List ℕ) → writes s t [] → (honest t → bytes ≡ others) → WritesPart (writes t u) bytes → WritesPart (writes s u) others
  part_given s t u bytes others silent same p = record {
    part = take (length p.part) others;
    rest = drop (length p.part) others;
    whole = sym (take-append-drop (length p.part) others);
    wrote =
        given s u p.part (take (length p.part) others) (more s t u [] p.part silent p.wrote)
        (λ known. same_part bytes others p.part p.rest (same (kept t u p.part p.wrote known)) p.whole);
  }

  -- and so as far as they are written
  pub written_given : {T E : Type 0} (r : Result T E) (s t u : S) (bytes others : List ℕ) → writes s t [] → (honest t → bytes ≡ others)
      → Writes r (writes t u) bytes → Writes r (writes s u) others
  written_given (Ok x) s t u bytes others silent same wrote = all_given s t u bytes others silent same wrote
  written_given (Err e) s t u bytes others silent same part = part_given s t u bytes others silent same part

  pub said_given : {T E : Type 0} (r : Result T E) (s t u : S) (told others : List Reply) → writes s t [] → (honest t → told ≡ others)
      → Says r (writes t u) told → Says r (writes s u) others
  said_given r s t u told others silent same said = written_given r s t u (print told) (print others) silent (λ known. ap print (same known)) said
