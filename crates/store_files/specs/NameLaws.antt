-- Names of files are the same or they are not.
use Rattle.std.proofs.{Common.{◌≡◌, ◌≢◌, ◌⊎◌, inl, inr, true, false, Some, None, refl, sym, ap, ◌∙◌}, lemmas.Bool.Decides.eqb_tells}
use Rattle.std.specs.Prelude.{◌==◌, ◌&&◌}
use Rattle.store_files.specs.{Names.{kind_of, shard_of, number_of, numbers_of, named, same_name}, declared.name.FileName.FileName}
use Rattle.store_files.specs.declared.name.FileName.TheVariants.{Format, Kind, Uuid, Current, Locks, Revision, Properties, RepositoryFormat}

-- a name is that of its numbers
pub named_is : (a : FileName) → named (numbers_of a) ≡ a
named_is Format = refl
named_is Kind = refl
named_is Uuid = refl
named_is Current = refl
named_is Locks = refl
named_is (Revision None n) = refl
named_is (Revision (Some shard) n) = refl
named_is (Properties None n) = refl
named_is (Properties (Some shard) n) = refl
named_is RepositoryFormat = refl

same_parts : (a b : FileName) → kind_of a ≡ kind_of b → shard_of a ≡ shard_of b → number_of a ≡ number_of b → a ≡ b
same_parts a b kind shard number = sym (named_is a) ∙ (λ i. named (kind i, shard i, number i)) ∙ named_is b

-- the test says so
pub same_name_tells : (a b : FileName) → ((same_name a b ≡ true) × (a ≡ b)) ⊎ ((same_name a b ≡ false) × (a ≢ b))
same_name_tells a b = elim (eqb_tells (kind_of a) (kind_of b)) [
  | inl kind ↦ elim (eqb_tells (shard_of a) (shard_of b)) [
    | inl shard ↦ elim (eqb_tells (number_of a) (number_of b)) [
      | inl number ↦ inl ((λ i. kind.0 i && shard.0 i && number.0 i), same_parts a b kind.1 shard.1 number.1)
      | inr other ↦ inr ((λ i. kind.0 i && shard.0 i && other.0 i), λ e. other.1 (ap number_of e))
    ]
    | inr other ↦ inr ((λ i. kind.0 i && other.0 i && (number_of a == number_of b)), λ e. other.1 (ap shard_of e))
  ]
  | inr other ↦ inr ((λ i. other.0 i && (shard_of a == shard_of b) && (number_of a == number_of b)), λ e. other.1 (ap kind_of e))
]

pub same_or_not : (a b : FileName) → (a ≡ b) ⊎ (a ≢ b)
same_or_not a b = elim (same_name_tells a b) [
  | inl same ↦ inl same.1
  | inr other ↦ inr other.1
]

pub all_same : {X : Type 0} (d f : FileName → X) (name : FileName) → ((n : FileName) → n ≢ name → f n ≡ d n) → f name ≡ d name → (n : FileName) → f n ≡ d n
all_same d f name others is n = elim (same_or_not n name) [
  | inl e ↦ ap f e ∙ is ∙ sym (ap d e)
  | inr differs ↦ others n differs
]
