-- Parts of the first inodes, each made where its number is below their count.
use Rattle.std.proofs.Common.{ℕ, ◌⊎◌, ◌<◌, ◌≤◌, [], arith, inl, inr}
use Rattle.std.proofs.lemmas.Bool.{cases_lt}
use Rattle.sfs_image.specs.Part.{Part}

part_or : (count : ℕ) (make : (i : ℕ) → i < count → Part) (i : ℕ) → (i < count) ⊎ (count ≤ i) → Part
part_or count make i (inl within) = make i within
part_or count make i (inr past) = record { raw = []; tables = []; blocks = [] }

pub parts_made : (count : ℕ) → ((i : ℕ) → i < count → Part) → ℕ → Part
parts_made count make i = part_or count make i (cases_lt i count)

module _ (count : ℕ) (make : (i : ℕ) → i < count → Part) where
  -- what holds of each part that is made holds of the parts
  pub made_within : (P : ℕ → Part → Type 0) → ((i : ℕ) (within : i < count) → P i (make i within)) → (i : ℕ) → i < count → P i (parts_made count make i)
  unfolding parts_made part_or
  made_within P each i within = by (cases_lt i count)
    where
      by : (o : (i < count) ⊎ (count ≤ i)) → P i (part_or count make i o)
      by (inl here) = each i here
      by (inr past) = absurd (omega arith)
