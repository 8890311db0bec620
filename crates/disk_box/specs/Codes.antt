-- How what a box is about is stored, so that contracts may see it.
use Rattle.std.specs.Prelude.{◌≡◌, ℕ, Option, Some, None, refl, option_map}
use Rattle.std.specs.Coded.{Coded, code_by, coded×, coded_ℕ, coded_option}
use Rattle.std.specs.declared.snapshot.Snapshot.{Snapshot}
use Rattle.sfs_image.specs.Super.{Layout}
use Rattle.space_map.specs.Space.{Space}
use Rattle.disk_box.specs.declared.key.BoxKey.{BoxKey}

-- a value that only clauses read, as what it is of
abbrev pub value_of : {D : Type 0} → Snapshot D → D
value_of snapshot = snapshot.value

abbrev pub snapshot_of : {D : Type 0} → D → Snapshot D
snapshot_of value = record { marker = record {}; value = value }

-- so it is where there is one, and back
pub snapshot_again : {D : Type 0} → (first : Option (Snapshot D)) → option_map snapshot_of (option_map value_of first) ≡ first
snapshot_again None = refl
snapshot_again (Some snapshot) = refl

-- a key with another first disk
abbrev pub with_first : {D : Type 0} → BoxKey D → Option (Snapshot D) → BoxKey D
with_first key first = record { layout = key.layout; faults = key.faults; start = key.start; space = key.space; first = first }

-- a key as its fields
abbrev pub key_code : {D : Type 0} → Coded Layout → Coded Space → Coded D → Coded (BoxKey D)
key_code {D} layout space disk =
    code_by (Layout × (ℕ × (ℕ × (Space × Option D)))) (coded× layout (coded× coded_ℕ (coded× coded_ℕ (coded× space (coded_option disk)))))
    (λ k. (k.layout, (k.faults, (k.start, (k.space, option_map value_of k.first))))) (λ p. record {
      layout = p.0;
      faults = p.1.0;
      start = p.1.1.0;
      space = p.1.1.1.0;
      first = option_map snapshot_of p.1.1.1.1;
    }) (λ k i. with_first k (snapshot_again k.first i))
