-- Cells lie apart, in their order.
use Rattle.std.proofs.Common.{◌≡◌, ℕ, ◌<◌, refl, ap, arith, ⊎_elim}
use Rattle.sfs_base.specs.declared.numbers.NodeId.{NodeId}
use Rattle.sfs_base.specs.declared.numbers.CoreId.{CoreId}
use Rattle.mem_values.specs.declared.cell_id.CellId.TheVariants.{Lock, Bucket, File, Pending, Part}
use Rattle.mem_values.specs.Places.{LiesBefore, PlacesApart, PlacesAscend}

pub node_again : (a b : NodeId) → a.0 ≡ b.0 → a ≡ b
node_again a b same = λ i. record { 0 = same i }

core_again : (a b : CoreId) → a.0 ≡ b.0 → a ≡ b
core_again a b same = λ i. record { 0 = same i }

pub places_apart : PlacesApart
places_apart nodes cores Lock Lock one two same = refl
places_apart nodes cores Lock (Bucket m c) one two same = absurd (omega (arith, same))
places_apart nodes cores Lock (File m) one two same = absurd (omega (arith, same))
places_apart nodes cores Lock (Pending m) one two same = absurd (omega (arith, same))
places_apart nodes cores Lock (Part j) one two same = absurd (omega (arith, same))
places_apart nodes cores (Bucket n b) Lock one two same = absurd (omega (arith, same))
places_apart nodes cores (Bucket n b) (Bucket m c) one two same =
    let node : n.0 ≡ m.0 = omega (arith, same, one.1, two.1) in let number : b ≡ c = omega (arith, same, node) in λ i. Bucket (node_again n m node i) (number i)
places_apart nodes cores (Bucket n b) (File m) one two same = absurd (omega (arith, same, one.1))
places_apart nodes cores (Bucket n b) (Pending m) one two same = absurd (omega (arith, same, one.0, one.1))
places_apart nodes cores (Bucket n b) (Part j) one two same = absurd (omega (arith, same, one.0, one.1))
places_apart nodes cores (File n) Lock one two same = absurd (omega (arith, same))
places_apart nodes cores (File n) (Bucket m c) one two same = absurd (omega (arith, same, two.1))
places_apart nodes cores (File n) (File m) one two same = let node : n.0 ≡ m.0 = omega (arith, same) in ap File (node_again n m node)
places_apart nodes cores (File n) (Pending m) one two same = absurd (omega (arith, same, one))
places_apart nodes cores (File n) (Part j) one two same = absurd (omega (arith, same, one))
places_apart nodes cores (Pending n) Lock one two same = absurd (omega (arith, same))
places_apart nodes cores (Pending n) (Bucket m c) one two same = absurd (omega (arith, same, two.0, two.1))
places_apart nodes cores (Pending n) (File m) one two same = absurd (omega (arith, same, two))
places_apart nodes cores (Pending n) (Pending m) one two same = let node : n.0 ≡ m.0 = omega (arith, same) in ap Pending (node_again n m node)
places_apart nodes cores (Pending n) (Part j) one two same = absurd (omega (arith, same, one))
places_apart nodes cores (Part i) Lock one two same = absurd (omega (arith, same))
places_apart nodes cores (Part i) (Bucket m c) one two same = absurd (omega (arith, same, two.0, two.1))
places_apart nodes cores (Part i) (File m) one two same = absurd (omega (arith, same, two))
places_apart nodes cores (Part i) (Pending m) one two same = absurd (omega (arith, same, two))
places_apart nodes cores (Part i) (Part j) one two same = let core : i.0 ≡ j.0 = omega (arith, same) in ap Part (core_again i j core)

-- places of two of these orders, one before the other
by_numbers : (a b : ℕ × (ℕ × ℕ)) (P : Type 0) → LiesBefore a b → (a.0 < b.0 → P) → (a.0 ≡ b.0 → a.1.0 < b.1.0 → P)
    → (a.0 ≡ b.0 → a.1.0 ≡ b.1.0 → a.1.1 < b.1.1 → P) → P
by_numbers a b P before high middle low = ⊎_elim high (λ same. ⊎_elim (middle same.0) (λ rest. low same.0 rest.0 rest.1) same.1) before

pub places_ascend : PlacesAscend
places_ascend nodes cores Lock Lock one two before =
    by_numbers (0, (0, 0)) (0, (0, 0)) _ before (λ lt. absurd (omega (arith, lt))) (λ e lt. absurd (omega (arith, lt))) (λ e f lt. absurd (omega (arith, lt)))
places_ascend nodes cores Lock (Bucket m c) one two before = omega arith
places_ascend nodes cores Lock (File m) one two before = omega arith
places_ascend nodes cores Lock (Pending m) one two before = omega arith
places_ascend nodes cores Lock (Part j) one two before = omega arith
places_ascend nodes cores (Bucket n b) Lock one two before =
    by_numbers (1, (n.0, b)) (0, (0, 0)) _ before (λ lt. absurd (omega (arith, lt))) (λ e lt. absurd (omega (arith, lt))) (λ e f lt. absurd (omega (arith, lt)))
places_ascend nodes cores (Bucket n b) (Bucket m c) one two before =
    by_numbers (1, (n.0, b)) (1, (m.0, c)) _ before (λ lt. absurd (omega (arith, lt))) (λ e lt. omega (arith, lt, one.1, two.1))
    (λ e f lt. omega (arith, f, lt))
places_ascend nodes cores (Bucket n b) (File m) one two before =
    by_numbers (1, (n.0, b)) (1, (m.0, 8)) _ before (λ lt. absurd (omega (arith, lt))) (λ e lt. omega (arith, lt, one.1)) (λ e f lt. omega (arith, f, lt))
places_ascend nodes cores (Bucket n b) (Pending m) one two before = omega (arith, one.0, one.1)
places_ascend nodes cores (Bucket n b) (Part j) one two before = omega (arith, one.0, one.1)
places_ascend nodes cores (File n) Lock one two before =
    by_numbers (1, (n.0, 8)) (0, (0, 0)) _ before (λ lt. absurd (omega (arith, lt))) (λ e lt. absurd (omega (arith, e))) (λ e f lt. absurd (omega (arith, lt)))
places_ascend nodes cores (File n) (Bucket m c) one two before =
    by_numbers (1, (n.0, 8)) (1, (m.0, c)) _ before (λ lt. absurd (omega (arith, lt))) (λ e lt. omega (arith, lt)) (λ e f lt. absurd (omega (arith, lt, two.1)))
places_ascend nodes cores (File n) (File m) one two before =
    by_numbers (1, (n.0, 8)) (1, (m.0, 8)) _ before (λ lt. absurd (omega (arith, lt))) (λ e lt. omega (arith, lt)) (λ e f lt. absurd (omega (arith, lt)))
places_ascend nodes cores (File n) (Pending m) one two before = omega (arith, one)
places_ascend nodes cores (File n) (Part j) one two before = omega (arith, one)
places_ascend nodes cores (Pending n) Lock one two before =
    by_numbers (2, (n.0, 0)) (0, (0, 0)) _ before (λ lt. absurd (omega (arith, lt))) (λ e lt. absurd (omega (arith, e))) (λ e f lt. absurd (omega (arith, lt)))
places_ascend nodes cores (Pending n) (Bucket m c) one two before =
    by_numbers (2, (n.0, 0)) (1, (m.0, c)) _ before (λ lt. absurd (omega (arith, lt))) (λ e lt. absurd (omega (arith, e))) (λ e f lt. absurd (omega (arith, e)))
places_ascend nodes cores (Pending n) (File m) one two before =
    by_numbers (2, (n.0, 0)) (1, (m.0, 8)) _ before (λ lt. absurd (omega (arith, lt))) (λ e lt. absurd (omega (arith, e))) (λ e f lt. absurd (omega (arith, e)))
places_ascend nodes cores (Pending n) (Pending m) one two before =
    by_numbers (2, (n.0, 0)) (2, (m.0, 0)) _ before (λ lt. absurd (omega (arith, lt))) (λ e lt. omega (arith, lt)) (λ e f lt. absurd (omega (arith, lt)))
places_ascend nodes cores (Pending n) (Part j) one two before = omega (arith, one)
places_ascend nodes cores (Part i) Lock one two before =
    by_numbers (3, (i.0, 0)) (0, (0, 0)) _ before (λ lt. absurd (omega (arith, lt))) (λ e lt. absurd (omega (arith, e))) (λ e f lt. absurd (omega (arith, lt)))
places_ascend nodes cores (Part i) (Bucket m c) one two before =
    by_numbers (3, (i.0, 0)) (1, (m.0, c)) _ before (λ lt. absurd (omega (arith, lt))) (λ e lt. absurd (omega (arith, e))) (λ e f lt. absurd (omega (arith, e)))
places_ascend nodes cores (Part i) (File m) one two before =
    by_numbers (3, (i.0, 0)) (1, (m.0, 8)) _ before (λ lt. absurd (omega (arith, lt))) (λ e lt. absurd (omega (arith, e))) (λ e f lt. absurd (omega (arith, e)))
places_ascend nodes cores (Part i) (Pending m) one two before =
    by_numbers (3, (i.0, 0)) (2, (m.0, 0)) _ before (λ lt. absurd (omega (arith, lt))) (λ e lt. absurd (omega (arith, e))) (λ e f lt. absurd (omega (arith, e)))
places_ascend nodes cores (Part i) (Part j) one two before =
    by_numbers (3, (i.0, 0)) (3, (j.0, 0)) _ before (λ lt. absurd (omega (arith, lt))) (λ e lt. omega (arith, lt)) (λ e f lt. absurd (omega (arith, lt)))
