-- The nodes of a commit as they are built, one after the other.
use Rattle.std.proofs.Common.{◌≡◌, ℕ, List, [], ◌∷◌, ◌++◌, take, drop, Option, refl, ap}
use Rattle.disk_change.specs.AllBuilt.{nodes_built, built_by}
use Rattle.disk_change.specs.Planned.{blocks_taken}
use Rattle.disk_change.specs.Seated.{Seated, CommitChanges}

-- what nodes leave of fresh blocks
abbrev pub fresh_behind : List Seated → List ℕ → List ℕ
fresh_behind [] fresh = fresh
fresh_behind (seat ∷ seats) fresh = fresh_behind seats (drop (blocks_taken seat) fresh)

-- one more node has the first of what those before it leave
pub built_last : (changes : CommitChanges) (numbers : ℕ → Option ℕ) (seats : List Seated) (seat : Seated) (fresh : List ℕ)
    → nodes_built changes numbers (seats ++ seat ∷ []) fresh
    ≡ nodes_built changes numbers seats fresh ++ built_by changes numbers (take (blocks_taken seat) (fresh_behind seats fresh)) seat ∷ []
built_last changes numbers [] seat fresh = refl
built_last changes numbers (first ∷ seats) seat fresh =
    ap (λ rest. built_by changes numbers (take (blocks_taken first) fresh) first ∷ rest)
    (built_last changes numbers seats seat (drop (blocks_taken first) fresh))

pub behind_last : (seats : List Seated) (seat : Seated) (fresh : List ℕ)
    → fresh_behind (seats ++ seat ∷ []) fresh ≡ drop (blocks_taken seat) (fresh_behind seats fresh)
behind_last [] seat fresh = refl
behind_last (first ∷ seats) seat fresh = behind_last seats seat (drop (blocks_taken first) fresh)
