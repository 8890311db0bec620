-- The parts of a store, kept by each change.
use Rattle.std.proofs.Common.{◌≡◌, ℕ, zero, suc, List, [], ◌∷◌, ◌++◌, replicate, sym, ap, subst, ◌∙◌, arith}
use Rattle.std.specs.FinMap.{empty, get-empty, len-empty}
use Rattle.std.proofs.lemmas.List.{append-nil, append_assoc, length-append}
use Rattle.tree_laws.specs.Order.{name_cmp}
use Rattle.tree_laws.specs.Buckets.{Bucket, joined, IsPlaced, IsBuilt}
use Rattle.tree_laws.proofs.Joined.{IsPlaced-push, joined-push}
use Rattle.sfs_base.proofs.BasicOptions.{none_not_some}

pub IsPlaced-new : IsPlaced []
IsPlaced-new = record {
  placed = λ place name some. absurd (none_not_some _ (get-empty name_cmp name) some);
  full = λ place. let e = len-empty name_cmp ℕ in omega arith;
}

pub IsPlaced-grown : (ms : List Bucket) (n : ℕ) → IsPlaced ms → IsPlaced (ms ++ replicate n empty)
IsPlaced-grown ms zero h = subst IsPlaced (sym (append-nil ms)) h
IsPlaced-grown ms (suc n) h = subst IsPlaced (append_assoc ms (empty ∷ []) (replicate n empty)) (IsPlaced-grown (ms ++ empty ∷ []) n (IsPlaced-push ms h))

pub joined-grown : (ms : List Bucket) (n : ℕ) → IsPlaced ms → joined (ms ++ replicate n empty) ≡ joined ms
joined-grown ms zero h = ap joined (append-nil ms)
joined-grown ms (suc n) h =
    ap joined (sym (append_assoc ms (empty ∷ []) (replicate n empty))) ∙ joined-grown (ms ++ empty ∷ []) n (IsPlaced-push ms h) ∙ joined-push ms h

-- eight buckets more
pub IsBuilt-grown : (ms : List Bucket) → IsBuilt ms → IsBuilt (ms ++ replicate 8 empty)
IsBuilt-grown ms h =
    let n = length-append ms (replicate 8 empty) in
    let e = h.eight in
    record { eight = omega arith; rows = IsPlaced-grown ms 8 h.rows }
