-- Stamps that are kept at the nodes' numbers.
use Rattle.std.proofs.Common.{◌≡◌, ℕ, zero, suc, ◌+◌, ◌<◌, true, false, cond, List, [], ◌∷◌, length, set, get_or, Some, refl, sym, ap, ◌∙◌, arith, nat_eq}
use Rattle.std.specs.Prelude.{max}
use borrow.Author.Tests.{eqb-true, eq-eqb, eqb-false}
use Rattle.std.specs.Option.{unwrap_or}
use Rattle.std.specs.Ordering.{nat_cmp}
use Rattle.std.specs.Cmp.{nat_cmp_total, unsigned_ties}
use Rattle.std.specs.FinMap.{find, get-from_entries}
use Rattle.std.proofs.lemmas.List.{get_or-set_same, get_or-set_other}
use Rattle.cut_laws.specs.Cut.{cut_of}
use Rattle.flush_core.specs.Stamps.{stamps_from, by_nodes, at_least}
use Rattle.sfs_base.proofs.BasicNumbers.{not_same}

find_stamp : (node : ℕ) (stamps : List ℕ) (k x : ℕ) → node + k ≡ x → unwrap_or (find nat_cmp x (stamps_from node stamps)) 0 ≡ get_or stamps k 0
find_stamp node [] k x e = refl
find_stamp node (stamp ∷ stamps) zero x e =
    ap (λ b. unwrap_or (cond b (Some stamp) (find nat_cmp x (stamps_from (suc node) stamps))) 0) (sym (unsigned_ties x node) ∙ eq-eqb x node (omega arith))
find_stamp node (stamp ∷ stamps) (suc k) x e =
    ap (λ b. unwrap_or (cond b (Some stamp) (find nat_cmp x (stamps_from (suc node) stamps))) 0) (sym (unsigned_ties x node) ∙ not_same x node (omega arith))
    ∙ find_stamp (suc node) stamps k x (omega arith)

-- a node's stamp is the one at its number
pub cut_of-by_nodes : (stamps : List ℕ) (x : ℕ) → cut_of (by_nodes stamps) x ≡ get_or stamps x 0
cut_of-by_nodes stamps x = ap (λ o. unwrap_or o 0) (get-from_entries nat_cmp_total (stamps_from 0 stamps) x) ∙ find_stamp 0 stamps x x (omega arith)

-- stamps of which one is raised
pub raised_stamps : (old grown : List ℕ) (node stamp : ℕ) → ((x : ℕ) → get_or grown x 0 ≡ get_or old x 0) → node < length grown → (x : ℕ)
    → cut_of (by_nodes (set grown node (max (get_or grown node 0) stamp))) x ≡ at_least node stamp (cut_of (by_nodes old)) x
raised_stamps old grown node stamp same lt x =
    cut_of-by_nodes (set grown node (max (get_or grown node 0) stamp)) x
    ∙ elim (nat_eq x node) as (λ b. nat_eq x node ≡ b
    → get_or (set grown node (max (get_or grown node 0) stamp)) x 0 ≡ cond b (max (cut_of (by_nodes old) x) stamp) (cut_of (by_nodes old) x)) [
      | true ↦ λ e.
          ap (λ k. get_or (set grown node (max (get_or grown node 0) stamp)) k 0) (eqb-true _ _ e)
          ∙ get_or-set_same grown node (max (get_or grown node 0) stamp) 0 lt
          ∙ ap (λ k. max k stamp) (same node ∙ ap (λ k. get_or old k 0) (sym (eqb-true _ _ e)) ∙ sym (cut_of-by_nodes old x))
      | false ↦ λ e. get_or-set_other grown node x (max (get_or grown node 0) stamp) 0 (eqb-false _ _ e) ∙ same x ∙ sym (cut_of-by_nodes old x)
    ] refl

-- stamps that look alike make cuts that do
pub same_stamps : (old grown : List ℕ) → ((x : ℕ) → get_or grown x 0 ≡ get_or old x 0) → (x : ℕ) → cut_of (by_nodes grown) x ≡ cut_of (by_nodes old) x
same_stamps old grown same x = cut_of-by_nodes grown x ∙ same x ∙ sym (cut_of-by_nodes old x)
