-- The nodes of a commit take their fresh blocks from the grant by the ranks of their places.
use Rattle.std.proofs.Common.{◌≡◌, ℕ, zero, suc, ◌+◌, ◌*◌, ◌<◌, ◌≤◌, List, [], ◌∷◌, length, get_or, map, take, drop, Option, Some, option_map, refl, sym, ap, ◌∙◌, arith, sum_by}
use Rattle.std.specs.Prelude.{slice_get, slice_index}
use Rattle.std.proofs.lemmas.List.{get_or-take, get_or-drop, take_more, take_all, length-map}
use Rattle.std.proofs.lemmas.List.Sums.{sum_by-append, sum_by-cons}
use Rattle.std.proofs.lemmas.Option.{slice_get-map, slice_get-get_or, slice_get_within}
use Rattle.sfs_base.proofs.BasicNumbers.{suc_is_one_more}
use Rattle.sfs_base.proofs.BasicOptions.{none_some, some_same}
use Rattle.sfs_image.specs.Seen.{PLACES}
use Rattle.image_laws.specs.Need.{takes_place, place_in_row, takes_in_row, rank}
use Rattle.image_laws.proofs.Ranks.{ranks_go_on, rank_below}
use Rattle.block_map.proofs.Counts.{rank_first}
use Rattle.disk_change.specs.AllBuilt.{numbers_with, built_by, nodes_built}
use Rattle.disk_change.proofs.Directories.{drop_twice}
use Rattle.disk_change.proofs.NumbersGiven.{drop_zero}
use Rattle.disk_change.specs.Built.{rewrite_in}
use Rattle.disk_change.specs.Planned.{blocks_taken}
use Rattle.disk_change.specs.Seated.{CommitChanges, Seated}
use Rattle.commit_laws.specs.Ranked.{fresh_cut, NodesAreBuiltByRank, NeedsAreThose}

-- the blocks of the first nodes come before those of the next
pub rank_of_first : (seats : List Seated) (m : ℕ) → m ≤ length seats
    → rank (takes_in_row (map rewrite_in seats)) (place_in_row m 0) ≡ sum_by blocks_taken (take m seats)
rank_of_first seats zero within = rank_first (takes_in_row (map rewrite_in seats)) ∙ sym (ap (sum_by blocks_taken) (none seats))
  where
    none : (xs : List Seated) → take 0 xs ≡ []
    none [] = refl
    none (x ∷ xs) = refl
rank_of_first [] (suc m) within = absurd (omega arith)
rank_of_first (first ∷ seats) (suc m) within =
    let all : List Seated = first ∷ seats in
    let seat : Seated = get_or all m first in
    let here : slice_get (map rewrite_in all) m ≡ Some (rewrite_in seat) =
    slice_get-map rewrite_in all m ∙ ap (option_map rewrite_in) (slice_get-get_or all m first (omega arith)) in
    ap (rank (takes_in_row (map rewrite_in all))) (next m) ∙ ranks_go_on (map rewrite_in all) m PLACES (rewrite_in seat) here (omega arith)
    ∙ ap (λ n. n + blocks_taken seat) (rank_of_first all m (omega arith))
    ∙ sym
    (ap (λ k. sum_by blocks_taken (take k all)) (suc_is_one_more m) ∙ ap (sum_by blocks_taken) (take_more all m first (omega arith))
    ∙ sum_by-append blocks_taken (take m all) (seat ∷ []) ∙ ap (λ n. sum_by blocks_taken (take m all) + n) (alone seat))
  where
    next : (m : ℕ) → PLACES * suc m + 0 ≡ PLACES * m + PLACES
    next m = omega arith

    alone : (seat : Seated) → sum_by blocks_taken (seat ∷ []) ≡ blocks_taken seat
    alone seat = let one = sum_by-cons blocks_taken seat [] in omega arith

pub needs_are_those : NeedsAreThose
needs_are_those seats =
    ap (rank (takes_in_row (map rewrite_in seats))) (ap (λ n. PLACES * n) (length-map seats rewrite_in) ∙ behind (length seats))
    ∙ rank_of_first seats (length seats) (omega arith)
    ∙ ap (sum_by blocks_taken) (take_all (length seats) seats (omega arith))
  where
    behind : (n : ℕ) → PLACES * n ≡ PLACES * n + 0
    behind n = omega arith

-- the node at a place of the list has its blocks behind those of the nodes before it
built_at : (changes : CommitChanges) (numbers : ℕ → Option ℕ) (seats : List Seated) (fresh : List ℕ) (m : ℕ) (seat : Seated) → slice_get seats m ≡ Some seat
    → slice_get (nodes_built changes numbers seats fresh) m ≡ Some (built_by changes numbers (fresh_cut seats fresh m seat) seat)
built_at changes numbers [] fresh m seat e = absurd (none_some e)
built_at changes numbers (first ∷ seats) fresh zero seat e =
    let same = some_same e in
    ap (λ (s : Seated). Some (built_by changes numbers (take (blocks_taken s) fresh) s)) same
    ∙ ap (λ those. Some (built_by changes numbers (take (blocks_taken seat) those) seat)) (sym (drop_zero fresh))
built_at changes numbers (first ∷ seats) fresh (suc m) seat e =
    built_at changes numbers seats (drop (blocks_taken first) fresh) m seat e
    ∙ ap (λ those. Some (built_by changes numbers (take (blocks_taken seat) those) seat))
    (drop_twice (sum_by blocks_taken (take m seats)) (blocks_taken first) fresh ∙ ap (λ n. drop n fresh) (sym (sum_by-cons blocks_taken first (take m seats))))

pub nodes_are_built_by_rank : NodesAreBuiltByRank
nodes_are_built_by_rank change grant m seat is = record {
  built = built_at change.changes (numbers_with change grant.inodes) change.seats grant.blocks m seat is;
  fresh = λ place within takes.
      let front : ℕ = sum_by blocks_taken (take m change.seats) in
      let place_rank : ℕ = rank (takes_place (rewrite_in seat)) place in
      let below : place_rank < blocks_taken seat = rank_below (takes_place (rewrite_in seat)) place PLACES takes within in
      get_or-take (blocks_taken seat) (drop front grant.blocks) place_rank 0 below ∙ get_or-drop front grant.blocks place_rank 0
      ∙ ap (slice_index grant.blocks)
      (sym
      (ranks_go_on (map rewrite_in change.seats) m place (rewrite_in seat) (slice_get-map rewrite_in change.seats m ∙ ap (option_map rewrite_in) is)
      (omega arith)
      ∙ ap (λ n. n + place_rank) (rank_of_first change.seats m (let low = slice_get_within change.seats m seat is in omega arith))));
}
