-- What nodes need does not depend on their slots.
use Rattle.std.proofs.Common.{◌≡◌, ◌+◌, cond, List, [], ◌∷◌, map, refl, sym, ap, ◌∙◌, count_by, sum_by}
use Rattle.std.proofs.lemmas.List.Sums.{sum_by-cons}
use Rattle.tree_laws.proofs.Joined.{count-cons}
use Rattle.disk_nodes.specs.declared.old.OldEntry.{OldEntry}
use Rattle.disk_change.specs.Parts.{SeatParts, seat_in, seat_with}
use Rattle.disk_change.specs.Planned.{enters, blocks_taken}

pub same_entering : (old : List OldEntry) (seats : List SeatParts)
    → count_by (λ seat. enters (seat_with [] seat)) seats ≡ count_by enters (map (seat_in old) seats)
same_entering old [] = refl
same_entering old (seat ∷ seats) =
    count-cons (λ (s : SeatParts). enters (seat_with [] s)) seat seats ∙ ap (λ n. cond (enters (seat_with [] seat)) 1 0 + n) (same_entering old seats)
    ∙ sym (count-cons enters (seat_in old seat) (map (seat_in old) seats))

pub same_taking : (old : List OldEntry) (seats : List SeatParts)
    → sum_by (λ seat. blocks_taken (seat_with [] seat)) seats ≡ sum_by blocks_taken (map (seat_in old) seats)
same_taking old [] = refl
same_taking old (seat ∷ seats) =
    sum_by-cons (λ (s : SeatParts). blocks_taken (seat_with [] s)) seat seats ∙ ap (λ n. blocks_taken (seat_with [] seat) + n) (same_taking old seats)
    ∙ sym (sum_by-cons blocks_taken (seat_in old seat) (map (seat_in old) seats))
