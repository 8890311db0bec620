-- The numbers of a commit's nodes, one after the other.
use Rattle.std.proofs.Common.{◌≡◌, ℕ, ◌+◌, ◌<◌, Bool, true, false, cond, List, [], ◌∷◌, ◌++◌, length, get_or, map, take, Option, Some, None, refl, sym, ap, ◌∙◌}
use Rattle.std.specs.Option.{unwrap_or}
use Rattle.std.specs.Ordering.{nat_cmp, is_eq}
use Rattle.std.proofs.lemmas.List.{map_more}
use Rattle.std.proofs.lemmas.List.Sums.{fold_more}
use Rattle.disk_change.specs.Parts.{SeatParts, seat_in, seat_with}
use Rattle.disk_change.specs.Seated.{Seated}
use Rattle.disk_nodes.specs.declared.old.OldEntry.{OldEntry}
use Rattle.disk_change.specs.Numbered.{numbers_given, number_given, grant_left, grant_behind, number_in, IsPut}
use Rattle.sfs_image.specs.Slot.{Row}
use Rattle.sfs_base.proofs.BasicOptions.{none_some, some_not_none}
use Rattle.disk_change.specs.declared.numbers.NodeNumber.{NodeNumber}

-- one node more has its own number, or the next one of the grant
numbers_last : (seats : List Seated) (seat : Seated) (grant : List ℕ)
    → numbers_given (seats ++ seat ∷ []) grant
    ≡ numbers_given seats grant ++ record { node = seat.node; number = number_given seat.number (grant_behind seats grant) } ∷ []
numbers_last [] seat grant = refl
numbers_last (first ∷ seats) seat grant = ap (λ rest. record { node = first.node; number = number_given first.number grant } ∷ rest) (numbers_last seats seat _)

behind_last : (seats : List Seated) (seat : Seated) (grant : List ℕ)
    → grant_behind (seats ++ seat ∷ []) grant ≡ grant_left seat.number (grant_behind seats grant)
behind_last [] seat grant = refl
behind_last (first ∷ seats) seat grant = behind_last seats seat _

module _ (seats : List SeatParts) (i : ℕ) (seat : SeatParts) (grant : List ℕ) (within : i < length seats) (is : seat ≡ get_or seats i seat) where
  more : map (seat_with []) (take (i + 1) seats) ≡ map (seat_with []) (take i seats) ++ seat_with [] seat ∷ []
  more = map_more (seat_with []) seats i seat within ∙ ap (λ s. map (seat_with []) (take i seats) ++ seat_with [] s ∷ []) (sym is)

  pub numbers_more : numbers_given (map (seat_with []) (take (i + 1) seats)) grant
      ≡ numbers_given (map (seat_with []) (take i seats)) grant
      ++ record { node = seat.node; number = number_given seat.number (grant_behind (map (seat_with []) (take i seats)) grant) } ∷ []
  numbers_more = ap (λ those. numbers_given those grant) more ∙ numbers_last (map (seat_with []) (take i seats)) (seat_with [] seat) grant

  pub behind_more : grant_behind (map (seat_with []) (take (i + 1) seats)) grant
      ≡ grant_left seat.number (grant_behind (map (seat_with []) (take i seats)) grant)
  behind_more = ap (λ those. grant_behind those grant) more ∙ behind_last (map (seat_with []) (take i seats)) (seat_with [] seat) grant

-- the numbers of nodes do not depend on their slots
pub same_numbers : (old : List OldEntry) (seats : List SeatParts) (grant : List ℕ)
    → numbers_given (map (seat_with []) seats) grant ≡ numbers_given (map (seat_in old) seats) grant
same_numbers old [] grant = refl
same_numbers old (seat ∷ seats) grant =
    ap (λ rest. record { node = seat.node; number = number_given seat.number grant } ∷ rest) (same_numbers old seats (grant_left seat.number grant))

-- the number of a node after one entry more
pub number_more : (numbers : List NodeNumber) (i : ℕ) (d : NodeNumber) (node : ℕ) (found : Option (Option ℕ)) (new : Option (Option ℕ)) → i < length numbers
    → unwrap_or found None ≡ number_in (take i numbers) node
    → new ≡ cond (is_eq (nat_cmp (get_or numbers i d).node node)) (Some (get_or numbers i d).number) found
    → unwrap_or new None ≡ number_in (take (i + 1) numbers) node
number_more numbers i d node found new within before is =
    ap (λ o. unwrap_or o None) is ∙ by_test (is_eq (nat_cmp (get_or numbers i d).node node)) (get_or numbers i d).number found
    ∙ ap (λ o. cond (is_eq (nat_cmp (get_or numbers i d).node node)) (get_or numbers i d).number o) before
    ∙ sym (fold_more (λ (known : Option ℕ) (one : NodeNumber). cond (is_eq (nat_cmp one.node node)) one.number known) None numbers i d within)
  where
    by_test : (b : Bool) (own : Option ℕ) (other : Option (Option ℕ)) → unwrap_or (cond b (Some own) other) None ≡ cond b own (unwrap_or other None)
    by_test true own other = refl
    by_test false own other = refl

-- a slot that gets a row has it, and one that stays is as it was
pub put_some : (before o after : Option Row) (row : Row) → IsPut before o after → o ≡ Some row → Some row ≡ after
put_some before None after row put e = absurd (none_some e)
put_some before (Some own) after row put e = sym e ∙ sym put

pub put_none : (before o after : Option Row) → IsPut before o after → o ≡ None → before ≡ after
put_none before None after put e = sym put
put_none before (Some own) after put e = absurd (some_not_none e)
