-- Each inode that a commit writes is one of its grant, or an old one.
use Rattle.std.proofs.Common.{◌≡◌, ◌≢◌, ℕ, zero, suc, ◌≤◌, List, [], ◌∷◌, length, map, drop, filter_map, Option, Some, None, inl, inr, refl, sym, ap, subst, ◌∙◌, arith, nat_eq, count_by, fold, Contains}
use Rattle.std.specs.Prelude.{◌⊎◌}
use Rattle.std.specs.Option.{unwrap_or}
use Rattle.std.specs.FinMap.{nat_cmp-IsAntisymmetric}
use Rattle.std.specs.Ordering.{nat_cmp, match_ordering}
use borrow.Author.Tests.{eqb-true}
use Rattle.std.specs.declared.cmp.Ordering.{Ordering}
use Rattle.std.specs.declared.cmp.Ordering.TheVariants.{Less, Equal, Greater}
use Rattle.std.proofs.lemmas.Bool.{cond-true, cond-false, cases_Bool, eqb-false}
use Rattle.std.proofs.lemmas.List.Elements.{Contains-append_cases}
use Rattle.sfs_base.proofs.BasicOptions.{none_some, some_same}
use Rattle.fmt_journal.specs.declared.tx.TxRecord.{TxRecord}
use Rattle.space_map.specs.Space.{GrantedNumbers}
use Rattle.disk_change.specs.AllBuilt.{nodes_built, nodes_with_grant, numbers_with, entry_after}
use Rattle.disk_change.specs.Built.{Built}
use Rattle.disk_change.specs.Lists.{put_over, ascending_by}
use Rattle.disk_nodes.specs.Nodes.{entry_node}
use Rattle.disk_change.specs.Planned.{Planned, enters, blocks_taken}
use Rattle.disk_change.specs.Records.{RecordChange, same_inode, record_of_built, record_of_gone, record_written, written_of_built, written_of_gone, record_inode}
use Rattle.disk_change.specs.Seated.{CommitChanges, Seated}
use Rattle.disk_nodes.specs.declared.old.OldEntry.{OldEntry}
use Rattle.disk_change.proofs.NumbersGiven.{first_in, further_in, IsOwnOrGranted, number_known}
use Rattle.commit_laws.specs.Granted.{IsOwnInode, InodesAreGrantedOrOld}
use Rattle.commit_laws.specs.Granted.IsOwnInode.{granted, kept, lost}
use Rattle.commit_laws.proofs.Granted.{given_by}

-- of an item that is put before, over or behind another
by_order : {X : Type 0} (key : X → ℕ) (item other : X) (others : List X) (y : X) (o : Ordering)
    → Contains (match_ordering o (item ∷ other ∷ others) (item ∷ others) (other ∷ put_over key item others)) y
    → (Contains (put_over key item others) y → Contains (item ∷ others) y) → Contains (item ∷ other ∷ others) y
by_order key item other others y Less has later = has
by_order key item other others y Equal (zero, within, is) later = (0, omega arith, is)
by_order key item other others y Equal (suc k, within, is) later = (suc (suc k), omega arith, is)
by_order key item other others y Greater (zero, within, is) later = (1, omega arith, is)
by_order key item other others y Greater (suc k, within, is) later = shifted (later (k, omega arith, is))
  where
    shifted : Contains (item ∷ others) y → Contains (item ∷ other ∷ others) y
    shifted (zero, within, is) = (0, omega arith, is)
    shifted (suc k, within, is) = (suc (suc k), omega arith, is)

-- what is put among others ascending is that, or one of them
in_put : {X : Type 0} (key : X → ℕ) (item : X) (items : List X) (y : X) → Contains (put_over key item items) y → Contains (item ∷ items) y
in_put key item [] y has = has
in_put key item (other ∷ others) y has = by_order key item other others y (nat_cmp (key item) (key other)) has (λ rest. in_put key item others y rest)

-- and what is in an ascending list was in the list
in_ascending : {X : Type 0} (key : X → ℕ) (items found : List X) (y : X) → Contains (fold (λ others item. put_over key item others) found items) y
    → Contains items y ⊎ Contains found y
in_ascending key [] found y has = inr has
in_ascending key (item ∷ items) found y has = elim (in_ascending key items (put_over key item found) y has) [
  | inl later ↦ inl (further_in item y items later)
  | inr put ↦ first (in_put key item found y put)
]
  where
    first : Contains (item ∷ found) y → Contains (item ∷ items) y ⊎ Contains found y
    first (zero, within, is) = inl (0, omega arith, is)
    first (suc k, within, is) = inr (k, omega arith, is)

pub ascending_is_in : {X : Type 0} (key : X → ℕ) (items : List X) (y : X) → Contains (ascending_by key items) y → Contains items y
ascending_is_in key items y has = elim (in_ascending key items [] y has) [
  | inl is ↦ is
  | inr (k, within, is) ↦ absurd (omega arith)
]

-- an item that is put among others is there, and one with another number stays
put_has : {X : Type 0} (key : X → ℕ) (item : X) (items : List X) → Contains (put_over key item items) item
put_has key item [] = first_in item []
put_has key item (other ∷ others) = by (nat_cmp (key item) (key other)) (put_has key item others)
  where
    by : (o : Ordering) → Contains (put_over key item others) item
        → Contains (match_ordering o (item ∷ other ∷ others) (item ∷ others) (other ∷ put_over key item others)) item
    by Less rest = first_in item (other ∷ others)
    by Equal rest = first_in item others
    by Greater rest = further_in other item (put_over key item others) rest

put_keeps : {X : Type 0} (key : X → ℕ) (item : X) (items : List X) (y : X) → key item ≢ key y → Contains items y → Contains (put_over key item items) y
put_keeps key item [] y apart (k, within, is) = absurd (omega arith)
put_keeps key item (other ∷ others) y apart has =
    by (nat_cmp (key item) (key other)) (nat_cmp-IsAntisymmetric (key item) (key other)) has (put_keeps key item others y apart)
  where
    by : (o : Ordering) → (o ≡ Equal → key item ≡ key other) → Contains (other ∷ others) y → (Contains others y → Contains (put_over key item others) y)
        → Contains (match_ordering o (item ∷ other ∷ others) (item ∷ others) (other ∷ put_over key item others)) y
    by Less same has rest = further_in item y (other ∷ others) has
    by Equal same (zero, within, is) rest = absurd (apart (same refl ∙ ap key is))
    by Equal same (suc k, within, is) rest = further_in item y others (k, omega arith, is)
    by Greater same (zero, within, is) rest = (0, omega arith, is)
    by Greater same (suc k, within, is) rest = further_in other y (put_over key item others) (rest (k, omega arith, is))

-- so an item is in the ascending list where no other one of the list has its number
in_fold : {X : Type 0} (key : X → ℕ) (items found : List X) (y : X) → ((x : X) → Contains items x → key x ≡ key y → x ≡ y) → Contains items y ⊎ Contains found y
    → Contains (fold (λ others item. put_over key item others) found items) y
in_fold key [] found y once (inl (k, within, is)) = absurd (omega arith)
in_fold key [] found y once (inr has) = has
in_fold key (item ∷ items) found y once has = in_fold key items (put_over key item found) y (λ x there. once x (further_in item x items there)) (by has)
  where
    own : item ≡ y → Contains (put_over key item found) y
    own same = subst (λ x. Contains (put_over key item found) x) same (put_has key item found)

    by : Contains (item ∷ items) y ⊎ Contains found y → Contains items y ⊎ Contains (put_over key item found) y
    by (inl (zero, within, is)) = inr (own is)
    by (inl (suc k, within, is)) = inl (k, omega arith, is)
    by (inr has) = elim (cases_Bool (nat_eq (key item) (key y))) [
      | inl t ↦ inr (own (once item (first_in item items) (eqb-true (key item) (key y) t)))
      | inr f ↦ inr (put_keeps key item found y (eqb-false (key item) (key y) f) has)
    ]

pub in_ascending_list : {X : Type 0} (key : X → ℕ) (items : List X) (y : X) → ((x : X) → Contains items x → key x ≡ key y → x ≡ y) → Contains items y
    → Contains (ascending_by key items) y
in_ascending_list key items y once has = in_fold key items [] y once (inl has)

-- an item with the number of each item of the list is there
number_in_fold : {X : Type 0} (key : X → ℕ) (items found : List X) (n : ℕ)
    → ((y : X) × Contains items y × (key y ≡ n)) ⊎ ((y : X) × Contains found y × (key y ≡ n))
    → (x : X) × Contains (fold (λ others item. put_over key item others) found items) x × (key x ≡ n)
number_in_fold key [] found n (inl (y, (k, within, is), same)) = absurd (omega arith)
number_in_fold key [] found n (inr has) = has
number_in_fold key (item ∷ items) found n has = number_in_fold key items (put_over key item found) n (by has)
  where
    by : ((y : _) × Contains (item ∷ items) y × (key y ≡ n)) ⊎ ((y : _) × Contains found y × (key y ≡ n))
        → ((y : _) × Contains items y × (key y ≡ n)) ⊎ ((y : _) × Contains (put_over key item found) y × (key y ≡ n))
    by (inl (y, (zero, within, is), same)) = inr (item, put_has key item found, ap key is ∙ same)
    by (inl (y, (suc k, within, is), same)) = inl (y, (k, omega arith, is), same)
    by (inr (y, has, same)) = elim (cases_Bool (nat_eq (key item) n)) [
      | inl t ↦ inr (item, put_has key item found, eqb-true (key item) n t)
      | inr f ↦ inr (y, put_keeps key item found y (λ e. eqb-false (key item) n f (e ∙ same)) has, same)
    ]

pub number_in_ascending : {X : Type 0} (key : X → ℕ) (items : List X) (y : X) → Contains items y
    → (x : X) × Contains (ascending_by key items) x × (key x ≡ key y)
number_in_ascending key items y has = number_in_fold key items [] (key y) (inl (y, has, refl))

-- a node that is built is that of a seat
seat_of_built : (changes : CommitChanges) (numbers : ℕ → Option ℕ) (seats : List Seated) (fresh : List ℕ) (one : Built)
    → Contains (nodes_built changes numbers seats fresh) one
    → (seat : Seated) × Contains seats seat × (one.number ≡ unwrap_or (numbers seat.node) 0)
seat_of_built changes numbers [] fresh one (k, within, is) = absurd (omega arith)
seat_of_built changes numbers (seat ∷ seats) fresh one (zero, within, is) = (seat, first_in seat seats, ap (λ (b : Built). b.number) (sym is))
seat_of_built changes numbers (seat ∷ seats) fresh one (suc k, within, is) =
    let rest = seat_of_built changes numbers seats (drop (blocks_taken seat) fresh) one (k, omega arith, is) in
    (rest.0, further_in seat rest.0 seats rest.1, rest.2)

-- an item of what a function gives is that of an item of the list
pub mapped_is_in : {X Y : Type 0} (f : X → Y) (xs : List X) (y : Y) → Contains (map f xs) y → (x : X) × Contains xs x × (f x ≡ y)
mapped_is_in f [] y (k, within, is) = absurd (omega arith)
mapped_is_in f (x ∷ xs) y (zero, within, is) = (x, first_in x xs, is)
mapped_is_in f (x ∷ xs) y (suc k, within, is) = let rest = mapped_is_in f xs y (k, omega arith, is) in (rest.0, further_in x rest.0 xs rest.1, rest.2)

-- a record that is written is that of its number
pub written_number : (change : RecordChange) (one : TxRecord) → record_written change ≡ Some one → change.number ≡ one.inode
written_number change one e = elim (cases_Bool (same_inode change.before change.after)) [
  | inl t ↦ absurd (none_some (sym (cond-true (same_inode change.before change.after) None _ t) ∙ e))
  | inr f ↦ ap record_inode (some_same (sym (cond-false (same_inode change.before change.after) None _ f) ∙ e))
]

module _ (change : Planned) (grant : GrantedNumbers) (enough : count_by enters change.seats ≤ length grant.inodes) where
  own_or_granted : (n : ℕ) → IsOwnOrGranted change.seats grant.inodes n → IsOwnInode change grant n
  own_or_granted n (inl (seat, is, own)) = kept seat is own
  own_or_granted n (inr is) = granted is

  built_own : (one : Built) → Contains (nodes_with_grant change grant) one → IsOwnInode change grant one.number
  built_own one there =
      let seat = seat_of_built change.changes (numbers_with change grant.inodes) change.seats grant.blocks one there in
      let number = number_known (IsOwnInode change grant) seat.0.node change.seats grant.inodes enough own_or_granted None (inr (seat.0, seat.1, refl)) in
      subst (λ n. IsOwnInode change grant n) (sym (seat.2 ∙ ap (λ o. unwrap_or o 0) number.1)) number.2

  record_own : (one : TxRecord)
      → Contains (filter_map written_of_built (nodes_with_grant change grant)) one ⊎ Contains (filter_map written_of_gone change.gone) one
      → IsOwnInode change grant one.inode
  record_own one (inl there) =
      let node = given_by written_of_built (nodes_with_grant change grant) one there in
      subst (λ n. IsOwnInode change grant n) (written_number (record_of_built node.0) one node.2) (built_own node.0 node.1)
  record_own one (inr there) =
      let entry = given_by written_of_gone change.gone one there in
      lost entry.0 entry.1 (written_number (record_of_gone entry.0) one entry.2)

pub inodes_are_granted_or_old : InodesAreGrantedOrOld
inodes_are_granted_or_old change grant enough = record {
  records = λ one there. record_own change grant enough one
      (Contains-append_cases (filter_map written_of_built (nodes_with_grant change grant)) (filter_map written_of_gone change.gone) one
      (ascending_is_in record_inode _ one there));
  after = λ entry there.
      let node = mapped_is_in entry_after (nodes_with_grant change grant) entry (ascending_is_in entry_node _ entry there) in
      subst (λ n. IsOwnInode change grant n) (ap (λ (e : OldEntry). e.old.number) node.2) (built_own change grant enough node.0 node.1);
}
