-- The owners of blocks, as inodes are written at the blocks that they hold.
use Rattle.std.proofs.Common.{◌≡◌, ◌≢◌, ℕ, ◌+◌, ◌<◌, ◌&&◌, nat_eq, List, [], ◌++◌, get_or, length, eqb, Option, Some, None, option_map, refl, sym, ap, subst, ◌∙◌, arith, inl, inr}
use Rattle.std.specs.Prelude.{filter_map, slice_index_or}
use Rattle.std.specs.List.{range_with_len}
use Rattle.std.specs.Bool.{Decides}
use Rattle.std.specs.Option.{option_to_list}
use Rattle.std.proofs.lemmas.Bool.{cases_Bool, cases_lt, cond-true, cond-false, eq-eqb, ne_eqb, eqb-true, eqb-false}
use Rattle.std.proofs.lemmas.List.{append-nil, get_or_past, get_or_read}
use Rattle.sfs_base.proofs.BasicTruth.{and_first, and_second}
use Rattle.sfs_base.proofs.BasicOptions.{none_some, some_same}
use Rattle.sfs_base.specs.Lists.{Roomy}
use Rattle.sfs_image.specs.Inode.{Inode, Table}
use Rattle.sfs_image.specs.Seen.{PLACES}
use Rattle.keyed_list.specs.Ascending.{AscendBy}
use Rattle.block_map.proofs.Places.{one_more_given, one_more_none}
use Rattle.disk_tree.specs.Apart.{pointer_in}
use Rattle.image_check.specs.Entries.{owner_block}
use Rattle.image_check.specs.Gathered.{AreGatheredOwners, HasOwners, HoldsAlone, IsHeldAt, entry_of, owner_in, owners_in, pointed}
use Rattle.image_check.specs.Writes.{Writes}
use Rattle.image_check.specs.declared.certificate.Owner.{Owner}
use Rattle.image_check.proofs.Listed.{all_given, found_given, given_ascend}

-- a pointer names the block that it points to
pub pointed_is : (pointer block : ℕ) → pointed pointer ≡ Some block → (pointer ≡ block) × (pointer ≢ 0)
pointed_is pointer block is = elim (cases_Bool (eqb pointer 0)) [
  | inl zero_is ↦ absurd (none_some (sym (cond-true (eqb pointer 0) None (Some pointer) zero_is) ∙ is))
  | inr some ↦ (some_same (sym (cond-false (eqb pointer 0) None (Some pointer) some) ∙ is), eqb-false _ _ some)
]

pub is_pointed : (pointer : ℕ) → pointer ≢ 0 → pointed pointer ≡ Some pointer
is_pointed pointer some = cond-false (eqb pointer 0) None (Some pointer) (ne_eqb _ _ some)

module _ (inodes : List Inode) (tables : List (Roomy Table)) where
  -- before the first inode there is no owner
  pub none_own : (owners : List (Option ℕ)) → ((block : ℕ) → slice_index_or owners block None ≡ None) → HasOwners inodes tables 0 owners
  none_own owners none = record {
    has = λ i place less. absurd (omega arith);
    only = λ block i is. absurd (none_some (sym (none block) ∙ is));
  }

  -- one more inode was written at its blocks
  module _ (n : ℕ) (old new : List (Option ℕ)) (first : HasOwners inodes tables n old)
      (second : Writes old new None (Some n) (λ place. pointed (pointer_in inodes tables n place)) PLACES) where
    alone_before : (i place : ℕ) → HoldsAlone inodes tables (n + 1) i place → HoldsAlone inodes tables n i place
    alone_before i place alone j other less within same = alone j other (omega arith) within same

    earlier : (i place : ℕ) → i < n → place < PLACES → pointer_in inodes tables i place ≢ 0 → HoldsAlone inodes tables (n + 1) i place
        → slice_index_or new (pointer_in inodes tables i place) None ≡ Some i
    earlier i place less within some alone =
        let was = first.has i place less within some (alone_before i place alone) in
        elim (second.rest (pointer_in inodes tables i place)) [
          | inl same ↦ same ∙ was
          | inr one ↦
              (let names = pointed_is (pointer_in inodes tables n one.k) (pointer_in inodes tables i place) one.target in
              let e = alone n one.k (omega arith) one.low names.0 in
              absurd (omega arith))
        ]

    last : (place : ℕ) → place < PLACES → pointer_in inodes tables n place ≢ 0
        → slice_index_or new (pointer_in inodes tables n place) None ≡ Some n
    last place within some = second.has place (pointer_in inodes tables n place) within (is_pointed (pointer_in inodes tables n place) some)

    pub more_own : HasOwners inodes tables (n + 1) new
    more_own = record {
      has = λ i place less within some alone. elim (cases_lt i n) [
        | inl before ↦ earlier i place before within some alone
        | inr here ↦
            (let e : n ≡ i = omega arith in
            subst (λ (j : ℕ). pointer_in inodes tables j place ≢ 0 → slice_index_or new (pointer_in inodes tables j place) None ≡ Some j) e
            (last place within) some)
      ];
      only = λ block i is. elim (second.rest block) [
        | inl same ↦
            (let one = first.only block i (sym same ∙ is) in
            record { within = (let h = one.within in omega arith); place = one.place; low = one.low; names = one.names; there = one.there })
        | inr one ↦
            (let e : n ≡ i = some_same (sym one.stands ∙ is) in
            let names = pointed_is (pointer_in inodes tables n one.k) block one.target in
            subst (λ (j : ℕ). IsHeldAt inodes tables (n + 1) block j) e (record {
              within = omega arith;
              place = one.k;
              low = one.low;
              names = names.0;
              there = λ none. names.1 (names.0 ∙ none);
            }))
      ];
    }

  module _ (owners : List (Option ℕ)) (has : HasOwners inodes tables (length inodes) owners) where
    block_is : (block : ℕ) (o : Option ℕ) (x : Owner) → ◌≡◌ {A = Option Owner} (option_map (λ i. record { block = block; inode = i }) o) (Some x) → owner_block x ≡ block
    block_is block None x is = absurd (none_some is)
    block_is block (Some i) x is = ap owner_block (sym (some_same is))

    inode_is : (block : ℕ) (o : Option ℕ) (x : Owner) → ◌≡◌ {A = Option Owner} (option_map (λ i. record { block = block; inode = i }) o) (Some x) → o ≡ Some x.inode
    inode_is block None x is = absurd (none_some is)
    inode_is block (Some i) x is = ap (λ (o : Owner). Some o.inode) (some_same is)

    blocks_are : (block : ℕ) (x : Owner) → owner_in owners block ≡ Some x → owner_block x ≡ block
    blocks_are block x = block_is block (slice_index_or owners block None) x

    low : (block i : ℕ) → slice_index_or owners block None ≡ Some i → block < length owners
    low block i is = elim (cases_lt block (length owners)) [
      | inl within ↦ within
      | inr past ↦ absurd (none_some (sym (get_or_past owners block None past) ∙ is))
    ]

    pub are_gathered : AreGatheredOwners inodes tables (owners_in owners (length owners))
    unfolding owners_in
    are_gathered = record {
      ascend = given_ascend owner_block (owner_in owners) blocks_are 0 (length owners);
      each = λ i place less within some alone.
          (let stands = has.has i place less within some alone in
          found_given owner_block (owner_in owners) blocks_are 0 (length owners) (pointer_in inodes tables i place) (omega arith)
          (let h = low (pointer_in inodes tables i place) i stands in omega arith)
          ∙ ap (λ (o : Option ℕ). option_map (λ j. record { block = pointer_in inodes tables i place; inode = j }) o) stands);
      right = all_given owner_block (owner_in owners) blocks_are (λ o. IsHeldAt inodes tables (length inodes) o.block o.inode) 0 (length owners)
          (λ block x _ _ is.
          subst (λ (b : ℕ). IsHeldAt inodes tables (length inodes) b x.inode) (sym (blocks_are block x is))
          (has.only block x.inode (inode_is block (slice_index_or owners block None) x is)));
    }

-- the entries of no block
pub none_listed : (owners : List (Option ℕ)) → owners_in owners 0 ≡ []
unfolding owners_in
none_listed owners = refl

-- and of one block more
pub more_listed : (owners : List (Option ℕ)) (n : ℕ) (owner : Option ℕ) → n < length owners → owner ≡ get_or owners n owner → (old new : List Owner)
    → old ≡ owners_in owners n → new ≡ old ++ option_to_list (entry_of n owner) → new ≡ owners_in owners (n + 1)
unfolding owners_in
more_listed owners n owner within is old new before put =
    put ∙ ap (λ (xs : List Owner). xs ++ option_to_list (entry_of n owner)) before
    ∙ ap (λ (o : Option ℕ). filter_map (owner_in owners) (range_with_len 0 n) ++ option_to_list (entry_of n o)) (get_or_read owners n owner within is None)
    ∙ by (owner_in owners n) refl
  where
    by : (o : Option Owner) → owner_in owners n ≡ o
        → filter_map (owner_in owners) (range_with_len 0 n) ++ option_to_list (owner_in owners n) ≡ filter_map (owner_in owners) (range_with_len 0 (n + 1))
    by None e =
        ap (λ (o : Option Owner). filter_map (owner_in owners) (range_with_len 0 n) ++ option_to_list o) e
        ∙ append-nil (filter_map (owner_in owners) (range_with_len 0 n)) ∙ sym (one_more_none (owner_in owners) n e)
    by (Some x) e =
        ap (λ (o : Option Owner). filter_map (owner_in owners) (range_with_len 0 n) ++ option_to_list o) e ∙ sym (one_more_given (owner_in owners) n x e)

block_of_entry : (owners : List (Option ℕ)) (block : ℕ) (x : Owner) → owner_in owners block ≡ Some x → owner_block x ≡ block
block_of_entry owners block x = by (slice_index_or owners block None)
  where
    by : (o : Option ℕ) → entry_of block o ≡ Some x → owner_block x ≡ block
    by None is = absurd (none_some is)
    by (Some i) is = ap owner_block (sym (some_same is))

pub listed_ascend : (owners : List (Option ℕ)) (n : ℕ) (list : List Owner) → list ≡ owners_in owners n → AscendBy owner_block list
unfolding owners_in
listed_ascend owners n list is = subst (AscendBy owner_block) (sym is) (given_ascend owner_block (owner_in owners) (block_of_entry owners) 0 n)

-- the entries of all blocks that have an owner
pub listed_are : (inodes : List Inode) (tables : List (Roomy Table)) (owners : List (Option ℕ)) → HasOwners inodes tables (length inodes) owners
    → (list : List Owner) → list ≡ owners_in owners (length owners) → AreGatheredOwners inodes tables list
listed_are inodes tables owners has list is = subst (AreGatheredOwners inodes tables) (sym is) (are_gathered inodes tables owners has)

-- two entries are one exactly where both their numbers are
pub same_owners : (a b : Owner) → Decides (nat_eq a.block b.block && nat_eq a.inode b.inode) (a ≡ b)
same_owners a b = (
  (λ is.
      (let block = eqb-true a.block b.block (and_first (nat_eq a.block b.block) _ is) in
      let inode = eqb-true a.inode b.inode (and_second (nat_eq a.block b.block) _ is) in
      λ i. record { block = block i; inode = inode i })),
  (λ e.
      ap (λ x. x && nat_eq a.inode b.inode) (eq-eqb a.block b.block (ap owner_block e)) ∙ eq-eqb a.inode b.inode (ap (λ (o : Owner). o.inode) e)),
)
