-- What is rewritten of a directory does not depend on the numbers of the children that come.
use Rattle.std.proofs.Common.{◌≡◌, ◌≢◌, ℕ, zero, suc, ◌+◌, ◌*◌, ◌/◌, ◌<◌, ◌≤◌, Bool, true, false, cond, not, ◌&&◌, ◌||◌, List, [], ◌∷◌, ◌++◌, length, map, take, drop, replicate, Option, Some, None, option_map, is_none, inl, inr, refl, sym, ap, subst, ◌∙◌, arith, nat_eq}
use Rattle.std.specs.Prelude.{nat_le, All}
use Rattle.std.specs.FinMap.{FinMap, get}
use Rattle.std.specs.List.{AllByRecursion, cons_option, list_all}
use Rattle.std.specs.Option.{option_map_or, option_eq, unwrap_or}
use Rattle.sfs_base.specs.declared.numbers.NodeId.{NodeId}
use Rattle.std.proofs.lemmas.Bool.{cases_Bool}
use Rattle.sfs_base.proofs.BasicTruth.{true_not_false}
use Rattle.std.proofs.lemmas.List.Elements.{All-head, All-tail}
use lib.Seq.{drop-nil}
use Rattle.sfs_base.proofs.BasicLists.{take_none}
use Rattle.sfs_base.proofs.BasicOptions.{none_some, some_same}
use Rattle.sfs_image.proofs.BytesLaws.{option_map-Some}
use Rattle.sfs_image.specs.Seen.{Seen, SeenInodes}
use Rattle.sfs_image.specs.Slot.{Row}
use Rattle.tree_laws.specs.NameRow.{number_of}
use Rattle.tree_laws.specs.Order.{name_cmp}
use Rattle.tree_laws.specs.Tree.{TreeState, row_of, kind_of, names_of}
use Rattle.tree_laws.proofs.Names.{get-names_where}
use Rattle.absorb.specs.declared.nets.NetRow.{NetRow}
use Rattle.absorb.specs.Last.{node_id_of}
use Rattle.absorb.specs.Net.{IsNetRow, IsNet}
use Rattle.image_laws.specs.Commit.{row_in_net, brought_row, slot_after, new_rows, filled, slots_after, Commit, blank, ComesBy, had, enters}
use Rattle.image_laws.specs.Need.{same_row, same_slots, slots_in_block, rewrites_slots, directory_rewrite}
use Rattle.image_laws.specs.Renamed.{Numbering}
use Rattle.image_laws.specs.Slots.{BLOCK_SLOTS, looked_up, rows_end, at_length, blocks_up_to_last}
use Rattle.image_laws.specs.Stands.{inode_under, row_on, IsUnused}
use Rattle.image_laws.proofs.NetRows.{net_row_is}
use Rattle.image_laws.proofs.Places.{slot_is}
use Rattle.image_laws.proofs.SlotRows.{OnRow, each_found}
use Rattle.image_laws.proofs.Standing.{not_used}
use Rattle.turn_laws.specs.Need.{stand_in}
use Rattle.turn_laws.specs.LawsNeed.{NumbersGoOn, RewritesNeedNoNumbers}

abbrev Slots : Type 0
Slots = List (Option Row)

-- slots that are not one are told apart
told_apart : (a b : Row) → b ≢ a → option_eq same_row (Some a) (Some b) ≡ false
told_apart a b apart = elim (cases_Bool (option_eq same_row (Some a) (Some b))) [
  | inl t ↦ absurd (apart (sym (some_same (slot_is (Some a) (Some b) t))))
  | inr f ↦ f
]

-- Two slots are alike beside an old one: both have a row or neither, and both are the old one or neither.
record SlotAlike (old a b : Option Row) : Type 0 where
  empty : is_none a ≡ is_none b
  kept : option_eq same_row old a ≡ option_eq same_row old b

-- Two lists of slots are alike beside the old slots, behind which all are empty.
abbrev AreAlike : Slots → Slots → Slots → Type 0
AreAlike olds [] [] = Unit {0}
AreAlike olds [] (b ∷ these) = ⊥
AreAlike olds (a ∷ ours) [] = ⊥
AreAlike [] (a ∷ ours) (b ∷ these) = SlotAlike None a b × AreAlike [] ours these
AreAlike (old ∷ olds) (a ∷ ours) (b ∷ these) = SlotAlike old a b × AreAlike olds ours these

-- they have rows up to the same place
end_alike : (olds ours these : Slots) → AreAlike olds ours these → rows_end ours ≡ rows_end these
end_alike olds [] [] alike = refl
end_alike olds [] (b ∷ these) alike = absurd alike
end_alike olds (a ∷ ours) [] alike = absurd alike
end_alike [] (a ∷ ours) (b ∷ these) alike =
    λ i. cond (alike.0.empty i && nat_eq (end_alike [] ours these alike.1 i) 0) 0 (suc (end_alike [] ours these alike.1 i))
end_alike (old ∷ olds) (a ∷ ours) (b ∷ these) alike =
    λ i. cond (alike.0.empty i && nat_eq (end_alike olds ours these alike.1 i) 0) 0 (suc (end_alike olds ours these alike.1 i))

-- so have those behind the first ones
behind_alike : (k : ℕ) (olds ours these : Slots) → AreAlike olds ours these → AreAlike (drop k olds) (drop k ours) (drop k these)
behind_alike zero [] [] [] alike = tt
behind_alike zero (old ∷ olds) [] [] alike = tt
behind_alike zero [] (a ∷ ours) (b ∷ these) alike = alike
behind_alike zero (old ∷ olds) (a ∷ ours) (b ∷ these) alike = alike
behind_alike zero olds [] (b ∷ these) alike = absurd alike
behind_alike zero olds (a ∷ ours) [] alike = absurd alike
behind_alike (suc k) olds [] [] alike = tt
behind_alike (suc k) olds [] (b ∷ these) alike = absurd alike
behind_alike (suc k) olds (a ∷ ours) [] alike = absurd alike
behind_alike (suc k) [] (a ∷ ours) (b ∷ these) alike = subst (λ l. AreAlike l (drop k ours) (drop k these)) (drop-nil k) (behind_alike k [] ours these alike.1)
behind_alike (suc k) (old ∷ olds) (a ∷ ours) (b ∷ these) alike = behind_alike k olds ours these alike.1

abbrev padded : ℕ → ℕ → Slots → Slots
padded k more slots = take k (slots ++ replicate more None)

-- as many of the first ones, and empty ones behind them, are the old ones or not alike
same_alike : (k p q : ℕ) (olds ours these : Slots) → AreAlike olds ours these → k ≤ p → k ≤ q
    → same_slots (padded k p olds) (padded k q ours) ≡ same_slots (padded k p olds) (padded k q these)
same_alike zero p q olds ours these alike le low =
    ap (same_slots (padded zero p olds)) (take_none (ours ++ replicate q None) ∙ sym (take_none (these ++ replicate q None)))
same_alike (suc k) p q olds [] [] alike le low = refl
same_alike (suc k) p q olds [] (b ∷ these) alike le low = absurd alike
same_alike (suc k) p q olds (a ∷ ours) [] alike le low = absurd alike
same_alike (suc k) zero q [] (a ∷ ours) (b ∷ these) alike le low = absurd (omega arith)
same_alike (suc k) (suc p) q [] (a ∷ ours) (b ∷ these) alike le low =
    λ i. alike.0.kept i && same_alike k p q [] ours these alike.1 (omega arith) (omega arith) i
same_alike (suc k) p q (old ∷ olds) (a ∷ ours) (b ∷ these) alike le low =
    λ i. alike.0.kept i && same_alike k p q olds ours these alike.1 (omega arith) (omega arith) i

-- and all empty or not alike
empty_alike : (k q : ℕ) (olds ours these : Slots) → AreAlike olds ours these → list_all is_none (padded k q ours) ≡ list_all is_none (padded k q these)
empty_alike zero q olds ours these alike = ap (list_all is_none) (take_none (ours ++ replicate q None) ∙ sym (take_none (these ++ replicate q None)))
empty_alike (suc k) q olds [] [] alike = refl
empty_alike (suc k) q olds [] (b ∷ these) alike = absurd alike
empty_alike (suc k) q olds (a ∷ ours) [] alike = absurd alike
empty_alike (suc k) q [] (a ∷ ours) (b ∷ these) alike = λ i. alike.0.empty i && empty_alike k q [] ours these alike.1 i
empty_alike (suc k) q (old ∷ olds) (a ∷ ours) (b ∷ these) alike = λ i. alike.0.empty i && empty_alike k q olds ours these alike.1 i

-- so what is rewritten is the same
rewrites_alike : (seen : Seen) (ours these : Slots) → AreAlike seen.slots ours these → directory_rewrite seen ours ≡ directory_rewrite seen these
rewrites_alike seen ours these alike = λ i. record {
  blocks = blocks i;
  is_rewritten = λ n. rewritten n i;
  is_zero = λ n. empty_alike BLOCK_SLOTS BLOCK_SLOTS _ _ _ (behind_alike (BLOCK_SLOTS * n) seen.slots ours these alike) i;
  pointers = seen.blocks;
}
  where
    blocks : blocks_up_to_last ours ≡ blocks_up_to_last these
    blocks = ap (λ n. (n + 14) / BLOCK_SLOTS) (end_alike seen.slots ours these alike)

    rewritten : (n : ℕ) → rewrites_slots seen ours n ≡ rewrites_slots seen these n
    rewritten n =
        λ i. not
        (same_alike BLOCK_SLOTS BLOCK_SLOTS BLOCK_SLOTS _ _ _ (behind_alike (BLOCK_SLOTS * n) seen.slots ours these alike) (omega arith) (omega arith) i)
        || (nat_le (blocks i) n && not (nat_eq (seen.blocks n) 0))

-- slots after a net under two numberings, by neither of which a row that comes is one that stood there
module _ (num other : Numbering) (tree : TreeState) (earlier later : FinMap name_cmp ℕ) where
  -- No row that a change brings is this one.
  record IsApart (row : Row) : Type 0 where
    own : (change : NetRow) → IsNetRow earlier later change → (child : ℕ) → number_of change.after ≡ Some child → row_on num tree change.name child ≢ row
    theirs : (change : NetRow) → IsNetRow earlier later change → (child : ℕ) → number_of change.after ≡ Some child → row_on other tree change.name child ≢ row

  abbrev AreApart : Slots → Type 0
  AreApart = AllByRecursion (OnRow IsApart)

  -- two further rows that are apart from the rows of slots
  record IsFurther (olds : Slots) (a b : Row) : Type 0 where
    own : (row : Row) → IsApart row → a ≢ row
    theirs : (row : Row) → IsApart row → b ≢ row

  abbrev AreFurther : Slots → List Row → List Row → Type 0
  AreFurther olds [] [] = Unit {0}
  AreFurther olds [] (b ∷ these) = ⊥
  AreFurther olds (a ∷ ours) [] = ⊥
  AreFurther olds (a ∷ ours) (b ∷ these) = IsFurther olds a b × AreFurther olds ours these

  further : (net : List NetRow) → All (IsNetRow earlier later) net → AreFurther [] (new_rows num tree net) (new_rows other tree net)
  further [] all = tt
  further (change ∷ net) all = by (is_none change.before) (number_of change.after) refl (further net (All-tail (IsNetRow earlier later) change net all))
    where
      by : (b : Bool) (o : Option ℕ) → number_of change.after ≡ o → AreFurther [] (new_rows num tree net) (new_rows other tree net)
          → AreFurther [] (cons_option (cond b (option_map (row_on num tree change.name) o) None) (new_rows num tree net))
          (cons_option (cond b (option_map (row_on other tree change.name) o) None) (new_rows other tree net))
      by false o e rest = rest
      by true None e rest = rest
      by true (Some child) e rest =
          let is = All-head (IsNetRow earlier later) change net all in
          (record { own = λ row apart. apart.own change is child e; theirs = λ row apart. apart.theirs change is child e }, rest)

  module _ (net : List NetRow) (is : IsNet earlier later net) where
    slot_alike : (slot : Option Row) → OnRow IsApart slot → SlotAlike slot (slot_after num tree net slot) (slot_after other tree net slot)
    slot_alike None apart = record { empty = refl; kept = refl }
    slot_alike (Some row) apart = by_net (row_in_net row.name net) refl
      where
        by_child : (change : NetRow) → IsNetRow earlier later change → (o : Option ℕ) → number_of change.after ≡ o
            → SlotAlike (Some row) (option_map (row_on num tree change.name) o) (option_map (row_on other tree change.name) o)
        by_child change one None e = record { empty = refl; kept = refl }
        by_child change one (Some child) e = record {
          empty = refl;
          kept =
              told_apart row (row_on num tree change.name child) (apart.own change one child e)
              ∙ sym (told_apart row (row_on other tree change.name child) (apart.theirs change one child e));
        }

        by_net : (o : Option NetRow) → row_in_net row.name net ≡ o
            → SlotAlike (Some row) (option_map_or (brought_row num tree) o (Some row)) (option_map_or (brought_row other tree) o (Some row))
        by_net None e = record { empty = refl; kept = refl }
        by_net (Some change) e = by_child change (net_row_is earlier later net is row.name change e).1 (number_of change.after) refl

    abbrev own_slots : Slots → Slots
    own_slots = map (slot_after num tree net)

    abbrev their_slots : Slots → Slots
    their_slots = map (slot_after other tree net)

    changed_alike : (slots : Slots) → AreApart slots → AreAlike slots (own_slots slots) (their_slots slots)
    changed_alike [] apart = tt
    changed_alike (slot ∷ slots) apart = (slot_alike slot apart.0, changed_alike slots apart.1)

    behind_all : (rows others : List Row) → AreFurther [] rows others → AreAlike [] (map Some rows) (map Some others)
    behind_all [] [] both = tt
    behind_all [] (b ∷ these) both = absurd both
    behind_all (a ∷ ours) [] both = absurd both
    behind_all (a ∷ ours) (b ∷ these) both = (record { empty = refl; kept = refl }, behind_all ours these both.1)

    filled_alike : (slots : Slots) (rows others : List Row) → AreApart slots → AreFurther [] rows others
        → AreAlike slots (filled (own_slots slots) rows) (filled (their_slots slots) others)
    filled_alike [] rows others apart both = behind_all rows others both
    filled_alike (slot ∷ slots) [] [] apart both = changed_alike (slot ∷ slots) apart
    filled_alike (slot ∷ slots) [] (b ∷ these) apart both = absurd both
    filled_alike (slot ∷ slots) (a ∷ ours) [] apart both = absurd both
    filled_alike (slot ∷ slots) (a ∷ ours) (b ∷ these) apart both =
        by (slot_after num tree net slot) (slot_after other tree net slot) (slot_alike slot apart.0) (filled_alike slots ours these apart.1 both.1)
        (filled_alike slots (a ∷ ours) (b ∷ these) apart.1 both)
      where
        first : (slot : Option Row) → OnRow IsApart slot → SlotAlike slot (Some a) (Some b)
        first None apart = record { empty = refl; kept = refl }
        first (Some row) apart = record { empty = refl; kept = told_apart row a (both.0.own row apart) ∙ sym (told_apart row b (both.0.theirs row apart)) }

        by : (s t : Option Row) → SlotAlike slot s t → AreAlike slots (filled (own_slots slots) ours) (filled (their_slots slots) these)
            → AreAlike slots (filled (own_slots slots) (a ∷ ours)) (filled (their_slots slots) (b ∷ these))
            → AreAlike (slot ∷ slots) (filled (s ∷ own_slots slots) (a ∷ ours)) (filled (t ∷ their_slots slots) (b ∷ these))
        by None None alike fewer all = (first slot apart.0, fewer)
        by None (Some t) alike fewer all = absurd (true_not_false alike.empty)
        by (Some s) None alike fewer all = absurd (true_not_false (sym alike.empty))
        by (Some s) (Some t) alike fewer all = (alike, all)

-- the number of a node tells the node
number_tells : (a b : Option NodeId) → number_of a ≡ number_of b → a ≡ b
number_tells None None e = refl
number_tells None (Some b) e = absurd (none_some e)
number_tells (Some a) None e = absurd (none_some (sym e))
number_tells (Some a) (Some b) e = ap (λ (n : ℕ). Some (record { 0 = n })) (some_same e)

module _ (commit : Commit) (old new : TreeState) (image : SeenInodes) (go : NumbersGoOn commit old new image) (node : ℕ) (net : List NetRow)
    (is : IsNet (names_of node old.rows) (names_of node new.rows) net) where
  abbrev earlier : FinMap name_cmp ℕ
  earlier = names_of node old.rows

  abbrev later : FinMap name_cmp ℕ
  later = names_of node new.rows

  -- A row of a slot is that of a child, which has a number.
  record IsOfChild (row : Row) : Type 0 where
    child : ℕ
    named : row_of old node row.name ≡ Some child
    number : ℕ
    numbered : commit.before child ≡ Some number
    inode : row.inode ≡ number

  of_child : (i : ℕ) → commit.before node ≡ Some i → (row : Row) → looked_up row.name (image.seen i).slots ≡ Some row → IsOfChild row
  of_child i e row found =
      let one = option_map-Some (row_on commit.before old row.name) (row_of old node row.name) row (sym ((go.stands.each node i e).slots row.name) ∙ found) in
      let number = go.stands.named node row.name one.0 one.1 in
      record {
        child = one.0;
        named = one.1;
        number = number.0;
        numbered = number.1;
        inode = ap (λ (r : Row). r.inode) one.2 ∙ ap (λ o. unwrap_or o 0) number.1;
      }

  -- a change brings another child under the name
  other_child : (row : Row) (own : IsOfChild row) (change : NetRow) → IsNetRow earlier later change → change.name ≡ row.name → (child : ℕ)
      → number_of change.after ≡ Some child → child ≡ own.child → ⊥
  other_child row own change one names child e same =
      one.differs (number_tells change.before change.after (
      one.before ∙ get-names_where node (λ _. true) old.rows change.name ∙ ap (row_of old node) names ∙ own.named ∙ ap Some (sym same) ∙ sym e
      ))

  apart_of : (row : Row) → IsOfChild row → IsApart (stand_in image) commit.after new earlier later row
  apart_of row own = record {
    own = λ change one child e same.
        let inodes : image.count + child ≡ own.number = ap (λ (r : Row). r.inode) same ∙ own.inode in
        let lt = go.stands.within own.child own.number own.numbered in
        absurd (omega arith);
    theirs = λ change one child e same.
        let has = go.follows.named node change.name child (sym (get-names_where node (λ _. true) new.rows change.name) ∙ sym one.after ∙ e) in
        let inodes : has.0 ≡ own.number = sym (ap (λ o. unwrap_or o 0) has.1) ∙ ap (λ (r : Row). r.inode) same ∙ own.inode in
        by_way change one (ap (λ (r : Row). r.name) same) child e has.0 inodes (go.gives.comes child has.0 has.1);
  }
    where
      by_way : (change : NetRow) → IsNetRow earlier later change → change.name ≡ row.name → (child : ℕ) → number_of change.after ≡ Some child → (j : ℕ)
          → j ≡ own.number → ComesBy commit image child j → ⊥
      by_way change one names child e j same (had has) =
          other_child row own change one names child e (go.stands.once child own.child own.number (has ∙ ap Some same) own.numbered)
      by_way change one names child e j same (enters none lt unused) =
          not_used (kind_of old own.child)
          (sym (go.stands.each own.child own.number own.numbered).kind ∙ sym (ap (λ k. (image.seen k).kind) same) ∙ unused.kind)

  slots_apart : (o : Option ℕ) → commit.before node ≡ o
      → AllByRecursion (OnRow (IsApart (stand_in image) commit.after new earlier later)) (option_map_or image.seen o blank).slots
  slots_apart None e = tt
  slots_apart (Some i) e =
      each_found (IsApart (stand_in image) commit.after new earlier later) (image.seen i).slots (go.stands.each node i e).once
      (λ row found. apart_of row (of_child i e row found))

  abbrev seen : Seen
  seen = option_map_or image.seen (commit.before node) blank

  no_numbers : directory_rewrite seen (slots_after (stand_in image) new net seen.slots) ≡ directory_rewrite seen (slots_after commit.after new net seen.slots)
  no_numbers =
      rewrites_alike seen (slots_after (stand_in image) new net seen.slots) (slots_after commit.after new net seen.slots)
      (filled_alike (stand_in image) commit.after new earlier later net is seen.slots (new_rows (stand_in image) new net) (new_rows commit.after new net)
      (slots_apart (commit.before node) refl) (further (stand_in image) commit.after new earlier later net is.each))

pub rewrites_need_no_numbers : RewritesNeedNoNumbers
rewrites_need_no_numbers commit old new image node net go is = no_numbers commit old new image go node net is
