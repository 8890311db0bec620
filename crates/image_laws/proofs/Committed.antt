-- A commit keeps an image standing: for the next tree.
use Rattle.std.proofs.Common.{◌≡◌, ◌≢◌, ℕ, ◌+◌, ◌<◌, ◌≤◌, Bool, true, false, cond, ◌&&◌, List, map, Option, Some, None, option_map, inl, inr, refl, sym, ap, subst, ◌∙◌, arith, count_by, nat_eq}
use borrow.Author.Tests.{eqb-true}
use Rattle.std.specs.Prelude.{is_none, ◌↔◌}
use Rattle.std.specs.Option.{option_and_then, option_map_or}
use Rattle.std.specs.FinMap.{FinMap, get, entries}
use Rattle.sfs_base.specs.declared.numbers.NodeId.{NodeId}
use Rattle.tree_laws.specs.Order.{Key, key_cmp}
use Rattle.tree_laws.specs.NameRow.{number_of}
use Rattle.tree_laws.specs.Tree.{TreeState, row_of, is_directory, is_directory_kind, kind_of, count_of, links_of, names_it, names_of, holds_directory}
use Rattle.tree_laws.proofs.Names.{get-names_where}
use Rattle.sfs_image.specs.Slot.{Row, kind_byte}
use Rattle.sfs_image.specs.Seen.{Seen, SeenInodes, PLACES}
use Rattle.absorb.specs.declared.nets.NetRow.{NetRow}
use Rattle.absorb.specs.Net.{IsNetRow, IsNet}
use Rattle.image_laws.specs.Slots.{looked_up, name_count, in_blocks}
use Rattle.image_laws.specs.Renamed.{Numbering}
use Rattle.image_laws.specs.Stands.{row_on, ShowsNode, IsUnused, HoldsApart, StandsForTree}
use Rattle.image_laws.specs.Commit.{row_in_net, brought_row, slot_after, new_rows, filled, slots_after, Commit, blank, seen_before, IsAside, HasBlock, hole, kept, fresh, ComesBy, had, enters, IsCommitStep, HeldAfter, GivesNumbers}
use Rattle.image_laws.specs.Laws.{CommitsKeepStanding, CommitsHoldTheirBlocks}
use Rattle.sfs_base.proofs.BasicTruth.{and_first}
use Rattle.sfs_base.proofs.BasicOptions.{none_some, some_same}
use Rattle.image_laws.proofs.Paired.{count_paired}
use Rattle.image_laws.proofs.Renaming.{under_is}
use Rattle.tree_laws.proofs.Readings.{directory_by_kind}
use Rattle.image_laws.proofs.Standing.{holder_number, not_used, standing_images_show}
use Rattle.image_laws.proofs.NetRows.{net_row_is, no_net_row, HasNamesOnce, once_ascending, one_if_some, is_made}
use Rattle.image_laws.proofs.SlotsAfter.{none_counted, count_changed, looked_changed, count_filled, looked_filled_old, looked_filled_new, looked_in_blocks, count_in_blocks}

-- rows that pass a test in two maps alike are counted alike
pub count_alike : (p q : Key × ℕ → Bool) (rows other : FinMap key_cmp ℕ) →
    ((k : Key) (x : ℕ) → get rows k ≡ Some x → p (k, x) ≡ true → (get other k ≡ Some x) × (q (k, x) ≡ true)) →
    ((k : Key) (x : ℕ) → get other k ≡ Some x → q (k, x) ≡ true → (get rows k ≡ Some x) × (p (k, x) ≡ true)) →
    count_by p (entries rows) ≡ count_by q (entries other)
count_alike p q rows other forth back = count_paired p q (λ row. row) rows other (record {
  forth = forth;
  back = λ l y is passes. let b = back l y is passes in (l, y, b.0, b.1, refl);
  once = λ k l x y a pa b pb same. same;
})

-- the slots of a directory, as the rows of a tree
pub record HasSlots (num : Numbering) (tree : TreeState) (node : ℕ) (slots : List (Option Row)) : Type 0 where
  pub looked : (name : List ℕ) → looked_up name slots ≡ option_map (row_on num tree name) (row_of tree node name)
  pub once : (name : List ℕ) → name_count name slots ≤ 1

-- the slots of a directory after its net
module _ (num after : Numbering) (old new : TreeState) (x : ℕ) (net : List NetRow) (is_net : IsNet (names_of x old.rows) (names_of x new.rows) net)
    (alike : (n : List ℕ) (y : ℕ) → row_of old x n ≡ Some y → row_of new x n ≡ Some y → ◌≡◌ {A = Row} (row_on num old n y) (row_on after new n y)) where
  abbrev new_row : NetRow → Option Row
  new_row row = cond (is_none row.before) (brought_row after new row) None

  after_named : (row : NetRow) (made : Row) → brought_row after new row ≡ Some made → made.name ≡ row.name
  after_named row made is = by_child (number_of row.after) is
    where
      by_child : (o : Option ℕ) → option_map (row_on after new row.name) o ≡ Some made → made.name ≡ row.name
      by_child (Some y) e = ap (λ (r : Row). r.name) (sym (some_same e))
      by_child None e = absurd (none_some e)

  new_named : (row : NetRow) (made : Row) → new_row row ≡ Some made → made.name ≡ row.name
  new_named row made is = by_test (is_none row.before) is
    where
      by_test : (b : Bool) → cond b (brought_row after new row) None ≡ Some made → made.name ≡ row.name
      by_test true e = after_named row made e
      by_test false e = absurd (none_some e)

  slot_named : (row made : Row) → slot_after after new net (Some row) ≡ Some made → made.name ≡ row.name
  slot_named row made is = by_net (row_in_net row.name net) refl is
    where
      by_net : (o : Option NetRow) → row_in_net row.name net ≡ o → option_map_or (brought_row after new) o (Some row) ≡ Some made → made.name ≡ row.name
      by_net None e same = ap (λ (r : Row). r.name) (sym (some_same same))
      by_net (Some r) e same = after_named r made same ∙ (net_row_is (names_of x old.rows) (names_of x new.rows) net is_net row.name r e).0

  old_row : (n : List ℕ) → get (names_of x old.rows) n ≡ row_of old x n
  old_row n = get-names_where x (λ _. true) old.rows n

  later_row : (n : List ℕ) → get (names_of x new.rows) n ≡ row_of new x n
  later_row n = get-names_where x (λ _. true) new.rows n

  abbrev changed : List (Option Row) → List (Option Row)
  changed slots = map (slot_after after new net) slots

  module _ (slots : List (Option Row)) (h : HasSlots num old x slots) where
    looked_in_changed : (n : List ℕ) → looked_up n (changed slots) ≡ slot_after after new net (option_map (row_on num old n) (row_of old x n))
    looked_in_changed n = looked_changed (slot_after after new net) refl slot_named n slots (h.once n) ∙ ap (slot_after after new net) (h.looked n)

    -- what stands under a name afterwards, and that it stands there once
    record After (n : List ℕ) : Type 0 where
      looked : looked_up n (filled (changed slots) (new_rows after new net)) ≡ option_map (row_on after new n) (row_of new x n)
      once : name_count n (filled (changed slots) (new_rows after new net)) ≤ 1

    names_once : HasNamesOnce net
    names_once = once_ascending net is_net.ascending

    untouched : (n : List ℕ) → row_in_net n net ≡ None → After n
    untouched n none =
        let made = is_made new_row new_named n net names_once in
        let zero : name_count n (map Some (new_rows after new net)) ≡ 0 = made.counted ∙ ap (λ o. one_if_some (option_and_then new_row o)) none in
        let c = count_filled n (changed slots) (new_rows after new net) in
        let d = count_changed (slot_after after new net) refl slot_named n slots in
        let e = h.once n in
        record {
          looked = looked_filled_old n (changed slots) (new_rows after new net) zero ∙ looked_in_changed n ∙ by_child (row_of old x n) refl;
          once = omega arith;
        }
      where
        same : row_of old x n ≡ row_of new x n
        same = sym (old_row n) ∙ no_net_row (names_of x old.rows) (names_of x new.rows) net is_net n none ∙ later_row n

        by_child : (o : Option ℕ) → row_of old x n ≡ o →
            slot_after after new net (option_map (row_on num old n) o) ≡ option_map (row_on after new n) (row_of new x n)
        by_child None e = sym (ap (option_map (row_on after new n)) (sym same ∙ e))
        by_child (Some y) e =
            ap (λ o. option_map_or (brought_row after new) o (Some (row_on num old n y))) none
            ∙ ap Some (alike n y e (sym same ∙ e))
            ∙ sym (ap (option_map (row_on after new n)) (sym same ∙ e))

    touched : (n : List ℕ) (row : NetRow) → row_in_net n net ≡ Some row → After n
    touched n row is =
        by_before row.before refl
      where
        found : (row.name ≡ n) × IsNetRow (names_of x old.rows) (names_of x new.rows) row
        found = net_row_is (names_of x old.rows) (names_of x new.rows) net is_net n row is

        then_row : brought_row after new row ≡ option_map (row_on after new n) (row_of new x n)
        then_row =
            ap (λ m. option_map (row_on after new m) (number_of row.after)) found.0
            ∙ ap (option_map (row_on after new n)) (found.1.after ∙ ap (get (names_of x new.rows)) found.0 ∙ later_row n)

        was : row_of old x n ≡ number_of row.before
        was = sym (found.1.before ∙ ap (get (names_of x old.rows)) found.0 ∙ old_row n)

        by_before : (o : Option NodeId) → row.before ≡ o → After n
        by_before None e =
            let gone : looked_up n slots ≡ None = h.looked n ∙ ap (option_map (row_on num old n)) (was ∙ ap number_of e) in
            let made = is_made new_row new_named n net names_once in
            let a = none_counted n slots gone in
            let b = count_changed (slot_after after new net) refl slot_named n slots in
            let c = count_filled n (changed slots) (new_rows after new net) in
            let d = made.counted in
            let f = at_most (option_and_then new_row (row_in_net n net)) in
            record {
              looked =
                  looked_filled_new n (changed slots) (new_rows after new net) (omega arith)
                  ∙ made.looked ∙ ap (option_and_then new_row) is ∙ ap (λ o. cond (is_none o) (brought_row after new row) None) e ∙ then_row;
              once = omega arith;
            }
          where
            at_most : (o : Option Row) → one_if_some o ≤ 1
            at_most None = omega arith
            at_most (Some row) = omega arith
        by_before (Some y) e =
            let made = is_made new_row new_named n net names_once in
            let zero : name_count n (map Some (new_rows after new net)) ≡ 0 =
            made.counted ∙ ap (λ o. one_if_some (option_and_then new_row o)) is
            ∙ ap (λ o. one_if_some (cond (is_none o) (brought_row after new row) None)) e in
            let c = count_filled n (changed slots) (new_rows after new net) in
            let d = count_changed (slot_after after new net) refl slot_named n slots in
            let f = h.once n in
            record {
              looked =
                  looked_filled_old n (changed slots) (new_rows after new net) zero
                  ∙ looked_in_changed n
                  ∙ ap (λ o. slot_after after new net (option_map (row_on num old n) o)) (was ∙ ap number_of e)
                  ∙ ap (λ o. option_map_or (brought_row after new) o (Some (row_on num old n y.0))) is
                  ∙ then_row;
              once = omega arith;
            }

    by_name : (n : List ℕ) → After n
    by_name n = by_row (row_in_net n net) refl
      where
        by_row : (o : Option NetRow) → row_in_net n net ≡ o → After n
        by_row None e = untouched n e
        by_row (Some row) e = touched n row e

    -- a directory's slots after its net are the rows of the next tree
    pub has_slots_after : HasSlots after new x (in_blocks (slots_after after new net slots))
    has_slots_after = record {
      looked = λ n. looked_in_blocks n (slots_after after new net slots) ∙ (by_name n).looked;
      once = λ n. subst (λ (k : ℕ). k ≤ 1) (sym (count_in_blocks n (slots_after after new net slots))) (by_name n).once;
    }

-- a node has one link count in two trees that agree on its rows, on the rows that name it, and on kinds
module _ (old new : TreeState) (kinds : (x : ℕ) → kind_of new x ≡ kind_of old x) (x : ℕ) (rows : (n : List ℕ) → row_of new x n ≡ row_of old x n)
    (naming : (d : ℕ) (n : List ℕ) → (row_of new d n ≡ Some x) ↔ (row_of old d n ≡ Some x)) where
  same_directory : (y : ℕ) → is_directory new y ≡ is_directory old y
  same_directory y = directory_by_kind new y ∙ ap is_directory_kind (kinds y) ∙ sym (directory_by_kind old y)

  at : (tree : TreeState) (k : Key) (y d : ℕ) → k.0 ≡ d → get tree.rows k ≡ Some y → row_of tree d k.1 ≡ Some y
  at tree k y d same is = subst (λ (e : ℕ). row_of tree e k.1 ≡ Some y) same is

  back_at : (tree : TreeState) (k : Key) (y d : ℕ) → k.0 ≡ d → row_of tree d k.1 ≡ Some y → get tree.rows k ≡ Some y
  back_at tree k y d same is = subst (λ (e : ℕ). row_of tree e k.1 ≡ Some y) (sym same) is

  directories_alike : count_by (holds_directory old x) (entries old.rows) ≡ count_by (holds_directory new x) (entries new.rows)
  directories_alike = count_alike (holds_directory old x) (holds_directory new x) old.rows new.rows (λ k y is passes.
      let here : k.0 ≡ x = eqb-true _ _ (and_first (nat_eq k.0 x) (is_directory old y) passes) in
      (back_at new k y x here (rows k.1 ∙ at old k y x here is), ap (λ b. nat_eq k.0 x && b) (same_directory y) ∙ passes)) (λ k y is passes.
      let here : k.0 ≡ x = eqb-true _ _ (and_first (nat_eq k.0 x) (is_directory new y) passes) in
      (back_at old k y x here (sym (rows k.1) ∙ at new k y x here is), ap (λ b. nat_eq k.0 x && b) (sym (same_directory y)) ∙ passes))

  naming_alike : count_of old.rows x ≡ count_of new.rows x
  naming_alike = count_alike (names_it x) (names_it x) old.rows new.rows (λ k y is passes.
      let child : y ≡ x = eqb-true _ _ passes in
      ((naming k.0 k.1).1 (is ∙ ap Some child) ∙ ap Some (sym child), passes)) (λ k y is passes.
      let child : y ≡ x = eqb-true _ _ passes in
      ((naming k.0 k.1).0 (is ∙ ap Some child) ∙ ap Some (sym child), passes))

  pub links_alike : links_of old x ≡ links_of new x
  links_alike =
      ap (λ b. cond b (2 + count_by (holds_directory old x) (entries old.rows)) (count_of old.rows x)) (sym (same_directory x))
      ∙ ap (λ n. cond (is_directory new x) (2 + n) (count_of old.rows x)) directories_alike
      ∙ ap (cond (is_directory new x) (2 + count_by (holds_directory new x) (entries new.rows))) naming_alike

-- the numbers after a commit: no two nodes have one, and each is within the image
module _ (commit : Commit) (old : TreeState) (image : SeenInodes) (st : StandsForTree commit.before old image) (numbers : GivesNumbers commit image) where
  pub number_once : (x y i : ℕ) → commit.after x ≡ Some i → commit.after y ≡ Some i → x ≡ y
  number_once x y i a b = by_ways (numbers.comes x i a) (numbers.comes y i b)
    where
      taken : (z : ℕ) → commit.before z ≡ Some i → IsUnused (image.seen i) → ⊥
      taken z is free = not_used (kind_of old z) (sym (st.each z i is).kind ∙ free.kind)

      by_ways : ComesBy commit image x i → ComesBy commit image y i → x ≡ y
      by_ways (had p) (had q) = st.once x y i p q
      by_ways (had p) (enters _ _ free) = absurd (taken x p free)
      by_ways (enters _ _ free) (had q) = absurd (taken y q free)
      by_ways (enters p _ _) (enters q _ _) = numbers.once x y i p q a b

  pub number_within : (x i : ℕ) → commit.after x ≡ Some i → i < image.count
  number_within x i is = by_way (numbers.comes x i is)
    where
      by_way : ComesBy commit image x i → i < image.count
      by_way (had p) = st.within x i p
      by_way (enters _ lt _) = lt

module _ (commit : Commit) (old new : TreeState) (image next : SeenInodes) (step : IsCommitStep commit old new image next) where
  -- a node with a number before and after keeps it
  keeps_number : (y i j : ℕ) → commit.before y ≡ Some i → commit.after y ≡ Some j → i ≡ j
  keeps_number y i j a b = by_way (step.commits.numbers.comes y j b)
    where
      by_way : ComesBy commit image y j → i ≡ j
      by_way (had is) = some_same (sym a ∙ is)
      by_way (enters none _ _) = absurd (none_some (sym none ∙ a))

  pub same_row : (d : ℕ) (n : List ℕ) (y : ℕ) → row_of old d n ≡ Some y → row_of new d n ≡ Some y →
      ◌≡◌ {A = Row} (row_on commit.before old n y) (row_on commit.after new n y)
  same_row d n y was now =
      let a = step.stands.named d n y was in
      let b = step.follows.named d n y now in
      let same = under_is commit.before y a.0 a.1 ∙ keeps_number y a.0 b.0 a.1 b.1 ∙ sym (under_is commit.after y b.0 b.1) in
      let kinds = sym (step.follows.kinds y) in
      λ i. record { inode = same i; kind = kinds i; name = n }

  -- the slots of a node before the commit
  pub slots_before : (x : ℕ) → HasSlots commit.before old x (seen_before commit image x).slots
  slots_before x = by_number (commit.before x) refl
    where
      none_of : commit.before x ≡ None → (n : List ℕ) (o : Option ℕ) → row_of old x n ≡ o → None ≡ option_map (row_on commit.before old n) o
      none_of e n None is = refl
      none_of e n (Some y) is = absurd (let h = holder_number commit.before old image step.sound step.stands x n y is in none_some (sym e ∙ h.1))

      by_number : (o : Option ℕ) → commit.before x ≡ o → HasSlots commit.before old x (option_map_or image.seen o blank).slots
      by_number (Some i) e = record { looked = (step.stands.each x i e).slots; once = (step.stands.each x i e).once }
      by_number None e = record { looked = λ n. none_of e n (row_of old x n) refl; once = λ n. omega arith }

  shows_built : (x i : ℕ) → commit.after x ≡ Some i → commit.concerns x ≡ true → ShowsNode commit.after new x (next.seen i)
  shows_built x i is concerned =
      let b = step.commits.built x i is concerned in
      let h =
      has_slots_after commit.before commit.after old new x (commit.nets x) (step.commits.nets x) (same_row x) (seen_before commit image x).slots
      (slots_before x) in
      record {
        kind = b.kind;
        links = b.links;
        size = b.size;
        bytes = b.bytes;
        slots = λ n. ap (looked_up n) b.slots ∙ h.looked n;
        once = λ n. subst (λ (k : ℕ). k ≤ 1) (sym (ap (name_count n) b.slots)) (h.once n);
      }

  shows_aside : (x i : ℕ) → commit.before x ≡ Some i → IsAside old new x → ShowsNode commit.after new x (image.seen i)
  shows_aside x i is a =
      let e = step.stands.each x i is in
      record {
        kind = e.kind ∙ ap kind_byte (sym (step.follows.kinds x));
        links = e.links ∙ links_alike old new step.follows.kinds x a.rows a.naming;
        size = e.size;
        bytes = e.bytes ∙ sym a.bytes;
        slots = λ n. e.slots n ∙ by_child n (row_of old x n) refl ∙ ap (option_map (row_on commit.after new n)) (sym (a.rows n));
        once = e.once;
      }
    where
      by_child : (n : List ℕ) (o : Option ℕ) → row_of old x n ≡ o → option_map (row_on commit.before old n) o ≡ option_map (row_on commit.after new n) o
      by_child n None is = refl
      by_child n (Some y) is = ap Some (same_row x n y is (a.rows n ∙ is))

  shows_each : (x i : ℕ) → commit.after x ≡ Some i → ShowsNode commit.after new x (next.seen i)
  shows_each x i is = elim (commit.concerns x) as (λ b. commit.concerns x ≡ b → ShowsNode commit.after new x (next.seen i)) [
    | true ↦ λ t. shows_built x i is t
    | false ↦ λ t. let a = step.commits.stays x i is t in subst (ShowsNode commit.after new x) (sym a.1) (shows_aside x i a.0 a.2)
  ] refl

  -- a block that is held after the commit was held there, or is fresh
  abbrev HeldBy : ℕ → ℕ → Type 0
  HeldBy i p = HeldAfter commit image next i p

  pub held : (i p : ℕ) → i < next.count → p < PLACES → (next.seen i).blocks p ≢ 0 → HeldBy i p
  held i p lt small some = elim (step.commits.rest i lt) as (λ _. HeldBy i p) [
    | inr free ↦ absurd (some (free.blocks p small))
    | inl node ↦ elim (commit.concerns node.0) as (λ b. commit.concerns node.0 ≡ b → HeldBy i p) [
      | false ↦ λ t. let a = step.commits.stays node.0 i node.1 t in
          HeldAfter.before (number_within commit old image step.stands step.commits.numbers node.0 i node.1) (ap (λ (seen : Seen). seen.blocks p) (sym a.1))
      | true ↦ λ t. by_block node.0 node.1 (step.commits.blocks.has node.0 i p small node.1 t)
    ] refl
  ]
    where
      by_number : (x : ℕ) → commit.after x ≡ Some i → ComesBy commit image x i → (next.seen i).blocks p ≡ (seen_before commit image x).blocks p → HeldBy i p
      by_number x is (had was) same =
          HeldAfter.before (number_within commit old image step.stands step.commits.numbers x i is)
          (sym (same ∙ ap (λ (o : Option ℕ). (option_map_or image.seen o blank).blocks p) was))
      by_number x is (enters none _ _) same = absurd (some (same ∙ ap (λ (o : Option ℕ). (option_map_or image.seen o blank).blocks p) none))

      by_block : (x : ℕ) → commit.after x ≡ Some i → HasBlock commit i p (seen_before commit image x) (next.seen i) → HeldBy i p
      by_block x is (hole zero) = absurd (some zero)
      by_block x is (kept same) = by_number x is (step.commits.numbers.comes x i is) same
      by_block x is (fresh takes same) = HeldAfter.taken takes same

  blocks_apart : HoldsApart next
  blocks_apart i p j q lt less small tiny some same = by_holders (held i p lt small some) (held j q less tiny (λ zero. some (same ∙ zero)))
    where
      by_holders : HeldBy i p → HeldBy j q → (i ≡ j) × (p ≡ q)
      by_holders (HeldAfter.before a e) (HeldAfter.before b f) = step.stands.apart i p j q a b small tiny (λ zero. some (sym e ∙ zero)) (e ∙ same ∙ sym f)
      by_holders (HeldAfter.before a e) (HeldAfter.taken t f) = absurd (step.commits.blocks.unheld j q i p t a small (e ∙ same ∙ f))
      by_holders (HeldAfter.taken t e) (HeldAfter.before b f) = absurd (step.commits.blocks.unheld i p j q t b tiny (f ∙ sym same ∙ e))
      by_holders (HeldAfter.taken t e) (HeldAfter.taken u f) = step.commits.blocks.once i p j q t u (sym e ∙ same ∙ f)

  pub stands_after : StandsForTree commit.after new next
  stands_after = record {
    root = step.follows.root;
    once = number_once commit old image step.stands step.commits.numbers;
    within = λ x i is. subst (λ (n : ℕ). i < n) (sym step.commits.count) (number_within commit old image step.stands step.commits.numbers x i is);
    named = step.follows.named;
    each = shows_each;
    rest = step.commits.rest;
    apart = blocks_apart;
  }

pub commits_keep_standing : CommitsKeepStanding
commits_keep_standing commit old new image next making step =
    let stands = stands_after commit old new image next step in
    record {
      stands = stands;
      shows = standing_images_show commit.after new next making (record { sound = step.next_sound; storable = step.storable; stands = stands });
    }

pub commits_hold_their_blocks : CommitsHoldTheirBlocks
commits_hold_their_blocks = held
