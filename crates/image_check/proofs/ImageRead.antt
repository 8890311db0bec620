-- What was read of an image is the image's.
use Rattle.std.proofs.Common.{◌≡◌, ◌≢◌, ℕ, zero, suc, ◌+◌, ◌<◌, ◌≤◌, Bool, true, false, cond, not, ◌||◌, ◌&&◌, List, [], length, nat_eq, nat_lt, eqb, count_by, Option, Some, None, refl, sym, ap, subst, ◌∙◌, arith, inl, inr}
use Rattle.std.specs.Prelude.{slice_index_or}
use Rattle.std.proofs.lemmas.Bool.{cases_Bool, cases_lt, eqb-true, eqb-false}
use Rattle.sfs_base.proofs.BasicTruth.{not_both_of}
use Rattle.sfs_base.specs.Lists.{Roomy}
use Rattle.sfs_image.specs.Inode.{Inode, Table}
use Rattle.sfs_image.specs.Part.{Part, is_free_part, pointer_at, seen_of}
use Rattle.sfs_image.specs.Seen.{PLACES, SeenInodes}
use Rattle.sfs_image.specs.Settled.{parts_of}
use Rattle.sfs_image.specs.Slot.{Row}
use Rattle.sfs_image.specs.Super.{Layout}
use Rattle.sfs_image.proofs.RuleLaws.{good_from_rule}
use Rattle.image_laws.specs.Image.{image_inodes, inodes_shown}
use Rattle.image_laws.specs.Stands.{HoldsApart}
use Rattle.image_laws.proofs.Parts.{holds_apart}
use Rattle.disk_tree.specs.Apart.{pointer_in}
use Rattle.disk_tree.specs.Ordered.{AreFewRows}
use Rattle.disk_tree.specs.Rows.{AreRowLists}
use Rattle.disk_tree.specs.Shown.{ShowsRows}
use Rattle.disk_tree.specs.Told.{SettlesRecords}
use Rattle.disk_tree.proofs.PartsRead.{entry_holes, own_pointer, used_of_pointer}
use Rattle.disk_tree.proofs.RulesJudged.{shows}
use Rattle.disk_tree.proofs.ToldRead.{parts_are}
use Rattle.disk_tree.proofs.TreeRead.{rows_few}
use Rattle.keyed_list.specs.Ascending.{item_with}
use Rattle.image_check.specs.Entries.{owner_block}
use Rattle.image_check.specs.Gathered.{AreGatheredOwners}
use Rattle.image_check.specs.Owners.{AreOwners}
use Rattle.image_check.specs.Read.{IsReadImage}
use Rattle.image_check.specs.declared.certificate.Owner.{Owner}
use Rattle.image_check.specs.declared.reading.ReadImage.{ReadImage}

-- what was read, whatever the disk tells
module _ (told : Option (List ℕ)) (found : ReadImage) (is : IsReadImage told found) where
  abbrev layout : Layout
  layout = found.layout

  abbrev records : List (List ℕ)
  records = found.records.items

  abbrev inodes : List Inode
  inodes = found.read.inodes.items

  abbrev tables : List (Roomy Table)
  tables = found.read.tables.items

  abbrev rows : List (Roomy Row)
  rows = found.rows.items

  abbrev parts : ℕ → Part
  parts = is.well.well.parts

  pub some : 0 < layout.inodes
  some = let low = is.fits.ranges.inodes_low in omega arith

  pub few : layout.inodes ≤ 16384
  few = is.fits.ranges.inodes_high

  pub lists : AreRowLists found.read.slots.items layout.inodes rows
  lists = subst (λ (n : ℕ). AreRowLists found.read.slots.items n rows) is.well.well.slots_are.count is.lists

  pub shows_parts : ShowsRows (inodes_shown layout parts) inodes rows
  shows_parts =
      shows told layout records is.count inodes is.well.inodes is.well.fit tables is.well.pointers found.read.contents.items found.read.slots.items is.well.well
      rows lists

  pub inode_count : length inodes ≡ layout.inodes
  inode_count = sym shows_parts.count

  pub row_count : length rows ≡ length inodes
  row_count = lists.count ∙ shows_parts.count

  pub are_few_rows : AreFewRows rows
  are_few_rows = rows_few told layout records is.count some found.read is.well found.read.slots.items refl rows is.lists

  pub pointer_is : (i place : ℕ) → i < layout.inodes → pointer_at (parts i) place ≡ pointer_in inodes tables i place
  pointer_is = own_pointer told layout records is.count inodes is.well.inodes is.well.fit tables parts is.well.well.hold.read is.well.well.hold.kept

  pub used_is : (i place : ℕ) → i < layout.inodes → place < PLACES → pointer_at (parts i) place ≢ 0 → is_free_part (parts i) ≡ false
  used_is = used_of_pointer told layout records is.count inodes is.well.inodes is.well.fit tables parts is.well.well.hold.read is.well.well.hold.kept

  -- each pointer names a block of the disk
  pub pointers_low : (i place : ℕ) → i < length inodes → place < PLACES → pointer_in inodes tables i place < layout.blocks
  pointers_low i place less inside =
      let within : i < layout.inodes = (let c = inode_count in omega arith) in
      subst (λ (p : ℕ). p < layout.blocks) (pointer_is i place within) (elim (cases_Bool (nat_eq (pointer_at (parts i) place) 0)) [
        | inl hole ↦ (let none = eqb-true _ _ hole in let room = is.fits.room in omega arith)
        | inr there ↦
            (let some_there = eqb-false _ _ there in
            (good_from_rule layout (parts i) place (is.well.well.keep 4 i (omega arith) (omega arith) within) (used_is i place within inside some_there) inside
            some_there).high)
      ])

  apart_parts : HoldsApart (inodes_shown layout parts)
  apart_parts =
      holds_apart parts layout.inodes
      (λ i within. record {
        blocks = (is.well.well.hold.read i within).count;
        holes = entry_holes told (slice_index_or records i []) (parts i) (is.well.well.hold.read i within);
      })
      (λ i within. is.well.well.keep 1 i (omega arith) (omega arith) within)
      (λ i within. is.well.well.keep 5 i (omega arith) (omega arith) within)

  -- no two pointers name one block
  pub apart : (i place j other : ℕ) → i < length inodes → j < length inodes → place < PLACES → other < PLACES → pointer_in inodes tables i place ≢ 0
      → pointer_in inodes tables i place ≡ pointer_in inodes tables j other → (i ≡ j) × (place ≡ other)
  apart i place j other less also small tiny there same =
      let within : i < layout.inodes = (let c = inode_count in omega arith) in
      let inside : j < layout.inodes = (let c = inode_count in omega arith) in
      apart_parts i place j other within inside small tiny (λ none. there (sym (pointer_is i place within) ∙ none))
      (pointer_is i place within ∙ same ∙ sym (pointer_is j other inside))

-- what was read of a disk that tells an image
module _ (image : List ℕ) (found : ReadImage) (is : IsReadImage (Some image) found) where
  pub settles : SettlesRecords image found.layout found.records.items
  settles = is.settles image refl

  pub part_is : (i : ℕ) → i < found.layout.inodes → is.well.well.parts i ≡ parts_of found.layout image i
  part_is = parts_are image found.layout found.records.items settles is.well.well.parts is.well.well.hold.read

  -- what is so of the inodes under the layout that was read
  pub to_image : (P : SeenInodes → Type 0) → P (inodes_shown found.layout (parts_of found.layout image)) → P (image_inodes image)
  to_image P here = subst (λ (l : Layout). P (inodes_shown l (parts_of l image))) settles.layout_is here

  pub count_is : (image_inodes image).count ≡ length found.read.inodes.items
  count_is = ap (λ (l : Layout). l.inodes) (sym settles.layout_is) ∙ sym (inode_count (Some image) found is)

  pub shows_image : ShowsRows (image_inodes image) found.read.inodes.items found.rows.items
  shows_image =
      let shown = shows_parts (Some image) found is in
      to_image (λ (seen : SeenInodes). ShowsRows seen found.read.inodes.items found.rows.items) (record {
        count = shown.count;
        kind = λ i within. ap (λ (p : Part). (seen_of p).kind) (sym (part_is i within)) ∙ shown.kind i within;
        links = λ i within. ap (λ (p : Part). (seen_of p).links) (sym (part_is i within)) ∙ shown.links i within;
        slots = λ i within kind.
            shown.slots i within (ap (λ (p : Part). (seen_of p).kind) (part_is i within) ∙ kind)
            ∙ ap (λ (p : Part). Rattle.disk_tree.specs.Rows.rows_in_slots (seen_of p).slots) (part_is i within);
        others = λ i within other. shown.others i within (λ kind. other (ap (λ (p : Part). (seen_of p).kind) (sym (part_is i within)) ∙ kind));
      })

  -- the blocks of the image's inodes are those that the pointers name
  pub block_is : (i place : ℕ) → i < (image_inodes image).count → ((image_inodes image).seen i).blocks place
      ≡ pointer_in found.read.inodes.items found.read.tables.items i place
  block_is = to_image
      (λ (seen : SeenInodes). (i place : ℕ) → i < seen.count → (seen.seen i).blocks place ≡ pointer_in found.read.inodes.items found.read.tables.items i place)
      (λ i place within. ap (λ (p : Part). pointer_at p place) (sym (part_is i within)) ∙ pointer_is (Some image) found is i place within)

  used_image : (i place : ℕ) → i < (image_inodes image).count → place < PLACES → ((image_inodes image).seen i).blocks place ≢ 0
      → ((image_inodes image).seen i).kind ≢ 0
  used_image = to_image
      (λ (seen : SeenInodes). (i place : ℕ) → i < seen.count → place < PLACES → (seen.seen i).blocks place ≢ 0 → (seen.seen i).kind ≢ 0)
      (λ i place within inside there free.
      let part = part_is i within in
      not_both_of (is_free_part (is.well.well.parts i))
      (ap (λ (p : Part). is_free_part p) part ∙ Rattle.std.proofs.lemmas.Bool.eq-eqb _ _ free)
      (used_is (Some image) found is i place within inside (λ none. there (ap (λ (p : Part). pointer_at p place) (sym part) ∙ none))))

  -- owners that were gathered are the owners of the image's blocks
  pub owners_are : (owners : List Owner) → AreGatheredOwners found.read.inodes.items found.read.tables.items owners → AreOwners (image_inodes image) owners
  owners_are owners are = record {
    ascend = are.ascend;
    apart = λ i place j other within inside small tiny there same.
        apart (Some image) found is i place j other (let c = count_is in omega arith) (let c = count_is in omega arith) small tiny
        (λ none. there (block_is i place within ∙ none)) (sym (block_is i place within) ∙ same ∙ block_is j other inside);
    each = λ i place within used small there.
        (let block = block_is i place within in
        let low : i < length found.read.inodes.items = (let c = count_is in omega arith) in
        let some_there : pointer_in found.read.inodes.items found.read.tables.items i place ≢ 0 = λ none. there (block ∙ none) in
        let e = are.each i place low small some_there (λ j other less tiny same.
        sym (apart (Some image) found is i place j other low less small tiny some_there (sym same)).0) in
        subst (λ (b : ℕ). item_with owner_block b owners ≡ Some (record { block = b; inode = i })) (sym block) e);
    right = λ k d less.
        (let one = are.right k d less in
        let within : (Rattle.std.proofs.Common.get_or owners k d).inode < (image_inodes image).count = (let w = one.within in let c = count_is in omega arith) in
        let block = block_is (Rattle.std.proofs.Common.get_or owners k d).inode one.place within in
        record {
          within = within;
          used = used_image (Rattle.std.proofs.Common.get_or owners k d).inode one.place within one.low (λ none. one.there (sym one.names ∙ sym block ∙ none));
          place = one.place;
          low = one.low;
          names = block ∙ one.names;
          there = one.there;
        });
  }
