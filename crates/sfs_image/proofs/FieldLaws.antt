-- Where the fields of the formats stand.
use Rattle.std.proofs.Common.{◌≡◌, ℕ, ◌+◌, ◌-◌, ◌*◌, List, [], ◌∷◌, ◌++◌, take, drop, length, Some, refl, sym, ap, ◌∙◌, arith}
use Rattle.std.proofs.lemmas.List.{append_assoc, take_at, drop_at, drop-drop, take_all, length-append}
use Rattle.sfs_image.specs.Bytes.{part, zeros, u32_bytes, u32s_bytes, u64_bytes}
use Rattle.sfs_image.specs.Inode.{Inode, inode_bytes}
use Rattle.sfs_image.specs.Journal.{Head, head_bytes}
use Rattle.sfs_image.specs.LawsOfFields.{NumbersAreSpelled, SuperHasFields, SlotHasFields, InodeHasFields, HeadHasFields, FieldsHavePlaces}
use Rattle.sfs_image.specs.Slot.{Row, slot_bytes}
use Rattle.sfs_image.specs.Super.{Layout, super_bytes}
use Rattle.sfs_image.proofs.BytesLaws.{length-zeros}
use Rattle.sfs_image.proofs.InodeLaws.{length-u32s_bytes}
use Rattle.sfs_image.proofs.JournalLaws.{first_apart, behind_512, behind_520}

numbers_are : NumbersAreSpelled
numbers_are = record { low_first = refl; eight = refl; file = refl; directory = refl }

super_fields : (layout : Layout) → SuperHasFields layout
super_fields layout = record {
  text = refl;
  version = refl;
  cores = refl;
  blocks = refl;
  inodes = refl;
  slots = refl;
  rest = take_all 4068 (zeros 4068) (omega (arith, length-zeros 4068));
}

slot_fields : (row : Row) → SlotHasFields row
slot_fields row = record {
  inode = refl;
  kind = refl;
  name_length = refl;
  between = refl;
  name = take_at row.name _ _ refl;
  rest = ap (take (256 - length row.name)) behind ∙ take_all (256 - length row.name) (zeros (256 - length row.name)) (omega (arith, length-zeros (256 - length row.name)));
}
  where
    behind : drop (8 + length row.name) (slot_bytes (Some row)) ≡ zeros (256 - length row.name)
    behind = sym (drop-drop (length row.name) 8 (slot_bytes (Some row))) ∙ drop_at row.name _ _ refl

head_fields : (head : Head) → HeadHasFields head
head_fields head = record {
  gate = ap (take 512) (first_apart (zeros 512) (u32_bytes head.count) (zeros 4) (u64_bytes head.stamp) (zeros 3568))
      ∙ take_at (zeros 512) _ 512 (length-zeros 512);
  count = ap (take 4) (behind_512 head) ∙ refl;
  between = ap (take 4) (sym (drop-drop 4 512 (head_bytes head)) ∙ ap (drop 4) (behind_512 head)) ∙ take_at (zeros 4) _ 4 (length-zeros 4);
  stamp = ap (take 8) (behind_520 head) ∙ refl;
  rest = ap (take 3568) (sym (drop-drop 8 520 (head_bytes head)) ∙ ap (drop 8) (behind_520 head)) ∙ take_all 3568 (zeros 3568) (omega (arith, length-zeros 3568));
}

inode_fields : (inode : Inode) → length inode.direct ≡ 108 → length inode.indirect ≡ 16 → InodeHasFields inode
inode_fields inode direct indirect = record {
  kind = refl;
  links = refl;
  size = refl;
  direct = take_at (u32s_bytes inode.direct) _ _ (length-u32s_bytes inode.direct ∙ ap (λ (n : ℕ). 4 * n) direct);
  indirect = ap (take 64) behind ∙ take_all 64 (u32s_bytes inode.indirect) (let l = length-u32s_bytes inode.indirect in omega (arith, indirect));
}
  where
    behind : drop 448 (inode_bytes inode) ≡ u32s_bytes inode.indirect
    behind = drop_at (u32s_bytes inode.direct) (u32s_bytes inode.indirect) 432 (length-u32s_bytes inode.direct ∙ ap (λ (n : ℕ). 4 * n) direct)

pub fields_have_places : FieldsHavePlaces
fields_have_places = record { numbers = numbers_are; super = super_fields; slot = slot_fields; inode = inode_fields; head = head_fields }
