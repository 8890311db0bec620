-- How long the fresh blocks of a commit are.
use Rattle.std.proofs.Common.{◌≡◌, ℕ, ◌*◌, ◌<◌, Bool, true, false, cond, List, length, Option, Some, None, refl, sym, ap, ◌∙◌, arith, nat_eq, nat_le, Contains}
use Rattle.std.specs.Prelude.{◌||◌, slice_get, slice_index}
use Rattle.std.specs.List.{find}
use Rattle.std.specs.Option.{option_map_or}
use Rattle.std.proofs.lemmas.List.{length-replicate}
use Rattle.sfs_base.proofs.BasicOptions.{none_some, some_same}
use Rattle.sfs_image.specs.Inode.{Table, pointers_bytes}
use Rattle.sfs_image.specs.Seen.{FILE_BLOCKS}
use Rattle.sfs_image.specs.Slot.{Row}
use Rattle.sfs_image.specs.SlotBlock.{AreSlots, slots_bytes}
use Rattle.sfs_image.proofs.Basics.{length-tabulate, get_or-tabulate}
use Rattle.sfs_image.proofs.InodeLaws.{length-u32s_bytes}
use Rattle.sfs_image.proofs.SlotBlockLaws.{length-slots_bytes}
use Rattle.absorb.specs.declared.nets.NetRow.{NetRow}
use Rattle.fmt_journal.specs.declared.tx.TxBlock.{TxBlock}
use Rattle.block_map.specs.Kept.{pointer_kept}
use Rattle.block_map.specs.Remap.{table_fate, table_written, table_by_fate, table_remapped}
use Rattle.block_map.specs.declared.changed.ChangedBlock.{ChangedBlock}
use Rattle.block_map.specs.declared.rewrite.TableFate.{TableFate}
use Rattle.block_map.specs.declared.rewrite.TableFate.TheVariants.{Stays, Goes, IsWritten}
use Rattle.block_map.proofs.KeptPointers.{found_at}
use Rattle.block_map.proofs.Places.{remapped_at_place}
use Rattle.disk_change.specs.Built.{Built, built, rewrite_in}
use Rattle.disk_change.specs.Fresh.{zero_bytes, content_of, data_written, table_of_place, indirect_block_written}
use Rattle.keyed_list.specs.Ascending.{item_with}
use Rattle.disk_change.specs.Pages.{page_block}
use Rattle.disk_change.specs.Seated.{Seated}
use Rattle.disk_change.specs.declared.pages.Page.{Page}
use Rattle.commit_laws.proofs.SeatsOfPlan.{there_is_in}

-- what is given where a test fails is that
given_is : {X : Type 0} (b : Bool) (x y : X) → cond b None (Some x) ≡ Some y → x ≡ y
given_is true x y e = absurd (none_some e)
given_is false x y e = some_same e

-- a block of zeros is whole
zeros_long : length zero_bytes ≡ 4096
zeros_long = length-replicate {A = ℕ} 4096 0

-- an indirect block that is written is whole
module _ (numbers : ℕ → Option ℕ) (net : List NetRow) (number : ℕ) (own : List ℕ) (seat : Seated) (k : ℕ) (low : k < 16) (tx : TxBlock) where
  abbrev one : Built
  one = built numbers net number own seat

  written_long : (p : ℕ) → table_fate (rewrite_in seat) k ≡ IsWritten
      → cond (nat_eq p 0) None
      (Some (record {
        block = p;
        bytes =
            option_map_or (λ (t : Table). pointers_bytes t.pointers) (find (λ (t : Table). nat_eq t.place k) one.tables) zero_bytes;
      })) ≡ Some tx
      → length tx.bytes ≡ 4096
  written_long p fate given =
      ap (λ (t : TxBlock). length t.bytes)
      (sym (given_is (nat_eq p 0)
      (record {
        block = p;
        bytes =
            option_map_or (λ (t : Table). pointers_bytes t.pointers) (find (λ (t : Table). nat_eq t.place k) one.tables) zero_bytes;
      }) tx given))
      ∙ ap (λ (o : Option Table). length (option_map_or (λ (t : Table). pointers_bytes t.pointers) o zero_bytes)) found
      ∙ length-u32s_bytes (table_written (rewrite_in seat) own k).pointers ∙ ap (λ (n : ℕ). 4 * n) (length-tabulate 1024 _)
    where
      found : find (λ (t : Table). nat_eq t.place k) one.tables ≡ Some (table_written (rewrite_in seat) own k)
      found = found_at (table_remapped (rewrite_in seat) own seat.tables) (remapped_at_place (rewrite_in seat) own seat.tables) k 0 16 (omega arith)
          (omega arith) ∙ ap (λ f. table_by_fate f (rewrite_in seat) own seat.tables k) fate

  pub table_long : table_of_place one k ≡ Some tx → length tx.bytes ≡ 4096
  table_long given =
      by (table_fate (rewrite_in seat) k) refl
      (sym (ap (λ f. indirect_block_written f (slice_index one.meta.indirect k) (find (λ (t : Table). nat_eq t.place k) one.tables))
      (get_or-tabulate 16 (table_fate (rewrite_in seat)) k Stays low)) ∙ given)
    where
      by : (f : TableFate) → table_fate (rewrite_in seat) k ≡ f
          → indirect_block_written f (slice_index one.meta.indirect k) (find (λ (t : Table). nat_eq t.place k) one.tables) ≡ Some tx
          → length tx.bytes ≡ 4096
      by Stays fate e = absurd (none_some e)
      by Goes fate e = absurd (none_some e)
      by IsWritten fate e = written_long (slice_index one.meta.indirect k) fate e

-- a block of a node that is written is whole, where its slots can stand in blocks and its pages are
module _ (one : Built) (pages : List Page) (slots : (block : List (Option Row)) → Contains one.slots block → AreSlots block)
    (long : (n : ℕ) (page : Page) → item_with page_block n pages ≡ Some page → length page.bytes ≡ 4096) where
  content_long : (n : ℕ) → length (content_of one pages n) ≡ 4096
  content_long n = by_kind (nat_eq one.meta.kind 2)
    where
      by_slots : (o : Option (List (Option Row))) → slice_get one.slots n ≡ o → length (option_map_or slots_bytes o zero_bytes) ≡ 4096
      by_slots None e = zeros_long
      by_slots (Some block) e = length-slots_bytes block (slots block (there_is_in one.slots n block e))

      by_page : (o : Option Page) → item_with page_block n pages ≡ o → length (option_map_or (λ (page : Page). page.bytes) o zero_bytes) ≡ 4096
      by_page None e = zeros_long
      by_page (Some page) e = long n page e

      by_kind : (b : Bool)
          → length (cond b (option_map_or slots_bytes (slice_get one.slots n) zero_bytes)
          (option_map_or (λ (page : Page). page.bytes) (item_with page_block n pages) zero_bytes)) ≡ 4096
      by_kind true = by_slots (slice_get one.slots n) refl
      by_kind false = by_page (item_with page_block n pages) refl

  pub data_long : (c : ChangedBlock) (tx : TxBlock) → data_written one pages c ≡ Some tx → length tx.bytes ≡ 4096
  data_long c tx given =
      ap (λ (t : TxBlock). length t.bytes)
      (sym (given_is (c.is_zero || (nat_le FILE_BLOCKS c.block || nat_eq (pointer_kept one.meta one.tables c.block) 0))
      (record { block = pointer_kept one.meta one.tables c.block; bytes = content_of one pages c.block }) tx given))
      ∙ content_long c.block
