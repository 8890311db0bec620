-- What a commit that changes nothing of a directory leaves of it: what was there.
use Rattle.std.specs.List.{cons_option, range_with_len}
use Rattle.std.proofs.Common.{◌∷◌, ◌≡◌, ◌∙◌, ◌+◌, if◌then◌else◌, ℕ, List, [], None, Option, ap, filter_map, refl, slice_index, subst, sym, take}
use Rattle.sfs_base.proofs.BasicLists.{zeros_read}
use Rattle.sfs_image.specs.Inode.{Inode}
use Rattle.sfs_image.specs.Part.{tabulate}
use Rattle.sfs_image.specs.Seen.{FILE_BLOCKS}
use Rattle.sfs_image.specs.Slot.{Row}
use Rattle.image_laws.specs.Need.{table_has_pointer}
use Rattle.disk_nodes.specs.declared.old.OldEntry.{OldEntry}
use Rattle.disk_nodes.specs.OldKept.{Kept}
use Rattle.block_map.specs.Kept.{pointer_kept}
use Rattle.block_map.specs.declared.rewrite.TableFate.TheVariants.{Stays, Goes, IsWritten}
use Rattle.block_map.specs.Remap.{TABLES, inode_remapped, rewrite_of, table_remapped, tables_remapped, table_by_fate}
use Rattle.disk_change.specs.AllBuilt.{after_commit}
use Rattle.disk_change.specs.Seated.{Seated}
use Rattle.disk_change.specs.Planned.{blocks_taken}
use Rattle.disk_change.specs.Built.{rewrite_in}
use Rattle.commit_laws.specs.CommitOfPlan.{change_planned}
use Rattle.example_laws.specs.Image.{ROOT_SLOTS}
use Rattle.example_laws.specs.Fsyncs.{FIRST_FLUSH, NO_GRANT, SECOND_FLUSH, commit_plan, entry_at}
use Rattle.example_laws.proofs.Plans.{KEPT_ONE, KEPT_ROOT, kept_one, kept_root, one_seat, plan_kept, pointer_stays, root_seat, still}

-- where nothing is tabulated no item comes of a list
none_of : {X : Type 0} (f : ℕ → Option X) (numbers : List ℕ) → ((k : ℕ) → f k ≡ None) → filter_map f numbers ≡ []
none_of f [] none = refl
none_of f (k ∷ numbers) none = ap (λ o. cons_option o (filter_map f numbers)) (none k) ∙ none_of f numbers none

-- an inode of which no block is rewritten and that has no indirect block stays, and has none
module _ (inode : Inode) (none : (k : ℕ) → slice_index inode.indirect k ≡ 0) (fresh : List ℕ) where
  inode_stays : inode_remapped (rewrite_of inode [] []) fresh inode
      ≡ record inode { direct = tabulate 108 (pointer_kept inode []); indirect = tabulate TABLES (λ k. pointer_kept inode [] (FILE_BLOCKS + k)) }
  inode_stays =
      ap (λ (f : ℕ → ℕ). record inode { direct = tabulate 108 f; indirect = tabulate TABLES (λ k. f (FILE_BLOCKS + k)) })
      (λ i place. pointer_stays inode none fresh place i)

  no_table : (k : ℕ) → table_remapped (rewrite_of inode [] []) fresh [] k ≡ None
  no_table k =
      ap (λ b. table_by_fate (if b then
      (if table_has_pointer (rewrite_of inode [] []) k then IsWritten else Goes) else Stays) (rewrite_of inode [] []) fresh [] k)
      (still inode none k)

  tables_stay : tables_remapped (rewrite_of inode [] []) fresh [] ≡ []
  tables_stay = none_of (table_remapped (rewrite_of inode [] []) fresh []) (range_with_len 0 TABLES) no_table

-- what memory keeps of a node whose inode has its number
abbrev entry_kept : ℕ → Kept → OldEntry
entry_kept node kept = record { node = record { 0 = node }; old = record { number = node; kept = kept } }

-- what is built of a node, with the fresh blocks that it takes
abbrev fresh_of : Seated → List ℕ
fresh_of seat = take (blocks_taken seat) NO_GRANT.blocks

abbrev kept_built : Seated → List (List (Option Row)) → Kept
kept_built seat slots =
    record { inode = inode_remapped (rewrite_in seat) (fresh_of seat) seat.meta; tables = tables_remapped (rewrite_in seat) (fresh_of seat) []; slots = slots }

root_built : after_commit (change_planned (plan_kept 0 KEPT_ROOT)) NO_GRANT ≡ entry_kept 0 (kept_built root_seat (ROOT_SLOTS ∷ [])) ∷ []
root_built = refl

root_stays : kept_built root_seat (ROOT_SLOTS ∷ []) ≡ KEPT_ROOT
unfolding tabulate
root_stays = λ i. record {
  inode = inode_stays root_seat.meta (λ k. zeros_read 16 k) (fresh_of root_seat) i;
  tables = tables_stay root_seat.meta (λ k. zeros_read 16 k) (fresh_of root_seat) i;
  slots = ROOT_SLOTS ∷ [];
}

root_left : after_commit (change_planned (plan_kept 0 KEPT_ROOT)) NO_GRANT ≡ entry_kept 0 KEPT_ROOT ∷ []
root_left = root_built ∙ ap (λ kept. entry_kept 0 kept ∷ []) root_stays

one_built : after_commit (change_planned (plan_kept 1 KEPT_ONE)) NO_GRANT ≡ entry_kept 1 (kept_built one_seat []) ∷ []
one_built = refl

one_stays : kept_built one_seat [] ≡ KEPT_ONE
unfolding tabulate
one_stays = λ i. record {
  inode = inode_stays one_seat.meta (λ k. zeros_read 16 k) (fresh_of one_seat) i;
  tables = tables_stay one_seat.meta (λ k. zeros_read 16 k) (fresh_of one_seat) i;
  slots = [];
}

one_left : after_commit (change_planned (plan_kept 1 KEPT_ONE)) NO_GRANT ≡ entry_kept 1 KEPT_ONE ∷ []
one_left = one_built ∙ ap (λ kept. entry_kept 1 kept ∷ []) one_stays

pub first_left : after_commit (change_planned (commit_plan FIRST_FLUSH)) NO_GRANT ≡ entry_at 1 ∷ []
first_left = subst (λ kept. after_commit (change_planned (plan_kept 1 kept)) NO_GRANT ≡ entry_kept 1 kept ∷ []) (sym kept_one) one_left

pub second_left : after_commit (change_planned (commit_plan SECOND_FLUSH)) NO_GRANT ≡ entry_at 0 ∷ []
second_left = subst (λ kept. after_commit (change_planned (plan_kept 0 kept)) NO_GRANT ≡ entry_kept 0 kept ∷ []) (sym kept_root) root_left
