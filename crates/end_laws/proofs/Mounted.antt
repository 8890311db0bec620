-- What was mounted is well kept.
use Rattle.std.specs.Prelude.{slice_index, slice_index_or}
use Rattle.std.specs.List.{range_with_len}
use Rattle.std.proofs.Common.{◌≡◌, ◌≢◌, ℕ, Bool, true, false, cond, List, [], Some, None, refl, sym, ap, subst, Contains, nat_eq}
use Rattle.std.proofs.lemmas.Bool.{eqb-false}
use Rattle.sfs_base.proofs.BasicOptions.{none_some, some_same}
use Rattle.sfs_base.proofs.BasicTruth.{not_true}
use Rattle.sfs_image.specs.Inode.{Inode, Table, pointers_of}
use Rattle.sfs_image.specs.Part.{Part, inode_in}
use Rattle.image_laws.specs.Image.{inodes_shown}
use Rattle.image_laws.specs.ImageTree.{NOTHING_MADE}
use Rattle.disk_nodes.specs.declared.old.OldEntry.{OldEntry}
use Rattle.block_map.specs.Kept.{kept_of, table_kept, tables_kept}
use Rattle.commit_laws.proofs.Granted.{given_by}
use Rattle.recovery.specs.Freed.{without_unlinked}
use Rattle.volume_laws.proofs.Begun.{numbered}
use Rattle.volume_laws.proofs.BegunEntries.{keeps_entries}
use Rattle.end_laws.specs.Frees.{MountsKeepWell}
use Rattle.end_laws.specs.Kept.{IsWellKept}

-- an indirect block that is kept of a part has its pointer in the record
tables_well : (inode : Inode) (blocks : List (List ℕ)) (table : Table) → Contains (tables_kept inode blocks) table → slice_index inode.indirect table.place ≢ 0
unfolding tables_kept
tables_well inode blocks table there =
    let from = given_by (table_kept inode blocks) (range_with_len 0 16) table there in
    by from.0 (nat_eq (slice_index inode.indirect from.0) 0) refl from.2
  where
    by : (k : ℕ) (hole : Bool) → nat_eq (slice_index inode.indirect k) 0 ≡ hole
        → cond hole None (Some (record { place = k; pointers = pointers_of (slice_index_or blocks k []) }))
        ≡ Some table → slice_index inode.indirect table.place ≢ 0
    by k true e is = absurd (none_some is)
    by k false e is =
        subst (λ (place : ℕ). slice_index inode.indirect place ≢ 0) (ap (λ (t : Table). t.place) (some_same is)) (eqb-false (slice_index inode.indirect k) 0 e)

-- so what is kept of a part in use is well kept
pub part_well : (part : Part) → (inode_in part).kind ≢ 0 → IsWellKept (kept_of part)
part_well part used = record { used = used; tables = tables_well (inode_in part) part.tables }

pub mounts_keep_well : MountsKeepWell
mounts_keep_well nodes size mounted sound entry there =
    let own = keeps_entries mounted.layout (without_unlinked sound.parts) in
    let each = own.each entry (subst (λ (entries : List OldEntry). Contains entries entry) sound.entries there) in
    let is = numbered (inodes_shown mounted.layout (without_unlinked sound.parts)) NOTHING_MADE entry.node.0 entry.old.number each.0 in
    subst IsWellKept (sym each.1)
    (part_well (without_unlinked sound.parts entry.old.number)
    (subst (λ (i : ℕ). (inode_in (without_unlinked sound.parts i)).kind ≢ 0) (sym is.same)
    (eqb-false (inode_in (without_unlinked sound.parts entry.node.0)).kind 0
    (not_true (nat_eq (inode_in (without_unlinked sound.parts entry.node.0)).kind 0) is.used))))
