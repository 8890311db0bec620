-- What a mount keeps of its parts are entries of all nodes with a number.
use Rattle.std.proofs.Common.{◌≡◌, ℕ, ◌<◌, Bool, true, false, cond, filter_map, Some, None, refl, sym, ap, subst, ◌∙◌, arith, Contains}
use Rattle.std.specs.Prelude.{not}
use Rattle.std.specs.List.{range_with_len}
use Rattle.std.proofs.lemmas.List.FromFn.{length-range_with_len, get_or-range_with_len}
use Rattle.sfs_base.proofs.BasicNumbers.{zero_plus}
use Rattle.sfs_base.proofs.BasicOptions.{none_some, some_same}
use Rattle.sfs_base.proofs.BasicTruth.{not_true}
use Rattle.sfs_image.specs.Part.{Part, is_free_part}
use Rattle.sfs_image.specs.Seen.{SeenInodes}
use Rattle.sfs_image.specs.Super.{Layout}
use Rattle.image_laws.specs.Image.{inodes_shown}
use Rattle.image_laws.specs.ImageTree.{NOTHING_MADE}
use Rattle.image_laws.specs.Mount.{own_numbers}
use Rattle.block_map.specs.Kept.{kept_of}
use Rattle.disk_nodes.specs.declared.old.OldEntry.{OldEntry}
use Rattle.disk_tree.specs.KeptParts.{NumberedKept, kept_if_used, kept_in_use}
use Rattle.commit_laws.proofs.Granted.{given_by}
use Rattle.commit_laws.proofs.KnownDirectories.{given_is_in}
use Rattle.commit_laws.proofs.OwnInodes.{mapped_is_in}
use Rattle.commit_laws.proofs.SeatsOfPlan.{in_mapped}
use Rattle.flush_laws.specs.Ready.{KeepsEntries}
use Rattle.mount_begin.specs.Mounted.{entry_mounted, entries_mounted}
use Rattle.mount_begin.proofs.EntriesAscend.{entries_ascend}
use Rattle.volume_laws.proofs.Begun.{numbered, number_of}

module _ (layout : Layout) (parts : ℕ → Part) where
  abbrev image : SeenInodes
  image = inodes_shown layout parts

  -- what is kept of an inode in use
  abbrev kept_at : ℕ → NumberedKept
  kept_at i = record { number = i; kept = kept_of (parts i) }

  kept_is : (i : ℕ) (one : NumberedKept) → kept_if_used parts i ≡ Some one → (is_free_part (parts i) ≡ false) × (kept_at i ≡ one)
  kept_is i one e = by (is_free_part (parts i)) refl e
    where
      by : (b : Bool) → is_free_part (parts i) ≡ b → cond b None (Some (kept_at i)) ≡ Some one
          → (is_free_part (parts i) ≡ false) × (kept_at i ≡ one)
      by true free given = absurd (none_some given)
      by false used given = (used, some_same given)

  in_range : (i : ℕ) → Contains (range_with_len 0 layout.inodes) i → i < layout.inodes
  in_range i (k, within, at) = let low = length-range_with_len 0 layout.inodes in
      let e = get_or-range_with_len 0 layout.inodes k i (omega (arith, within, low)) in omega (arith, at, e, within, low)

  ranged : (i : ℕ) → i < layout.inodes → Contains (range_with_len 0 layout.inodes) i
  ranged i low = (i, subst (λ n. i < n) (sym (length-range_with_len 0 layout.inodes)) low, get_or-range_with_len 0 layout.inodes i i low ∙ zero_plus i)

  -- An entry that was mounted is that of an inode in use.
  record IsEntryOf (entry : OldEntry) : Type 0 where
    inode : ℕ
    low : inode < layout.inodes
    used : is_free_part (parts inode) ≡ false
    same : entry_mounted (kept_at inode) ≡ entry

  entry_is : (entry : OldEntry) → Contains (entries_mounted layout parts) entry → IsEntryOf entry
  unfolding kept_in_use
  entry_is entry there =
      let one = mapped_is_in entry_mounted (filter_map (kept_if_used parts) (range_with_len 0 layout.inodes)) entry there in
      let i = given_by (kept_if_used parts) (range_with_len 0 layout.inodes) one.0 one.1 in
      let kept = kept_is i.0 one.0 i.2 in
      record { inode = i.0; low = in_range i.0 i.1; used = kept.0; same = ap entry_mounted kept.1 ∙ one.2 }

  entry_there : (i : ℕ) → i < layout.inodes → is_free_part (parts i) ≡ false → Contains (entries_mounted layout parts) (entry_mounted (kept_at i))
  unfolding kept_in_use
  entry_there i low used =
      in_mapped entry_mounted (filter_map (kept_if_used parts) (range_with_len 0 layout.inodes)) (kept_at i)
      (given_is_in (kept_if_used parts) (range_with_len 0 layout.inodes) i (kept_at i) (ranged i low) (ap (λ b. cond b None (Some (kept_at i))) used))

  pub keeps_entries : KeepsEntries (own_numbers image) parts (entries_mounted layout parts)
  keeps_entries = record {
    ascend = entries_ascend layout.inodes parts;
    each = λ entry there.
        let is = entry_is entry there in
        subst (λ (e : OldEntry). (own_numbers image e.node.0 ≡ Some e.old.number) × (e.old.kept ≡ kept_of (parts e.old.number))) is.same
        (number_of image NOTHING_MADE is.inode is.low (ap not is.used), refl);
    all = λ node i has.
        let is = numbered image NOTHING_MADE node i has in
        (entry_mounted (kept_at node), entry_there node is.low (not_true (is_free_part (parts node)) is.used), refl);
  }
