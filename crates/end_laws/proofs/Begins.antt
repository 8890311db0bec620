-- A mount begins a volume with each legal history.
use Rattle.std.proofs.Common.{ℕ, List, refl, subst, arith, Contains}
use Rattle.sfs_base.proofs.BasicNumbers.{le_itself}
use Rattle.sfs_dev.specs.Disk.{View}
use Rattle.tree_laws.specs.declared.history.Entry.{Entry}
use Rattle.tree_laws.specs.History.{IsLegal}
use Rattle.journal_one.proofs.Kept.{IsLawful}
use Rattle.keyed_list.specs.Ascending.{AscendBy}
use Rattle.disk_nodes.specs.Nodes.{entry_node}
use Rattle.disk_nodes.specs.OldKept.{OldKept}
use Rattle.disk_nodes.specs.declared.old.OldEntry.{OldEntry}
use Rattle.disk_change.specs.AllBuilt.{entry_keyed}
use Rattle.mount_begin.specs.declared.begin.Mounted.{Mounted}
use Rattle.flush_laws.specs.Volume.{Volume}
use Rattle.volume_laws.specs.Begun.{volume_begun}
use Rattle.volume_laws.specs.Mounting.{WasMounted, IsBegunVolume}
use Rattle.volume_laws.proofs.MountedVolumes.{begun_volume}
use Rattle.reserve_laws.specs.Olds.{IsKeptIn}
use Rattle.mem_values.specs.Start.{given_in}
use Rattle.site_laws.proofs.Given.{given_is, given_of_entry}
use Rattle.end_laws.specs.Begins.{BegunDisksGoOn, MountsBeginLabels, HasBegunVolume}
use Rattle.end_laws.proofs.Histories.{stands_with, with_history}

-- what is given of a node by a list that ascends is what the list has of it
kept_in : (entries : List OldEntry) → AscendBy entry_node entries → (node : ℕ) → IsKeptIn entries node (given_in entries node)
kept_in entries up node old = (
  (λ given.
      let there = given_is entries node old given in
      subst (λ (n : ℕ). Contains entries (entry_keyed (n, old))) there.node_is
      (subst (λ (kept : OldKept). Contains entries (entry_keyed (entry_node there.entry, kept))) there.old_is there.among)),
  (λ there. given_of_entry entries up (entry_keyed (node, old)) there),
)

module _ (nodes : ℕ) (mounted : Mounted) (history : List Entry) (old new : View) (lawful : IsLawful old) (lawful_later : IsLawful new)
    (was : WasMounted nodes mounted old new) (legal : IsLegal mounted.tree history) where
  begun : IsBegunVolume nodes mounted old new
  begun = begun_volume nodes mounted old new lawful lawful_later was

  abbrev at_first : IsBegunVolume nodes mounted old new → Volume
  at_first b = volume_begun mounted.tree mounted.layout b.store b.parts

  has_begun : (b : IsBegunVolume nodes mounted old new) → HasBegunVolume nodes mounted history old new
  has_begun b = record {
    start = with_history (at_first b) history;
    begins = record {
      first_is = refl;
      history_is = refl;
      none = refl;
      labels = record {
        walk = record { stands = stands_with (at_first b) history refl b.begins.stands legal; cut = refl; inodes = refl };
        spelled = b.begins.spelled;
        layout_is = refl;
        keeps = b.begins.keeps;
        right = b.begins.map;
      };
      short = b.begins.short;
      kept = kept_in mounted.old.items b.begins.keeps.ascend;
    };
    of_image = b.of_image;
    told = λ image is calm counts.
        let leaves = b.told image is calm counts in
        record { left = leaves.holds leaves.tells.0 leaves.tells.1; mounts = leaves.mounts; tells = leaves.tells };
  }

  pub mount_has_begun : HasBegunVolume nodes mounted history old new
  mount_has_begun = has_begun begun

pub mounts_begin_labels : (old new : View) → IsLawful old → IsLawful new → MountsBeginLabels old new
mounts_begin_labels old new lawful lawful_later nodes mounted history was legal = mount_has_begun nodes mounted history old new lawful lawful_later was legal

pub begun_disks_go_on : (new later : View) → BegunDisksGoOn new later
begun_disks_go_on new later layout parts goes = record {
  fits = goes.fits;
  counts = goes.counts;
  left = λ image was.
      let reached = goes.advances.later in
      let counts = goes.counts in
      goes.left image ((goes.advances.past new.now image (omega (arith, reached, counts)) (le_itself new.now)).0 was);
}
