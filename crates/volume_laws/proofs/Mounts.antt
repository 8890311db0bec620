-- A mount begins a volume.
use Rattle.std.proofs.Common.{◌≡◌, ℕ, ◌<◌, List, [], sym, subst, ◌∙◌, arith}
use Rattle.std.specs.FinMap.{empty}
use Rattle.std.proofs.lemmas.Bool.{eq-eqb}
use Rattle.sfs_image.specs.Part.{Part, inode_in}
use Rattle.sfs_image.specs.Seen.{SeenInodes}
use Rattle.sfs_image.specs.Slot.{kind_byte}
use Rattle.sfs_image.specs.Super.{Layout}
use Rattle.sfs_image.proofs.RuleFacts.{sizes_say}
use Rattle.sfs_base.specs.declared.numbers.Kind.TheVariants.{File}
use Rattle.tree_laws.specs.Laws.{IsSoundTree}
use Rattle.tree_laws.specs.Sound.{IsWithinLimits}
use Rattle.tree_laws.specs.Tree.{TreeState}
use Rattle.image_laws.specs.Image.{inodes_shown}
use Rattle.image_laws.specs.ImageTree.{Making, tree_with_orphans}
use Rattle.image_laws.specs.Mount.{own_numbers}
use Rattle.cut_laws.specs.Closure.{none}
use Rattle.cut_laws.specs.Cut.{tree_at_cut}
use Rattle.flush_laws.specs.Ready.{KeepsEntries}
use Rattle.mark_laws.specs.Changed.{HasShortFiles}
use Rattle.crash_laws.proofs.Begins.{first_nodes}
use Rattle.recovery.specs.Freed.{without_unlinked}
use Rattle.mount_begin.specs.Mounted.{making_with, IsSoundMount}
use Rattle.mount_begin.specs.declared.begin.Mounted.{Mounted}
use Rattle.space_laws.proofs.Mapped.{first_maps_are_right}
use Rattle.volume_laws.specs.Begun.{volume_begun, StandInBlocks, BeginsVolume, MountsBegin}
use Rattle.volume_laws.specs.Volume.{IsVolumeStanding}
use Rattle.volume_laws.proofs.Begun.{node_there, numbers_inodes, all_alive, short_files}
use Rattle.volume_laws.proofs.BegunEntries.{keeps_entries}
use Rattle.volume_laws.proofs.Linked.{freed, itself, tree_is, good, stand_linked}
use Rattle.volume_laws.proofs.MoreNodes.{stands_more}

module _ (nodes size : ℕ) (mounted : Mounted) (store : ℕ → List ℕ) (sound : IsSoundMount nodes size mounted)
    (stand : StandInBlocks store mounted.layout sound.parts) where
  abbrev layout : Layout
  layout = mounted.layout

  abbrev parts : ℕ → Part
  parts = sound.parts

  abbrev linked : ℕ → Part
  linked = without_unlinked parts

  abbrev image : SeenInodes
  image = inodes_shown layout linked

  abbrev making : Making
  making = making_with nodes layout

  abbrev tree : TreeState
  tree = tree_with_orphans image making

  some : 0 < layout.inodes
  some = let low = sound.fits.ranges.inodes_low in omega (arith, low)

  mounted_is : mounted.tree ≡ tree
  mounted_is = sound.shown ∙ sym (tree_is layout parts store some sound.faultless stand making)

  stand_after : StandInBlocks store layout linked
  stand_after = stand_linked layout parts store some sound.faultless stand

  good_after : Rattle.image_laws.specs.Image.HaveGoodBytes layout linked
  good_after = good layout parts store some sound.faultless stand

  standing : IsVolumeStanding (volume_begun tree layout store linked)
  standing =
      let own = itself layout parts store some sound.faultless stand making in
      let ruled = freed layout parts store some sound.faultless stand making in
      record {
        between = record {
          history_is = record {
            sound = subst IsSoundTree mounted_is sound.sound;
            limits = subst IsWithinLimits mounted_is sound.limits;
            alive = all_alive image making own ruled.kinds ruled.none_left;
            legal = tt;
          };
          flushed = none;
          numbers = numbers_inodes image making own ruled.kinds ruled.none_left;
          sound = record {
            gathered = stand_after.gathered;
            records = stand_after.records;
            whole = stand_after.whole;
            good = good_after;
            ranges =
                sound.fits.ranges;
          };
          stands = stands_more (own_numbers image) tree (tree_at_cut tree [] empty) own.sound (first_nodes tree) (node_there image making) image own.stands;
        };
        among = record { low = λ flush one. absurd one; live = λ flush one. absurd one };
      }

  short : HasShortFiles tree
  short =
      let own = itself layout parts store some sound.faultless stand making in
      let ruled = freed layout parts store some sound.faultless stand making in
      short_files image making own ruled.kinds ruled.none_left
      (λ i low file. ((sizes_say (linked i)).0 (good_after 3 i (omega arith) (omega arith) (λ e. omega (arith, e)) (λ e. omega (arith, e)) low)).file
      (eq-eqb (inode_in (linked i)).kind (kind_byte File) file))

  pub begins_volume : BeginsVolume mounted store linked
  begins_volume = record {
    stands = subst (λ (t : TreeState). IsVolumeStanding (volume_begun t layout store linked)) (sym mounted_is) standing;
    keeps = subst (KeepsEntries (own_numbers image) linked) (sym sound.entries) (keeps_entries layout linked);
    spelled = stand_after.spelled;
    map = first_maps_are_right layout mounted.old.items sound.space.held mounted.space sound.space.held_is sound.space.blocks sound.space.inodes;
    short = subst HasShortFiles (sym mounted_is) short;
  }

pub mounts_begin : MountsBegin
mounts_begin nodes size mounted store sound stand = begins_volume nodes size mounted store sound stand
