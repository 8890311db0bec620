-- Each mount that ended with an Ok begins a volume.
use Rattle.std.proofs.Common.{◌≡◌, ℕ, ◌<◌, List, Option, Some, None, refl, sym, ap, ◌∙◌, arith}
use Rattle.sfs_base.proofs.BasicOptions.{none_some, some_same}
use Rattle.sfs_dev.specs.Disk.{View}
use Rattle.sfs_image.specs.Settled.{image_block, parts_of}
use Rattle.journal_one.proofs.Kept.{IsLawful}
use Rattle.recovery.specs.Freed.{without_unlinked}
use Rattle.mount_begin.specs.declared.begin.Mounted.{Mounted}
use Rattle.volume_laws.specs.Mounting.{WasMounted, IsBegunVolume, MountsAreVolumes}
use Rattle.volume_laws.proofs.Mounts.{mounts_begin}
use Rattle.volume_laws.proofs.ReadParts.{read_parts_stand}
use Rattle.volume_laws.proofs.Told.{told_mounts_leave}
use Rattle.volume_laws.proofs.ToldMounts.{told_mounts_begin}

module _ (nodes : ℕ) (mounted : Mounted) (old new : View) (lawful : IsLawful old) (lawful_later : IsLawful new) (was : WasMounted nodes mounted old new) where
  some : 0 < mounted.layout.inodes
  some = let low = was.sound.fits.ranges.inodes_low in omega (arith, low)

  -- of a disk that tells nothing the parts stand in the blocks that were read
  untold : old.content ≡ None → IsBegunVolume nodes mounted old new
  untold none =
      let stand = read_parts_stand mounted.layout was.sound.parts some was.sound.faultless was.sound.whole in
      record {
        fits = was.sound.fits;
        sound = was.sound.sound;
        limits = was.sound.limits;
        store = stand.0;
        parts = without_unlinked was.sound.parts;
        begins = mounts_begin nodes old.size mounted stand.0 was.sound stand.1;
        of_image = λ image is. absurd (none_some (sym none ∙ is));
        told = λ image is. absurd (none_some (sym none ∙ is));
      }

  -- of one that told an image they are the image's, in its own blocks
  told : (image : List ℕ) → old.content ≡ Some image → IsBegunVolume nodes mounted old new
  told image is = record {
    fits = was.sound.fits;
    sound = was.sound.sound;
    limits = was.sound.limits;
    store = image_block image;
    parts = without_unlinked (parts_of mounted.layout image);
    begins = told_mounts_begin nodes old.size image mounted (record { is = was.told image is; sound = was.sound; sized = lawful.whole image is });
    of_image = λ same same_is. ap (λ (bytes : List ℕ). without_unlinked (parts_of mounted.layout bytes)) (some_same (sym is ∙ same_is));
    told = λ same same_is calm counts.
        let leaves = told_mounts_leave old new nodes image mounted (record {
          is = was.told image is;
          later = was.advances.later;
          moments = was.moments image is calm counts;
          ended = was.ended image is calm;
          leaves = lawful_later.read_is_left;
        }) in
        record { holds = leaves.holds; mounts = leaves.mounts; tells = was.tells image is calm image is; leaves = lawful_later.read_is_left };
  }

  pub begun_volume : IsBegunVolume nodes mounted old new
  begun_volume = by old.content refl
    where
      by : (o : Option (List ℕ)) → old.content ≡ o → IsBegunVolume nodes mounted old new
      by None none = untold none
      by (Some image) is = told image is

pub mounts_are_volumes : (old new : View) → IsLawful old → IsLawful new → MountsAreVolumes old new
mounts_are_volumes old new lawful lawful_later nodes mounted was = begun_volume nodes mounted old new lawful lawful_later was
