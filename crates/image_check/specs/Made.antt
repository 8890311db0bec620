-- The certificate of an image.
use Rattle.std.specs.Prelude.{ℕ, ◌==◌, ◌&&◌, not, Bool, List, filter_map, length, Option, Some, None, option_map, if◌then◌else◌}
use Rattle.std.specs.FinMap.{len}
use Rattle.std.specs.List.{find, range_with_len}
use Rattle.std.specs.Option.{unwrap_or}
use Rattle.tree_laws.specs.Tree.{holder_of, walk_up}
use Rattle.sfs_image.specs.Rules.{any_below}
use Rattle.sfs_image.specs.Seen.{PLACES, SeenInodes}
use Rattle.sfs_image.specs.Settled.{layout_of}
use Rattle.image_laws.specs.Image.{image_inodes}
use Rattle.image_laws.specs.ImageTree.{image_rows, is_used, shows_directory}
use Rattle.image_laws.specs.Keeps.{ruled_tree}
use Rattle.image_check.specs.Valid.{named_files}
use Rattle.image_check.specs.declared.certificate.Certificate.{Certificate}
use Rattle.image_check.specs.declared.certificate.Holder.{Holder}
use Rattle.image_check.specs.declared.certificate.Owner.{Owner}

-- the entry of an inode that is a directory and not the root: the holder of the row that names it, and the length of the walk up
abbrev pub place_of : SeenInodes → ℕ → Option Holder
place_of image i =
    if shows_directory (image.seen i) && not (i == 0)
    then Some (record { inode = i; holder = unwrap_or (holder_of (ruled_tree image) i) 0; depth = length (walk_up (len (image_rows image)) (ruled_tree image) i) })
    else None

-- the entries of all directories but the root
unfoldable pub holders_of : SeenInodes → List Holder
holders_of image = filter_map (place_of image) (range_with_len 0 image.count)

-- whether an inode that is in use holds a block
abbrev pub is_holding : SeenInodes → ℕ → ℕ → Bool
is_holding image block i = is_used image i && any_below PLACES (λ place. (image.seen i).blocks place == block)

-- the entry of a block that an inode holds
abbrev pub owner_of : SeenInodes → ℕ → Option Owner
owner_of image block =
    if block == 0 then None else option_map (λ i. record { block = block; inode = i }) (find (is_holding image block) (range_with_len 0 image.count))

-- the entries of the blocks below a number that an inode holds
unfoldable pub owners_of : SeenInodes → ℕ → List Owner
owners_of image blocks = filter_map (owner_of image) (range_with_len 0 blocks)

-- the certificate of an image
unfoldable pub certificate_of : List ℕ → Certificate
certificate_of image = record {
  holders = record { items = holders_of (image_inodes image); spare = 0 };
  owners = record { items = owners_of (image_inodes image) (layout_of image).blocks; spare = 0 };
  files = named_files (image_inodes image);
}
