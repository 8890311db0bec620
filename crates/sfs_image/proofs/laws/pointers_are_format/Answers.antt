use Rattle.std.proofs.Common.{refl}
use Rattle.sfs_image.proofs.InodeLaws.{length-pointers_bytes, pointers_of-pointers_bytes, pointers_bytes-pointers_of, ArePointers-pointers_of}
use Rattle.sfs_image.proofs.laws.pointers_are_format.Goals as goal

pub returns : goal.returns
returns c = record {
  sized = length-pointers_bytes;
  sound = λ pointers are. refl;
  read_again = pointers_of-pointers_bytes;
  spelled_once = λ block len small none. pointers_bytes-pointers_of block len small;
  fits = λ block len small none. ArePointers-pointers_of block small;
}
