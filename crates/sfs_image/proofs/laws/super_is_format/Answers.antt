use Rattle.sfs_image.proofs.SuperLaws.{super_of-super_bytes, super_fault-super_bytes, length-super_bytes, super_bytes-super_of, super_facts}
use Rattle.sfs_image.specs.Super.{super_of}
use Rattle.sfs_image.proofs.laws.super_is_format.Goals as goal

pub returns : goal.returns
returns c = λ len. record {
  sized = λ layout is. length-super_bytes layout;
  sound = super_fault-super_bytes len;
  read_again = λ layout is. super_of-super_bytes layout len is;
  spelled_once = super_bytes-super_of len;
  fits = λ block long small none. (super_facts len (super_of block) block none).fits;
}
