use Rattle.disk_tree.proofs.inodes.inode_in.Goals as goal

pub returns-clause-whole : goal.returns-clause-whole
returns-clause-whole c = record { long = c.told-bytes; bytes = c.fits-bytes }
