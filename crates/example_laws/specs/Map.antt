-- The map of free space of the disk of twelve blocks.
use Rattle.std.specs.Prelude.{◌∷◌, [], replicate}
use Rattle.space_map.specs.Space.{Space}
use Rattle.space_map.specs.declared.status.Status.TheVariants.{Free, Taken}
use Rattle.book_laws.specs.Along.{MapKeeping}
use Rattle.example_laws.specs.Fsyncs.{entry_at, TWO_KEPT}

-- its one data block is the root's, and of its inodes the first two are taken
abbrev pub TWO_TAKEN : Space
TWO_TAKEN = record {
  blocks = record { first = 11; statuses = Taken ∷ [] };
  inodes = record { first = 0; statuses = Taken ∷ Taken ∷ replicate 14 Free };
}

-- what a map is kept from along the record of both fsyncs
abbrev pub TWO_MAPPED : MapKeeping
TWO_MAPPED = record { kept = TWO_KEPT; entries = entry_at 0 ∷ entry_at 1 ∷ []; first = TWO_TAKEN }
