-- The map of free space of the disk of fifteen blocks, as two commits take a block each.
use Rattle.std.specs.Prelude.{ℕ, ◌==◌, nat_le, ◌∷◌, [], replicate, if◌then◌else◌}
use Rattle.space_map.specs.Space.{Space}
use Rattle.space_map.specs.declared.status.Status.{Status}
use Rattle.space_map.specs.declared.status.Status.TheVariants.{Free, Taken, Granted}
use Rattle.book_laws.specs.Along.{MapKeeping}
use Rattle.example_grants.specs.Fsyncs.{FILES_KEPT, ENTRIES}

-- block 12 is the root's and block 14 free, blocks 11 and 13 have these statuses, and of the inodes the first three are taken
abbrev pub map_with : Status → Status → Space
map_with own other = record {
  blocks = record { first = 11; statuses = own ∷ Taken ∷ other ∷ Free ∷ [] };
  inodes = record { first = 0; statuses = Taken ∷ Taken ∷ Taken ∷ replicate 13 Free };
}

-- at first both are free
abbrev pub FIRST_MAP : Space
FIRST_MAP = map_with Free Free

-- the map behind so many turns: the first core reserves, and then the second one; the second one's commit ends, and then the first one's
abbrev pub map_behind : ℕ → Space
map_behind count =
    if count == 0 then FIRST_MAP else
    if count == 1 then map_with Granted Free else
    if nat_le count 6 then map_with Granted Granted else
    if count == 7 then map_with Granted Taken else
    map_with Taken Taken

-- what a map is kept from along the record of both fsyncs
abbrev pub FILES_MAPPED : MapKeeping
FILES_MAPPED = record { kept = FILES_KEPT; entries = ENTRIES; first = FIRST_MAP }
