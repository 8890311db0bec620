-- The mount of the two cores as it ends.
use Rattle.std.specs.Prelude.{◌∷◌, ℕ, [], Some}
use Rattle.std.specs.declared.alloc.Global.{Global}
use Rattle.merge_laws.specs.Worked.{BOTH_HISTORY}
use Rattle.example_laws.specs.Fsyncs.{Flushing, NO_GRANT, entry_at}
use Rattle.example_laws.specs.Image.{TWO_DIRECTORIES}
use Rattle.flush_agrees.specs.Made.{FlushMade}
use Rattle.flush_agrees.specs.Agreement.{FlushTold}
use Rattle.end_laws.specs.Mount.{MountEnd}
use Rattle.example_mount.specs.Making.{core_making}
use Rattle.example_mount.specs.Box.{ends_at, TURN_BY_TURN}
use Rattle.example_mount.specs.Table.{TWO_TABLE, table_log, OWN_FLUSH, OTHER_FLUSH}

-- with the number of its commit, and nothing granted
abbrev pub flush_made : ℕ → Flushing → FlushMade
flush_made core flushing = record { making = core_making core flushing; number = flushing.number; grant = NO_GRANT }

-- an fsync as core and pen agree on it
abbrev pub flush_told : ℕ → Flushing → ℕ → FlushTold
flush_told core flushing now = record {
  flush = record { node = flushing.node; stamp = flushing.stamp };
  turns = ends_at core flushing now ∷ [];
  made = Some (flush_made core flushing);
}

-- the mount as it ends
abbrev pub two_mount : Global → MountEnd
two_mount alloc = record {
  t = TWO_TABLE;
  logs = record { history = BOTH_HISTORY; log = table_log alloc; labels = TURN_BY_TURN.log };
  start = TWO_DIRECTORIES;
  entries = entry_at 0 ∷ entry_at 1 ∷ [];
  told = TURN_BY_TURN;
  fsyncs = (flush_told 0 OWN_FLUSH 8 ∷ []) ∷ (flush_told 1 OTHER_FLUSH 5 ∷ []) ∷ [];
}
