-- The worked record of two pens: what is asked of the whole of it, is asked of its two reservings with the first volume.
use Rattle.std.specs.Prelude.{◌≡◌, ◌∷◌, ℕ, []}
use Rattle.merge_laws.specs.Plays.{nothing_played}
use Rattle.merge_laws.specs.Worked.{TWO_CORES, BOTH_HISTORY, BOTH_TURNS, BOTH_PENS, own_turn, other_turn}
use Rattle.tree_laws.specs.declared.turns.TurnAct.TheVariants as act
use Rattle.book_laws.specs.WalkLaws.{AgreesWithBooks}
use Rattle.book_laws.specs.Walk.{Bookkeeping, BeginsWalk, ReservesThere, grant_at}

-- What is told of one of the two: its core, its fsync and its commit's number.
pub record IsKeptFor (kept : Bookkeeping) (stamp core node number : ℕ) : Type 0 where
  pub core_is : kept.cores stamp ≡ core
  pub flush_is : (kept.pairs stamp).one.flush ≡ record { node = node; stamp = stamp }
  pub number_is : (kept.pairs stamp).commit.number ≡ number

-- Two fsyncs reserve with the first volume, one behind the other.
pub record TwoReserve (kept : Bookkeeping) : Type 0 where
  pub begins : BeginsWalk kept.start
  pub first : kept.start.first ≡ TWO_CORES
  pub history : kept.start.history ≡ BOTH_HISTORY
  pub own : IsKeptFor kept 0 0 1 1
  pub other : IsKeptFor kept 1 1 0 2
  pub own_reserves : ReservesThere kept [] nothing_played kept.start (own_turn 0 0 act.Granted)
  pub other_reserves : ReservesThere kept (grant_at kept.pairs 0 ∷ []) (record nothing_played { waiting = 0 ∷ [] }) kept.start (other_turn 0 0 act.Granted)

-- Then the worked record, in which both commits are aloft at a time and the second ends first, agrees with the books.
abbrev pub TwoPensAreKept : Type 0
TwoPensAreKept = (kept : Bookkeeping) → TwoReserve kept → AgreesWithBooks kept 0 0 0 BOTH_TURNS BOTH_PENS
