-- The laws of maps from which grants are out, each of which a function of the module laws proves.
use Rattle.std.specs.Prelude.{ℕ, [], ◌∷◌, ◌++◌, List}
use Rattle.sfs_base.specs.declared.numbers.SpaceKind.{SpaceKind}
use Rattle.space_map.specs.Space.{Space}
use Rattle.commit_laws.specs.CommitOfPlan.{CommitPlan}
use Rattle.space_laws.specs.Map.{WasGranted, WasReturned}
use Rattle.turn_laws.specs.Books.{free_in, IsShortOf}
use Rattle.turn_ties.specs.Plans.{amount_planned}
use Rattle.book_laws.specs.Out.{GrantOut, AreOut, Beside, IsMapWithOut, CountsBooks, books_out, WasReserved, GrantHasEnded, IsLacking, ReservedOfBooks}

-- A right map counts as free what the books have free with the grants that are out, and has their least open inodes first.
abbrev pub MapsCountBooks : Type 0
MapsCountBooks = (beside : Beside) (space : Space) → IsMapWithOut beside space → CountsBooks space (books_out beside)

-- What is reserved from such a map for a plan fits what the books have free, and its inodes are their least open ones.
abbrev pub MapsReserve : Type 0
MapsReserve = (beside : Beside) (old new : Space) (plan : CommitPlan) (out : GrantOut) → IsMapWithOut beside old → WasReserved plan old out.numbers new
    → ReservedOfBooks (books_out beside) plan out

-- Where such a map has too little for a plan, the plan does not fit what the books have free, and both numbers are the books'.
abbrev pub MapsLack : Type 0
MapsLack = (beside : Beside) (space : Space) (plan : CommitPlan) (kind : SpaceKind) (asked have : ℕ) → IsMapWithOut beside space
    → IsLacking space plan kind asked have → IsShortOf (amount_planned plan) (free_in (books_out beside)) kind asked have

-- A grant that is taken from such a map leaves it right, and is out beside those that were.
abbrev pub GrantsGoOut : Type 0
GrantsGoOut = (beside : Beside) (old new : Space) (plan : CommitPlan) (out : GrantOut) → IsMapWithOut beside old → WasGranted plan old out.numbers new
    → IsMapWithOut (record beside { outs = beside.outs ++ out ∷ [] }) new

-- One that is given back leaves it right, and is out no more, and all others are.
abbrev pub GrantsComeBack : Type 0
GrantsComeBack = (beside : Beside) (old new : Space) (front back : List GrantOut) (out : GrantOut)
    → IsMapWithOut (record beside { outs = front ++ out ∷ back }) old → WasReturned old out.numbers new
    → IsMapWithOut (record beside { outs = front ++ back }) new

-- So is one that has ended with its commit, whatever the commit gives up.
abbrev pub GrantsEnd : Type 0
GrantsEnd = (old new : Space) (front back : List GrantOut) (out : GrantOut) → AreOut old (front ++ out ∷ back) → GrantHasEnded old out.numbers new
    → AreOut new (front ++ back)
