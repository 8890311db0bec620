-- What survives from the end of a mount on survives from its begin on.
use Rattle.std.specs.FinMap.{empty, get, get-empty}
use Rattle.std.proofs.Common.{◌≡◌, ◌≤◌, ◌<◌, ◌∷◌, ◌++◌, ◌∙◌, ℕ, zero, suc, List, [], All, is_some, inl, inr, refl, sym, ap, subst, arith, Option, unwrap_or, nat_cmp, nat_le}
use Rattle.std.proofs.lemmas.Bool.{cases_lt}
use Rattle.sfs_base.proofs.BasicNumbers.{le_itself}
use Rattle.sfs_dev.specs.Disk.{View}
use Rattle.sfs_dev.specs.Run.{Advances, CountsOn}
use Rattle.tree_laws.specs.declared.turns.Turn.{Turn}
use Rattle.tree_laws.specs.declared.history.Entry.{Entry}
use Rattle.tree_laws.specs.Tree.{TreeState}
use Rattle.tree_laws.specs.Laws.{IsSoundTree}
use Rattle.tree_laws.specs.History.{IsLegal}
use Rattle.tree_laws.specs.Shape.{shape_of}
use Rattle.cut_laws.specs.Rules.{IsOneOf}
use Rattle.cut_laws.specs.Covers.{IsAcknowledged}
use Rattle.cut_laws.specs.Cut.{tree_at_cut, cut_of}
use Rattle.cut_laws.specs.Closure.{Flush, none}
use Rattle.cut_laws.proofs.Lists.{lists_keep}
use Rattle.cut_laws.proofs.WholeHistory.{cut_trees_grow}
use Rattle.cut_laws.proofs.Basics.{in_either}
use Rattle.cut_laws.proofs.RunFacts.{in_filter}
use Rattle.crash_laws.specs.Listed.{IsListedFsync, MayBeWritten}
use Rattle.crash_laws.specs.Wrote.{Mounts}
use Rattle.crash_laws.proofs.Begins.{first_nodes}
use Rattle.crash_laws.proofs.Shapes.{read_as, shape_of_more}
use Rattle.turn_laws.specs.Books.{flush_at}
use Rattle.merge_laws.specs.Tell.{TurnsTell}
use Rattle.merge_laws.specs.Plays.{durables}
use Rattle.merge_laws.specs.LeftByTurns.{TellInTime, SurvivesByTurns, turns_until, IsSafeByTurns}
use Rattle.merge_laws.proofs.ByTurns.{of_durables}
use Rattle.slot_image_laws.specs.Run.{RisesFrom}
use Rattle.close_laws.proofs.Lists.{none_until}

-- the moments of turns that rise from a number are not below it
pub rise_from : (from to : ℕ) (turns : List Turn) → RisesFrom from turns to → (turn : Turn) → IsOneOf turns turn → from ≤ turn.now
rise_from from to [] rises turn one = absurd one
rise_from from to (next ∷ turns) rises turn (inl same) = subst (λ (t : Turn). from ≤ t.now) same rises.0
rise_from from to (next ∷ turns) rises turn (inr one) =
    let low = rises.0 in
    let high = rise_from next.now to turns rises.1 turn one in
    omega (arith, low, high)

-- so they rise from each number below it
pub rises_before : (before from to : ℕ) (turns : List Turn) → before ≤ from → RisesFrom from turns to → RisesFrom before turns to
rises_before before from to [] low rises = omega (arith, low, rises)
rises_before before from to (turn ∷ turns) low rises = ((let here = rises.0 in omega (arith, low, here)), rises.1)

-- and all are above a moment below it
late_from : (moment : ℕ) (turns : List Turn) → ((turn : Turn) → IsOneOf turns turn → moment < turn.now) → All (λ (turn : Turn). moment < turn.now) turns
late_from moment [] late k d within = absurd (omega (arith, within))
late_from moment (turn ∷ turns) late zero d within = late turn (inl refl)
late_from moment (turn ∷ turns) late (suc k) d within = late_from moment turns (λ t one. late t (inr one)) k d (omega (arith, within))

-- a durable fsync is one that may be written
durable_listed : (history : List Entry) (all some : List Turn) → TurnsTell history all → ((turn : Turn) → IsOneOf some turn → IsOneOf all turn)
    → (flush : Flush) → IsOneOf (durables some) flush → IsListedFsync history flush
durable_listed history all some tell within flush one =
    let is = of_durables some flush one in
    subst (IsListedFsync history) is.3 (listed (flush_at is.0) is.0.now (tell.durable is.0 (within is.0 is.1) is.2))
  where
    listed : (own : Flush) (ack : ℕ) → IsAcknowledged history own ack → IsListedFsync history own
    listed own ack is = record {
      entry = is.entry;
      among = is.among;
      fsync = record { node = is.node; asked = is.asked; own = is.own };
      answered = subst MayBeWritten (sym is.answered) tt;
    }

-- A mount made a disk of a tree, which has gone on from there to the end of a history and its turns; these lie behind the mount, and what a crash leaves from
-- its end on is safe.
pub record GoesOnFrom (share from start : ℕ) (first : TreeState) (history : List Entry) (turns : List Turn) (begun left : View) : Type 0 where
  pub mounts : Mounts share from first begun
  pub start_is : start ≡ begun.now
  pub goes : Advances begun left
  pub counts : CountsOn left
  pub sound : IsSoundTree first
  pub legal : IsLegal first history
  pub tell : TellInTime history turns
  pub rises : RisesFrom start turns left.now
  pub survives : SurvivesByTurns share start first history turns left

module _ (share from start : ℕ) (first : TreeState) (history : List Entry) (turns : List Turn) (begun left : View)
    (is : GoesOnFrom share from start first history turns begun left) where
  -- before the end of the mount nothing was acknowledged
  none_acknowledged : (moment : ℕ) → moment < start → (flush : Flush) (ack : ℕ) → IsAcknowledged history flush ack → ack ≤ moment → ⊥
  none_acknowledged moment early flush ack acked by_then =
      let was = is.tell.tell.acknowledged flush ack acked in
      let late = rise_from start left.now turns is.rises was.turn was.among in
      let now = was.now in
      omega (arith, early, by_then, late, now)

  -- and no turn was told
  none_told : (moment : ℕ) → moment < start → turns_until moment turns ≡ []
  none_told moment early =
      none_until moment turns
      (late_from moment turns (λ turn one. let late = rise_from start left.now turns is.rises turn one in omega (arith, early, late)))

  -- what is read as the first tree is read as the tree at the cut 0
  shape_first : shape_of (tree_at_cut first history empty) ≡ shape_of first
  shape_first =
      shape_of_more (tree_at_cut first [] empty) (tree_at_cut first history empty) (lists_keep first [] [] empty _ is.sound tt none).sound
      (cut_trees_grow first history 0 empty is.sound is.legal (λ node. omega (arith, cut_zero node)))
      ∙ shape_of_more first (tree_at_cut first [] empty) is.sound.sound (first_nodes first)
    where
      cut_zero : (node : ℕ) → cut_of empty node ≡ 0
      cut_zero node = ap (λ (o : Option ℕ). unwrap_or o 0) (get-empty nat_cmp node)

  -- an image that a crash before the end of the mount leaves
  before_end : (moment k : ℕ) (image : List ℕ) → moment < start → from ≤ k → k ≤ begun.now → left.crash_images k image
      → IsSafeByTurns share first history turns moment image
  before_end moment k image early since until crash =
      let reached = is.goes.later in
      let counts = is.counts in record {
        flushes = [];
        cut = empty;
        inodes = (λ node. is_some (get first.nodes node));
        closed = (lists_keep first history [] empty _ is.sound is.legal none).kept.closed;
        covers = λ flush ack acked by_then. absurd (none_acknowledged moment early flush ack acked by_then);
        begins = record {
          others = [];
          whole = sym (ap (λ (l : List Turn). durables l ++ []) (none_told moment early));
          answered = λ flush one. absurd one;
          once = tt;
        };
        raised = none;
        read = read_as image share first (tree_at_cut first history empty) shape_first
            (is.mounts.moments k image since until ((is.goes.past k image (omega (arith, until, reached, counts)) until).0 crash));
      }

  -- one that is safe at the end of the mount is so at each moment before
  safe_before : (moment : ℕ) (image : List ℕ) → moment < start → IsSafeByTurns share first history turns start image
      → IsSafeByTurns share first history turns moment image
  safe_before moment image early safe = record {
    flushes = safe.flushes;
    cut = safe.cut;
    inodes = safe.inodes;
    closed = safe.closed;
    covers = λ flush ack acked by_then. safe.covers flush ack acked (omega (arith, early, by_then));
    begins = record {
      others = safe.flushes;
      whole = sym (ap (λ (l : List Turn). durables l ++ safe.flushes) (none_told moment early));
      answered = λ flush one. answered flush (subst (λ (l : List Flush). IsOneOf l flush) safe.begins.whole one);
      once = safe.begins.once;
    };
    raised = safe.raised;
    read = safe.read;
  }
    where
      answered : (flush : Flush) → IsOneOf (durables (turns_until start turns) ++ safe.begins.others) flush → IsListedFsync history flush
      answered flush one = elim (in_either (durables (turns_until start turns)) safe.begins.others flush one) [
        | inl durable ↦ durable_listed history turns (turns_until start turns) is.tell.tell
            (λ turn among. (in_filter (λ (t : Turn). nat_le t.now start) turns turn among).0) flush durable
        | inr other ↦ safe.begins.answered flush other
      ]

  pub survive_from_begin : SurvivesByTurns share from first history turns left
  survive_from_begin moment image since until crash = elim (cases_lt moment start) [
    | inl early ↦ elim (cases_lt crash.0 start) [
      | inl soon ↦
          let low = crash.1 in
          let same = is.start_is in
          before_end moment crash.0 image early (omega (arith, since, low)) (omega (arith, soon, same)) crash.3
      | inr late ↦ safe_before moment image early
          (is.survives start image (le_itself start) (let high = crash.2 in omega (arith, late, high)) (crash.0, late, crash.2, crash.3))
    ]
    | inr late ↦ is.survives moment image late until crash
  ]
