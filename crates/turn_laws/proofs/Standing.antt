-- Turns go on to stand over one entry more.
use Rattle.std.proofs.Common.{◌≡◌, ◌≢◌, ℕ, ◌<◌, ◌≤◌, Bool, true, false, List, [], ◌∷◌, ◌++◌, length, take, Option, Some, None, ◌⊎◌, inl, inr, refl, sym, ap, subst, ◌∙◌, arith}
use Rattle.std.specs.Prelude.{filter_map}
use Rattle.std.proofs.Math.Seq.{take-append_seam}
use Rattle.std.proofs.lemmas.List.{append_assoc, append-nil, length-append}
use Rattle.sfs_base.specs.declared.numbers.NodeId.{NodeId}
use Rattle.sfs_base.specs.declared.numbers.Stamp.{Stamp}
use Rattle.tree_laws.specs.declared.call.Call.TheVariants as call
use Rattle.tree_laws.specs.declared.history.Entry.{Entry}
use Rattle.tree_laws.specs.declared.turns.Turn.{Turn}
use Rattle.tree_laws.specs.declared.turns.TurnAct.TheVariants as act
use Rattle.tree_laws.specs.History.{tree_after, IsLegal}
use Rattle.tree_laws.specs.Laws.{IsSoundTree}
use Rattle.tree_laws.specs.Tree.{TreeState, is_alive}
use Rattle.cut_laws.specs.Closure.{every_entry, Flush, HasLiveNode, AreFlushed}
use Rattle.cut_laws.specs.Machine.{Flight, BeginsFlight}
use Rattle.cut_laws.specs.LawsRuns.{MayCommit}
use Rattle.cut_laws.specs.Rules.{IsOneOf}
use Rattle.turn_laws.specs.Need.{ImageState, Amount, nothing, Made, IsMadeBy, need_of}
use Rattle.turn_laws.specs.Books.{Books, books_of, free_in, least_open, FitsFree, IsShortOf, Leaves, AreTurns, no_turns, one_turn}
use Rattle.turn_laws.specs.LawsOneThread.{TakesNoTurn, TurnsBegin, CallsStand, then_turn, with_begun, CommitsStand, EmptyCommitsStand, ShortsStand, GivenBackStand}
use Rattle.turn_laws.specs.LawsTurns.{durable_flush}
use Rattle.turn_laws.specs.OneThread.{Resting, machine_at, books_at, resting_first, TurnsStand, ComesNext, IsNextFsync, fsync_of, turn_of, MayBegin, need_at, granted_at, resting_after}
use Rattle.turn_laws.specs.Recorded.{EndsBy, EachEnds, last_turn}
use Rattle.turn_laws.proofs.Ends.{below_end, Adds, IsOwn, adds_none, adds_one, each_still, each_on, ends_on, durable_turn, next_live}
use Rattle.turn_laws.proofs.LongerFsyncs.{GoesOn, alike, made_longer, need_longer, leaves_longer}
use Rattle.turn_laws.proofs.Machines.{turns_are_flushed}
use Rattle.turn_laws.proofs.Steps as steps

pub turns_begin : TurnsBegin
turns_begin first image before sound = record {
  sound = sound;
  legal = tt;
  turns_are = λ more most legal. no_turns;
  each = λ turn one. absurd one;
  ends = λ entry node is. absurd is.among;
}

-- a history with an entry and more behind it
pub joined : (history : List Entry) (entry : Entry) (more : List Entry) → (history ++ entry ∷ []) ++ more ≡ history ++ entry ∷ more
joined history entry more = append_assoc history (entry ∷ []) more

module _ (first : TreeState) (history : List Entry) (image : ImageState) (before : ℕ) (turns : List Turn) (rest : Resting) (entry : Entry)
    (stand : TurnsStand first history image before turns rest) where
  pub still_turns : (more : List Entry) (most : ℕ) → IsLegal first ((history ++ entry ∷ []) ++ more)
      → AreTurns before most (books_of first ((history ++ entry ∷ []) ++ more) image) turns (books_at first ((history ++ entry ∷ []) ++ more) rest)
  still_turns more most legal =
      subst (λ (l : List Entry). AreTurns before most (books_of first l image) turns (books_at first l rest)) (sym (joined history entry more))
      (stand.turns_are (entry ∷ more) most (subst (IsLegal first) (joined history entry more) legal))

pub calls_stand : CallsStand
calls_stand first history image before turns rest entry next none stand = record {
  sound = stand.sound;
  legal = next.legal;
  turns_are = still_turns first history image before turns rest entry stand;
  each = each_still first history entry next stand.legal turns stand.each;
  ends = ends_on first history entry next stand.legal None turns turns None stand.ends (λ stamp apart. refl) own none;
}
  where
    own : last_turn entry.stamp.0 turns ≡ None
    own = (adds_none first history entry next stand.legal turns stand.each (record { 0 = 0 })).own

-- one fsync more
module _ (first : TreeState) (history : List Entry) (image : ImageState) (before : ℕ) (turns : List Turn) (rest : Resting) (entry : Entry) (node : NodeId)
    (next : IsNextFsync first history entry node) (stand : TurnsStand first history image before turns rest) where
  flushed : AreFlushed first history every_entry (filter_map durable_flush turns) rest.cut rest.inodes
  flushed =
      let legal = subst (IsLegal first) (sym (append-nil history)) stand.legal in
      subst (λ (l : List Entry). AreFlushed first l every_entry (filter_map durable_flush turns) rest.cut rest.inodes) (append-nil history)
      (turns_are_flushed first (history ++ []) image before 0 turns (books_at first (history ++ []) rest) (stand.turns_are [] 0 legal))

  low : (flush : Flush) → IsOneOf (filter_map durable_flush turns) flush → flush.stamp ≤ length history
  low flush one =
      let by = durable_turn turns flush one in
      let of = stand.each by.turn by.among in
      let lt = below_end first history entry next.next stand.legal of.entry of.fsync.among in
      let same : flush.stamp ≡ of.entry.stamp.0 = ap (λ (f : Flush). f.stamp) (sym by.own) ∙ ap (λ (s : Stamp). s.0) of.stamp in
      omega arith

  -- it goes on over each longer history
  pub goes : (more : List Entry) → IsLegal first (history ++ entry ∷ more)
      → GoesOn first history (entry ∷ more) (filter_map durable_flush turns) rest (fsync_of entry node)
  goes more legal = record {
    sound = stand.sound;
    legal = legal;
    flushed = flushed;
    flushed_whole =
        turns_are_flushed first (history ++ entry ∷ more) image before 0 turns (books_at first (history ++ entry ∷ more) rest)
        (stand.turns_are (entry ∷ more) 0 legal);
    stamps = low;
    stamp = let e = next.next.stamped in omega arith;
    live =
        ap (λ h. is_alive (tree_after first h) node.0) (ap (λ k. take k (history ++ entry ∷ more)) next.next.stamped ∙ take-append_seam history (entry ∷ more))
        ∙ next.alive;
  }

  -- what it makes, over each longer history
  pub made_on : (made : Made) → IsMadeBy (machine_at first history rest) (fsync_of entry node) made → (more : List Entry)
      → IsLegal first (history ++ entry ∷ more) → IsMadeBy (machine_at first (history ++ entry ∷ more) rest) (fsync_of entry node) made
  made_on made is more legal = made_longer first history (entry ∷ more) (filter_map durable_flush turns) rest (fsync_of entry node) (goes more legal) made is

  pub need_on : (made : Made) → IsMadeBy (machine_at first history rest) (fsync_of entry node) made → (more : List Entry)
      → IsLegal first (history ++ entry ∷ more) → need_at first (history ++ entry ∷ more) rest made ≡ need_at first history rest made
  need_on made is more legal =
      need_longer first history (entry ∷ more) (filter_map durable_flush turns) rest (fsync_of entry node) (goes more legal) made is rest.image

  pub fits_on : (made : Made) → IsMadeBy (machine_at first history rest) (fsync_of entry node) made → (more : List Entry)
      → IsLegal first (history ++ entry ∷ more) → FitsFree (need_at first history rest made) (free_in (books_at first history rest))
      → FitsFree (need_at first (history ++ entry ∷ more) rest made) (free_in (books_at first (history ++ entry ∷ more) rest))
  fits_on made is more legal fits = subst (λ (need : Amount). FitsFree need (free_in (books_at first history rest))) (sym (need_on made is more legal)) fits

  -- the flight of its commit
  abbrev pub flight_by : ℕ → Made → (ℕ → Bool) → Flight
  flight_by commit made members = record { commit = commit; flush = fsync_of entry node; members = members; concerned = made.concerns; opened = false }

  pub begins_on : (commit : ℕ) (made : Made) (members : ℕ → Bool) → MayBegin first history rest (fsync_of entry node) commit made members → (more : List Entry)
      → IsLegal first (history ++ entry ∷ more)
      → BeginsFlight (machine_at first (history ++ entry ∷ more) rest) commit (fsync_of entry node) (flight_by commit made members)
  begins_on commit made members may more legal =
      let same = alike first history (entry ∷ more) (filter_map durable_flush turns) rest (fsync_of entry node) (goes more legal) in
      record {
        number = refl;
        own = refl;
        members = λ x. (λ t. (same.members x).0 ((may.members_are x).0 t), λ c. (may.members_are x).1 ((same.members x).1 c));
        concerned = (made_on made may.is_made more legal).concerned;
        closed = refl;
      }

  pub may_on : (commit : ℕ) (made : Made) (members : ℕ → Bool) → MayBegin first history rest (fsync_of entry node) commit made members → (more : List Entry)
      → MayCommit (machine_at first (history ++ entry ∷ more) rest) commit entry.stamp
  may_on commit made members may more = record {
    goes = refl;
    failed = refl;
    flights = refl;
    number = may.number;
    low = let e = next.next.stamped in let l = length-append history (entry ∷ more) in omega arith;
  }
