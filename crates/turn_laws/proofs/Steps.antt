-- What each turn of a whole fsync does to the books.
use Rattle.std.proofs.Common.{◌≡◌, ℕ, ◌≤◌, Bool, true, false, cond, not, List, [], ◌∷◌, ◌++◌, Option, Some, None, is_some, ◌⊎◌, inl, inr, refl, sym, ap, subst, ◌∙◌, nat_eq}
use borrow.Author.Tests.{eq-eqb}
use Rattle.std.specs.Prelude.{filter}
use Rattle.std.specs.List.{find}
use Rattle.std.specs.Option.{option_map_or}
use Rattle.sfs_base.proofs.BasicNumbers.{same_number}
use Rattle.sfs_base.proofs.BasicOptions.{none_some}
use Rattle.sfs_base.proofs.BasicTruth.{not_both, true_not_false}
use Rattle.sfs_base.specs.declared.numbers.NodeId.{NodeId}
use Rattle.sfs_base.specs.declared.numbers.SpaceKind.{SpaceKind}
use Rattle.tree_laws.specs.declared.history.Entry.{Entry}
use Rattle.tree_laws.specs.declared.turns.Turn.{Turn}
use Rattle.tree_laws.specs.declared.turns.TurnAct.{TurnAct}
use Rattle.tree_laws.specs.declared.turns.TurnAct.TheVariants as act
use Rattle.tree_laws.specs.Tree.{TreeState}
use Rattle.cut_laws.specs.declared.event.Event.TheVariants as event
use Rattle.cut_laws.specs.declared.event.Refused.{Refused}
use Rattle.cut_laws.specs.declared.event.Refused.TheVariants as refused
use Rattle.cut_laws.specs.Closure.{Flush}
use Rattle.cut_laws.specs.LawsRuns.{MayCommit, with_flight, AcceptsCommit}
use Rattle.cut_laws.specs.Machine.{Flight, MachineState, is_flying, flight_of, Refuses, BeginsFlight, Accepts}
use Rattle.cut_laws.specs.Rules.{IsOneOf}
use Rattle.cut_laws.proofs.LongerRuns.{commits_are_accepted}
use Rattle.turn_laws.specs.Need.{ImageState, Amount, nothing, Made, IsMadeBy, need_of, IsNeed}
use Rattle.turn_laws.specs.Books.{Grant, Waiting, Books, free_in, least_open, FitsFree, IsShortOf, is_other_grant, is_other_waiting, inodes_for, Leaves, IsTurn}
use Rattle.sfs_base.specs.Ends.{HasRisen}
use Rattle.turn_laws.specs.OneThread.{Resting, machine_at, books_at, turn_of, fsync_of, resting_after}

-- an fsync between others of one thread
module _ (first : TreeState) (history : List Entry) (rest : Resting) (entry : Entry) (node : NodeId) (before most : ℕ) where
  abbrev pub state : MachineState
  state = machine_at first history rest

  abbrev pub resting : Books
  resting = books_at first history rest

  abbrev flush : Flush
  flush = fsync_of entry node

  abbrev waits : Waiting
  waits = record { core = entry.core.0; stamp = entry.stamp.0 }

  -- it alone waits
  itself : (other : Waiting) → IsOneOf (waits ∷ []) other → other.core ≡ entry.core.0 → other.stamp ≡ entry.stamp.0
  itself other one same = elim one [
    | inl e ↦ ap (λ (w : Waiting). w.stamp) (sym e)
    | inr none ↦ absurd none
  ]

  -- what is known of the fsync alone is gone
  none_waits : [] ≡ filter (is_other_waiting entry.stamp.0) (waits ∷ [])
  none_waits = sym (ap (λ b. cond (not b) (waits ∷ []) []) (same_number entry.stamp.0))

  pub short : (number moment : ℕ) (made : Made) (kind : SpaceKind) (asked have : ℕ) → IsMadeBy state flush made
      → IsShortOf (need_of state rest.image made) (free_in resting) kind asked have
      → IsTurn before most resting (turn_of entry node number moment before (act.Short kind asked have)) resting
  short number moment made kind asked have is fits = record {
    own = λ other one same. absurd one;
    faults = refl;
    does = record { need = need_of state rest.image made; needs = record { made = made; is_made = is; counted = refl }; short = fits; later_is = refl };
  }

  module _ (made : Made) (is : IsMadeBy state flush made) where
    abbrev pub need : Amount
    need = need_of state rest.image made

    abbrev pub grant : Grant
    grant = record { stamp = entry.stamp.0; need = need; inodes = least_open resting need.inodes }

    pub none_granted : [] ≡ filter (is_other_grant entry.stamp.0) (grant ∷ [])
    none_granted = sym (ap (λ b. cond (not b) (grant ∷ []) []) (same_number entry.stamp.0))

    pub granted_is : least_open resting need.inodes
        ≡ option_map_or (λ (g : Grant). g.inodes) (find (λ (g : Grant). nat_eq g.stamp entry.stamp.0) (grant ∷ [])) []
    granted_is = sym (ap (λ b. option_map_or (λ (g : Grant). g.inodes) (cond b (Some grant) None) []) (same_number entry.stamp.0))

    -- the books once it has reserved
    abbrev pub reserved : Books
    reserved = record resting { grants = grant ∷ []; waiting = waits ∷ [] }

    pub reserves : (number moment : ℕ) → FitsFree need (free_in resting)
        → IsTurn before most resting (turn_of entry node number moment before act.Granted) reserved
    reserves number moment fits = record {
      own = λ other one same. absurd one;
      faults = refl;
      does = record { need = need; needs = record { made = made; is_made = is; counted = refl }; fits = fits; later_is = refl };
    }

    pub gives_back : (number moment : ℕ) → IsTurn before most reserved (turn_of entry node number moment before act.GivenBack) resting
    gives_back number moment = record {
      own = itself;
      faults = refl;
      does = record { waits = inl refl; later_is = λ i. record resting { grants = none_granted i; waiting = none_waits i } };
    }

    module _ (commit : ℕ) (flight : Flight) (begins : BeginsFlight state commit flush flight) (may : MayCommit state commit entry.stamp) where
      accepted : AcceptsCommit state commit node entry.stamp flight made.raised made.after
      accepted = commits_are_accepted state commit node entry.stamp flight made.raised made.after may begins is.raises is.inodes_after

      -- the books while it flies
      abbrev pub flying : List Grant → Bool → Books
      flying grants opened = record {
        machine = with_flight state commit flight opened;
        image = rest.image;
        grants = grants;
        waiting = [];
        failed = None;
      }

      pub cuts : (moment : ℕ) → IsTurn before most reserved (turn_of entry node commit moment before act.CutAt) (flying (grant ∷ []) false)
      cuts moment = record {
        own = itself;
        faults = refl;
        does = record {
          may = inl (inl refl);
          machine = with_flight state commit flight false;
          taken = accepted.begins;
          later_is = λ i. record (flying (grant ∷ []) false) { waiting = none_waits i };
        };
      }

      pub cuts_at_once : (moment : ℕ) → need ≡ nothing → IsTurn before most resting (turn_of entry node commit moment before act.CutAt) (flying [] false)
      cuts_at_once moment none = record {
        own = λ other one same. absurd one;
        faults = refl;
        does = record {
          may = inr (record { made = made; is_made = is; counted = sym none });
          machine = with_flight state commit flight false;
          taken = accepted.begins;
          later_is = refl;
        };
      }

      found : (opened : Bool) → flight_of (with_flight state commit flight opened) commit ≡ Some (record flight { opened = opened })
      found opened = ap (λ b. cond b (Some (record flight { opened = opened })) None) (eq-eqb flight.commit commit begins.number)

      pub opens : (grants : List Grant) (moment : ℕ)
          → IsTurn before most (flying grants false) (turn_of entry node commit moment before act.Opened) (flying grants true)
      opens grants moment = record {
        own = λ other one same. absurd one;
        faults = refl;
        does = record {
          flies = record { flight = record flight { opened = false }; flies = found false; own = begins.own };
          machine = with_flight state commit flight true;
          taken = accepted.opens;
          later_is = refl;
        };
      }

      pub settles : (grants : List Grant) (granted : List ℕ) (moment : ℕ) (next : ImageState) → [] ≡ filter (is_other_grant entry.stamp.0) grants
          → granted ≡ inodes_for entry.stamp.0 (flying grants true)
          → Leaves state made granted rest.image next
          → IsTurn before most (flying grants true) (turn_of entry node commit moment before act.Durable)
          (books_at first history (resting_after rest commit made next))
      settles grants granted moment next gone same leaves = record {
        own = λ other one same. absurd one;
        faults = refl;
        does = record {
          flies = record { flight = record flight { opened = true }; flies = found true; own = begins.own };
          machine = machine_at first history (resting_after rest commit made next);
          taken = accepted.ends;
          made = made;
          is_made = record { concerned = is.concerned; raises = is.raises; inodes_after = is.inodes_after; each_net = is.each_net };
          image = next;
          leaves = leaves_flying (subst (λ (l : List ℕ). Leaves state made l rest.image next) same leaves);
          later_is = λ i. record (books_at first history (resting_after rest commit made next)) { grants = gone i };
        };
      }
        where
          leaves_flying : Leaves state made (inodes_for entry.stamp.0 (flying grants true)) rest.image next
              → Leaves (with_flight state commit flight true) made (inodes_for entry.stamp.0 (flying grants true)) rest.image next
          leaves_flying was = record {
            takes = was.takes;
            fresh = was.fresh;
            commits = was.commits;
            gives = record {
              entering = was.gives.entering;
              ascending = was.gives.ascending;
              each = was.gives.each;
              enough = was.gives.enough;
              numbers = was.gives.numbers;
            };
            rewrites = λ n i place numbered concerned within.
                let one = was.rewrites n i place numbered concerned within in
                record { taken = one.taken; pointer = one.pointer };
            lies = was.lies;
            first_block = was.first_block;
            end_block = was.end_block;
          }

      -- a commit that fails stays in flight
      abbrev pub failed : Bool → MachineState
      failed opened = record (with_flight state commit flight opened) { failed = Some commit }

      fail_free : (opened : Bool) (why : Refused) → Refuses (with_flight state commit flight opened) (event.Fail commit) why → ⊥
      fail_free opened refused.Crashed r = not_both r may.goes
      fail_free opened (refused.NotNext want) r = absurd r
      fail_free opened (refused.NotLegal reply) r = absurd r
      fail_free opened (refused.Stopped other) r = true_not_false (sym r.0)
      fail_free opened (refused.Used other) r = absurd r
      fail_free opened (refused.Meets met) r = absurd r
      fail_free opened (refused.Late late) r = absurd r
      fail_free opened (refused.NotFlying other) r = none_found (is_flying (with_flight state commit flight opened) commit) (ap is_some (found opened)) r
        where
          none_found : (b : Bool) → b ≡ true → cond (not b) (Some commit) None ≡ Some other → ⊥
          none_found true e one = none_some one
          none_found false e one = true_not_false (sym e)
      fail_free opened (refused.NotOpened other) r = true_not_false (sym r.0)
      fail_free opened (refused.AlreadyOpened other) r = absurd r
      fail_free opened refused.NoMemory r = absurd r

      pub fails : (grants : List Grant) (opened : Bool) (moment faults : ℕ) → HasRisen before faults → faults ≤ most
          → IsTurn before most (flying grants opened) (turn_of entry node commit moment faults act.Fail)
          (record (flying grants opened) { machine = failed opened; failed = Some faults })
      fails grants opened moment faults risen le = record {
        own = λ other one same. absurd one;
        faults = (risen, le);
        does = record {
          flies = record { flight = record flight { opened = opened }; flies = found opened; own = begins.own };
          machine = failed opened;
          taken = record { free = fail_free opened; moves = refl };
          later_is = refl;
        };
      }
