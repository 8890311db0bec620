-- A whole fsync of one thread: its turns, and how it ends.
use Rattle.std.proofs.Common.{◌≡◌, ℕ, ◌≤◌, Bool, true, false, List, [], ◌∷◌, ◌++◌, length, Option, Some, None, inl, inr, refl, sym, ap, subst, ◌∙◌, arith}
use Rattle.std.specs.Prelude.{filter}
use Rattle.sfs_base.specs.declared.numbers.NodeId.{NodeId}
use Rattle.tree_laws.specs.declared.history.Entry.{Entry}
use Rattle.tree_laws.specs.declared.reply.Reply.TheVariants as reply
use Rattle.tree_laws.specs.declared.turns.Turn.{Turn}
use Rattle.tree_laws.specs.declared.turns.TurnAct.{TurnAct}
use Rattle.tree_laws.specs.declared.turns.TurnAct.TheVariants as act
use Rattle.tree_laws.specs.History.{IsLegal}
use Rattle.tree_laws.specs.Tree.{TreeState}
use Rattle.cut_laws.specs.LawsRuns.{with_flight}
use Rattle.cut_laws.specs.Machine.{Flight}
use Rattle.turn_laws.specs.Need.{ImageState, Amount, nothing, Made, IsMadeBy}
use Rattle.turn_laws.specs.Books.{Grant, Books, books_of, free_in, least_open, FitsFree, IsShortOf, is_other_grant, inodes_for, Leaves, AreTurns, one_turn}
use Rattle.sfs_base.specs.Ends.{HasRisen}
use Rattle.turn_laws.specs.LawsOneThread.{then_turn, with_begun, CommitsStand, EmptyCommitsStand, ShortsStand, GivenBackStand, DoubtsFail, OpenedDoubtsFail}
use Rattle.turn_laws.specs.OneThread.{Resting, machine_at, books_at, TurnsStand, TurnsFailed, over, IsNextFsync, fsync_of, turn_of, MayBegin, need_at, granted_at, resting_after}
use Rattle.turn_laws.specs.Recorded.{EndsBy}
use Rattle.turn_laws.proofs.Ends.{Adds, IsOwn, adds_none, adds_one, each_on, ends_on, ends_then}
use Rattle.turn_laws.proofs.Standing.{joined, goes, made_on, need_on, fits_on, flight_by, begins_on, may_on}
use Rattle.turn_laws.proofs.LongerFsyncs.{leaves_longer}
use Rattle.turn_laws.proofs.Steps as steps

-- a turn that is made for an entry is its own
own_turn : (entry : Entry) (node : NodeId) (number moment faults : ℕ) (done : TurnAct) → IsOwn entry node (turn_of entry node number moment faults done)
own_turn entry node number moment faults done = record { core = refl; node_is = refl; stamp = refl }

module _ (first : TreeState) (history : List Entry) (image : ImageState) (before : ℕ) (turns : List Turn) (rest : Resting) (entry : Entry) (node : NodeId)
    (is : IsNextFsync first history entry node) (stand : TurnsStand first history image before turns rest) where
  abbrev longer : List Entry → List Entry
  longer more = history ++ entry ∷ more

  -- no turn of it yet
  none_added : Adds entry node turns turns None
  none_added = adds_none first history entry is.next stand.legal turns stand.each node

  -- its turns, of which the last is this
  abbrev AddsTo : List Turn → Turn → Type 0
  AddsTo all last = Adds entry node turns all (Some last)

  more_added : (all : List Turn) (last : Option Turn) → Adds entry node turns all last → (number moment faults : ℕ) (done : TurnAct)
      → AddsTo (then_turn all (turn_of entry node number moment faults done)) (turn_of entry node number moment faults done)
  more_added all last adds number moment faults done =
      adds_one entry node turns all last adds (turn_of entry node number moment faults done) (own_turn entry node number moment faults done)

  -- the turns stand with it
  stand_on : (all : List Turn) (last : Turn) (later : Resting) → AddsTo all last
      → ((more : List Entry) (most : ℕ) → IsLegal first (longer more)
      → AreTurns before most (books_of first (longer more) image) all (books_at first (longer more) later))
      → EndsBy None (Some last) entry.reply entry.ack
      → TurnsStand first (history ++ entry ∷ []) image before all later
  stand_on all last later adds are ends = record {
    sound = stand.sound;
    legal = is.next.legal;
    turns_are = λ more most legal.
        subst (λ (l : List Entry). AreTurns before most (books_of first l image) all (books_at first l later)) (sym (joined history entry more))
        (are more most (subst (IsLegal first) (joined history entry more) legal));
    each = each_on first history entry is.next stand.legal turns stand.each node all is adds.each;
    ends = ends_on first history entry is.next stand.legal None turns all (Some last) stand.ends adds.others adds.own (λ other asked alive. ends);
  }

  -- the turns have failed with it
  fail_on : (all : List Turn) (last : Turn) (faults : ℕ) (books : Books) → AddsTo all last → books.failed ≡ Some faults → books.waiting ≡ []
      → ((more : List Entry) (most : ℕ) → IsLegal first (longer more) → faults ≤ most
      → AreTurns before most (books_of first (longer more) image) all (over (longer more) books))
      → EndsBy (Some faults) (Some last) entry.reply entry.ack
      → TurnsFailed first (history ++ entry ∷ []) image before faults all
  fail_on all last faults books adds failed settled are ends = record {
    legal = is.next.legal;
    books = books;
    failed = failed;
    settled = settled;
    turns_are = λ more most legal le.
        subst (λ (l : List Entry). AreTurns before most (books_of first l image) all (over l books)) (sym (joined history entry more))
        (are more most (subst (IsLegal first) (joined history entry more) legal) le);
    each = each_on first history entry is.next stand.legal turns stand.each node all is adds.each;
    ends =
        ends_on first history entry is.next stand.legal (Some faults) turns all (Some last)
        (ends_then first history turns faults stand.ends) adds.others adds.own (λ other asked alive. ends);
  }

  -- the turns so far, over a longer history
  so_far : (more : List Entry) (most : ℕ) → IsLegal first (longer more)
      → AreTurns before most (books_of first (longer more) image) turns (books_at first (longer more) rest)
  so_far more most legal = stand.turns_are (entry ∷ more) most legal

  module _ (made : Made) (makes : IsMadeBy (machine_at first history rest) (fsync_of entry node) made) where
    makes_on : (more : List Entry) → IsLegal first (longer more) → IsMadeBy (machine_at first (longer more) rest) (fsync_of entry node) made
    makes_on = made_on first history image before turns rest entry node is stand made makes

    needs_on : (more : List Entry) → IsLegal first (longer more) → need_at first (longer more) rest made ≡ need_at first history rest made
    needs_on = need_on first history image before turns rest entry node is stand made makes

    short_stands : (number moment : ℕ) (kind : _) (asked have : ℕ)
        → IsShortOf (need_at first history rest made) (free_in (books_at first history rest)) kind asked have
        → EndsBy None (Some (turn_of entry node number moment before (act.Short kind asked have))) entry.reply entry.ack
        → TurnsStand first (history ++ entry ∷ []) image before (then_turn turns (turn_of entry node number moment before (act.Short kind asked have))) rest
    short_stands number moment kind asked have lacks ends =
        stand_on _ (turn_of entry node number moment before (act.Short kind asked have)) rest
        (more_added turns None none_added number moment before (act.Short kind asked have))
        (λ more most legal. one_turn turns _ _ _ (so_far more most legal)
        (steps.short first (longer more) rest entry node before most number moment made kind asked have (makes_on more legal)
        (subst (λ (need : Amount). IsShortOf need (free_in (books_at first history rest)) kind asked have) (sym (needs_on more legal)) lacks)))
        ends

    module _ (fits : FitsFree (need_at first history rest made) (free_in (books_at first history rest))) where
      reserves_on : (more : List Entry) (most : ℕ) (legal : IsLegal first (longer more)) (number moment : ℕ)
          → AreTurns before most (books_of first (longer more) image) (then_turn turns (turn_of entry node number moment before act.Granted))
          (steps.reserved first (longer more) rest entry node before most made (makes_on more legal))
      reserves_on more most legal number moment =
          one_turn turns _ _ _ (so_far more most legal)
          (steps.reserves first (longer more) rest entry node before most made (makes_on more legal) number moment
          (fits_on first history image before turns rest entry node is stand made makes more legal fits))

      given_back_stands : (number other reserved moment : ℕ) → EndsBy None (Some (turn_of entry node other moment before act.GivenBack)) entry.reply entry.ack
          → TurnsStand first (history ++ entry ∷ []) image before
          (then_turn (then_turn turns (turn_of entry node number reserved before act.Granted)) (turn_of entry node other moment before act.GivenBack)) rest
      given_back_stands number other reserved moment ends =
          stand_on _ (turn_of entry node other moment before act.GivenBack) rest
          (more_added _ _ (more_added turns None none_added number reserved before act.Granted) other moment before act.GivenBack)
          (λ more most legal. one_turn _ _ _ _ (reserves_on more most legal number reserved)
          (steps.gives_back first (longer more) rest entry node before most made (makes_on more legal) other moment))
          ends

    module _ (commit : ℕ) (members : ℕ → Bool) (may : MayBegin first history rest (fsync_of entry node) commit made members) where
      abbrev flight : Flight
      flight = flight_by first history image before turns rest entry node is stand commit made members

      abbrev flying_on : List Entry → List Grant → Bool → Books
      flying_on more grants opened = record {
        machine = with_flight (machine_at first (longer more) rest) commit flight opened;
        image = rest.image;
        grants = grants;
        waiting = [];
        failed = None;
      }

      -- what is reserved for it, where it needs so much
      abbrev grant_of : Amount → Grant
      grant_of need = record { stamp = entry.stamp.0; need = need; inodes = least_open (books_at first history rest) need.inodes }

      begun_on : (fits : FitsFree (need_at first history rest made) (free_in (books_at first history rest))) (more : List Entry) (most : ℕ)
          → IsLegal first (longer more) → (number reserved begun : ℕ)
          → AreTurns before most (books_of first (longer more) image) (with_begun turns entry node before number commit reserved begun)
          (flying_on more (grant_of (need_at first (longer more) rest made) ∷ []) false)
      begun_on fits more most legal number reserved begun =
          one_turn _ _ _ _ (reserves_on fits more most legal number reserved)
          (steps.cuts first (longer more) rest entry node before most made (makes_on more legal) commit flight
          (begins_on first history image before turns rest entry node is stand commit made members may more legal)
          (may_on first history image before turns rest entry node is stand commit made members may more) begun)

      begun_at_once : need_at first history rest made ≡ nothing → (more : List Entry) (most : ℕ) → IsLegal first (longer more) → (moment : ℕ)
          → AreTurns before most (books_of first (longer more) image) (then_turn turns (turn_of entry node commit moment before act.CutAt))
          (flying_on more [] false)
      begun_at_once none more most legal moment =
          one_turn _ _ _ _ (so_far more most legal)
          (steps.cuts_at_once first (longer more) rest entry node before most made (makes_on more legal) commit flight
          (begins_on first history image before turns rest entry node is stand commit made members may more legal)
          (may_on first history image before turns rest entry node is stand commit made members may more)
          moment (needs_on more legal ∙ none))

      opened_on : (all : List Turn) (grants : List Grant) (more : List Entry) (most : ℕ) → IsLegal first (longer more) → (moment : ℕ)
          → AreTurns before most (books_of first (longer more) image) all (flying_on more grants false)
          → AreTurns before most (books_of first (longer more) image) (then_turn all (turn_of entry node commit moment before act.Opened))
          (flying_on more grants true)
      opened_on all grants more most legal moment are =
          one_turn _ _ _ _ are
          (steps.opens first (longer more) rest entry node before most made (makes_on more legal) commit flight
          (begins_on first history image before turns rest entry node is stand commit made members may more legal)
          (may_on first history image before turns rest entry node is stand commit made members may more) grants moment)

      module _ (next : ImageState) (granted : List ℕ) (leaves : Leaves (machine_at first history rest) made granted rest.image next) where
        leaves_on : (more : List Entry) → IsLegal first (longer more) → Leaves (machine_at first (longer more) rest) made granted rest.image next
        leaves_on more legal =
            leaves_longer first history (entry ∷ more) _ rest (fsync_of entry node)
            (goes first history image before turns rest entry node is stand more legal) made makes granted rest.image next leaves

        settled_on : (all : List Turn) (grants : List Grant) (more : List Entry) (most : ℕ) (legal : IsLegal first (longer more)) (moment : ℕ)
            → AreTurns before most (books_of first (longer more) image) all (flying_on more grants true)
            → [] ≡ filter (is_other_grant entry.stamp.0) grants → granted ≡ inodes_for entry.stamp.0 (flying_on more grants true)
            → AreTurns before most (books_of first (longer more) image) (then_turn all (turn_of entry node commit moment before act.Durable))
            (books_at first (longer more) (resting_after rest commit made next))
        settled_on all grants more most legal moment are gone same =
            one_turn _ _ _ _ are
            (steps.settles first (longer more) rest entry node before most made (makes_on more legal) commit flight
            (begins_on first history image before turns rest entry node is stand commit made members may more legal)
            (may_on first history image before turns rest entry node is stand commit made members may more)
            grants granted moment next gone same (leaves_on more legal))

pub shorts_stand : ShortsStand
shorts_stand first history image before turns rest entry node number moment made kind asked have is makes lacks answered stand =
    short_stands first history image before turns rest entry node is stand made makes number moment kind asked have lacks answered

pub given_back_stand : GivenBackStand
given_back_stand first history image before turns rest entry node number other reserved moment made is makes fits answered stand =
    given_back_stands first history image before turns rest entry node is stand made makes fits number other reserved moment answered

module _ (first : TreeState) (history : List Entry) (image : ImageState) (before : ℕ) (turns : List Turn) (rest : Resting) (entry : Entry) (node : NodeId)
    (commit : ℕ) (made : Made) (members : ℕ → Bool)
    (is : IsNextFsync first history entry node) (may : MayBegin first history rest (fsync_of entry node) commit made members)
    (stand : TurnsStand first history image before turns rest) where
  -- all turns of an fsync whose commit is opened, but the last
  abbrev opened_turns : ℕ → ℕ → ℕ → ℕ → List Turn
  opened_turns number reserved begun opened =
      then_turn (with_begun turns entry node before number commit reserved begun) (turn_of entry node commit opened before act.Opened)

  begun_added : (number reserved begun : ℕ)
      → Adds entry node turns (with_begun turns entry node before number commit reserved begun) (Some (turn_of entry node commit begun before act.CutAt))
  begun_added number reserved begun =
      more_added first history image before turns rest entry node is stand _ _
      (more_added first history image before turns rest entry node is stand turns None
      (none_added first history image before turns rest entry node is stand) number reserved before act.Granted)
      commit begun before act.CutAt

  opened_added : (number reserved begun opened : ℕ)
      → Adds entry node turns (opened_turns number reserved begun opened) (Some (turn_of entry node commit opened before act.Opened))
  opened_added number reserved begun opened =
      more_added first history image before turns rest entry node is stand _ _ (begun_added number reserved begun) commit opened before act.Opened

  module _ (fits : FitsFree (need_at first history rest made) (free_in (books_at first history rest))) where
    opened_all : (more : List Entry) (most : ℕ) → IsLegal first (history ++ entry ∷ more) → (number reserved begun opened : ℕ)
        → AreTurns before most (books_of first (history ++ entry ∷ more) image) (opened_turns number reserved begun opened)
        (flying_on first history image before turns rest entry node is stand made may.is_made commit members may more
        (grant_of first history image before turns rest entry node is stand made may.is_made commit members may
        (need_at first (history ++ entry ∷ more) rest made)
        ∷ [])
        true)
    opened_all more most legal number reserved begun opened =
        opened_on first history image before turns rest entry node is stand made may.is_made commit members may _ _ more most legal opened
        (begun_on first history image before turns rest entry node is stand made may.is_made commit members may fits more most legal number reserved begun)

    commit_stands : (number reserved begun opened durable : ℕ) (next : ImageState)
        → Leaves (machine_at first history rest) made (granted_at first history rest made) rest.image next
        → EndsBy None (Some (turn_of entry node commit durable before act.Durable)) entry.reply entry.ack
        → TurnsStand first (history ++ entry ∷ []) image before
        (then_turn (opened_turns number reserved begun opened) (turn_of entry node commit durable before act.Durable)) (resting_after rest commit made next)
    commit_stands number reserved begun opened durable next leaves ends =
        stand_on first history image before turns rest entry node is stand _ (turn_of entry node commit durable before act.Durable)
        (resting_after rest commit made next)
        (more_added first history image before turns rest entry node is stand _ _ (opened_added number reserved begun opened) commit durable before act.Durable)
        (λ more most legal.
        settled_on first history image before turns rest entry node is stand made may.is_made commit members may next
        (granted_at first history rest made) leaves _ _ more most legal durable
        (opened_all more most legal number reserved begun opened)
        (steps.none_granted first (history ++ entry ∷ more) rest entry node before most made
        (makes_on first history image before turns rest entry node is stand made may.is_made more legal))
        (ap (λ (need : Amount). least_open (books_at first history rest) need.inodes)
        (sym (needs_on first history image before turns rest entry node is stand made may.is_made more legal))
        ∙ steps.granted_is first (history ++ entry ∷ more) rest entry node before most made
        (makes_on first history image before turns rest entry node is stand made may.is_made more legal)))
        ends

  empty_stands : (durable : ℕ) (next : ImageState) → need_at first history rest made ≡ nothing → Leaves (machine_at first history rest) made [] rest.image next
      → EndsBy None (Some (turn_of entry node commit durable before act.Durable)) entry.reply entry.ack
      → TurnsStand first (history ++ entry ∷ []) image before
      (then_turn (then_turn (then_turn turns (turn_of entry node commit durable before act.CutAt)) (turn_of entry node commit durable before act.Opened))
      (turn_of entry node commit durable before act.Durable))
      (resting_after rest commit made next)
  empty_stands durable next none leaves ends =
      stand_on first history image before turns rest entry node is stand _ (turn_of entry node commit durable before act.Durable)
      (resting_after rest commit made next)
      (more_added first history image before turns rest entry node is stand _ _
      (more_added first history image before turns rest entry node is stand _ _
      (more_added first history image before turns rest entry node is stand turns None
      (none_added first history image before turns rest entry node is stand) commit durable before act.CutAt)
      commit durable before act.Opened)
      commit durable before act.Durable)
      (λ more most legal.
      settled_on first history image before turns rest entry node is stand made may.is_made commit members may next [] leaves _ [] more most legal durable
      (opened_on first history image before turns rest entry node is stand made may.is_made commit members may _ [] more most legal durable
      (begun_at_once first history image before turns rest entry node is stand made may.is_made commit members may none more most legal durable))
      refl refl)
      ends

  -- the books once its commit has failed, opened or not
  abbrev failed_books : ℕ → Bool → Amount → Books
  failed_books faults opened need = record {
    machine =
        record (with_flight (machine_at first history rest) commit
        (flight_by first history image before turns rest entry node is stand commit made members) opened)
        { failed = Some commit };
    image = rest.image;
    grants = grant_of first history image before turns rest entry node is stand made may.is_made commit members may need ∷ [];
    waiting = [];
    failed = Some faults;
  }

  fail_stands : (all : List Turn) (last : Turn) (opened : Bool) (moment faults : ℕ) → Adds entry node turns all (Some last) → HasRisen before faults
      → entry.reply ≡ reply.DiskFailed
      → ((more : List Entry) (most : ℕ) → IsLegal first (history ++ entry ∷ more) → AreTurns before most (books_of first (history ++ entry ∷ more) image) all
      (flying_on first history image before turns rest entry node is stand made may.is_made commit members may more
      (grant_of first history image before turns rest entry node is stand made may.is_made commit members may
      (need_at first (history ++ entry ∷ more) rest made)
      ∷ [])
      opened))
      → TurnsFailed first (history ++ entry ∷ []) image before faults (then_turn all (turn_of entry node commit moment faults act.Fail))
  fail_stands all last opened moment faults adds risen answered are =
      fail_on first history image before turns rest entry node is stand _ (turn_of entry node commit moment faults act.Fail) faults
      (failed_books faults opened (need_at first history rest made))
      (more_added first history image before turns rest entry node is stand all (Some last) adds commit moment faults act.Fail) refl refl
      (λ more most legal le.
      subst (λ (need : Amount). AreTurns before most (books_of first (history ++ entry ∷ more) image)
      (then_turn all (turn_of entry node commit moment faults act.Fail)) (over (history ++ entry ∷ more) (failed_books faults opened need)))
      (needs_on first history image before turns rest entry node is stand made may.is_made more legal)
      (one_turn all _ _ _ (are more most legal)
      (steps.fails first (history ++ entry ∷ more) rest entry node before most made
      (makes_on first history image before turns rest entry node is stand made may.is_made more legal) commit
      (flight_by first history image before turns rest entry node is stand commit made members)
      (begins_on first history image before turns rest entry node is stand commit made members may more legal)
      (may_on first history image before turns rest entry node is stand commit made members may more)
      _ opened moment faults risen le)))
      answered

pub commits_stand : CommitsStand
commits_stand first history image before turns rest entry node number commit reserved begun opened durable made members next is may fits leaves ok ack stand =
    commit_stands first history image before turns rest entry node commit made members is may stand fits number reserved begun opened durable next leaves
    (ok, ack)

pub empty_commits_stand : EmptyCommitsStand
empty_commits_stand first history image before turns rest entry node commit durable made members next is may none leaves ok ack stand =
    empty_stands first history image before turns rest entry node commit made members is may stand durable next none leaves (ok, ack)

pub doubts_fail : DoubtsFail
doubts_fail first history image before turns rest entry node number commit reserved begun moment faults made members is may fits risen answered stand =
    fail_stands first history image before turns rest entry node commit made members is may stand _ _ false moment faults
    (begun_added first history image before turns rest entry node commit made members is may stand number reserved begun) risen answered
    (λ more most legal. begun_on first history image before turns rest entry node is stand made may.is_made commit members may fits more most legal number
    reserved begun)

pub opened_doubts_fail : OpenedDoubtsFail
opened_doubts_fail first history image before turns rest entry node number commit reserved begun opened moment faults made members is may fits risen answered
    stand =
    fail_stands first history image before turns rest entry node commit made members is may stand _ _ true moment faults
    (opened_added first history image before turns rest entry node commit made members is may stand number reserved begun opened) risen answered
    (λ more most legal. opened_all first history image before turns rest entry node commit made members is may stand fits more most legal number reserved begun
    opened)
