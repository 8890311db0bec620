-- The replies of recorded fsyncs have their causes.
use Rattle.std.proofs.Common.{◌≡◌, ◌≢◌, ℕ, ◌≤◌, Bool, true, false, cond, List, [], ◌∷◌, ◌++◌, Option, Some, None, inl, inr, ◌⊎◌, refl, sym, ap, subst, ◌∙◌, nat_eq}
use borrow.Author.Tests.{eqb-true}
use Rattle.std.specs.Option.{option_or}
use Rattle.std.proofs.lemmas.List.{append_assoc}
use Rattle.sfs_base.proofs.BasicOptions.{none_some, some_same}
use Rattle.sfs_base.specs.declared.numbers.NodeId.{NodeId}
use Rattle.sfs_base.specs.declared.numbers.SpaceKind.{SpaceKind}
use Rattle.sfs_base.specs.declared.numbers.Stamp.{Stamp}
use Rattle.tree_laws.specs.declared.call.Call.{Call}
use Rattle.tree_laws.specs.declared.call.Call.TheVariants as call
use Rattle.tree_laws.specs.declared.history.Entry.{Entry}
use Rattle.tree_laws.specs.declared.reply.Reply.{Reply}
use Rattle.tree_laws.specs.declared.reply.Reply.TheVariants as reply
use Rattle.tree_laws.specs.declared.turns.Turn.{Turn}
use Rattle.tree_laws.specs.declared.turns.TurnAct.{TurnAct}
use Rattle.tree_laws.specs.declared.turns.TurnAct.TheVariants as act
use Rattle.tree_laws.specs.History.{IsLegal}
use Rattle.tree_laws.specs.Tree.{TreeState}
use Rattle.cut_laws.specs.Closure.{Flush}
use Rattle.cut_laws.specs.Rules.{IsOneOf}
use Rattle.cut_laws.proofs.Basics.{in_left, in_right, in_either}
use Rattle.cut_laws.proofs.Entries.{stamps_are_once}
use Rattle.turn_laws.specs.Need.{ImageState, IsNeed}
use Rattle.turn_laws.specs.Books.{Books, books_of, flush_at, CountsFaults, Does, IsTurn, AreTurns, no_turns, one_turn}
use Rattle.sfs_base.specs.Ends.{HasRisen}
use Rattle.turn_laws.specs.Recorded.{IsLiveFsync, IsOfFsync, last_turn, EndsWith, EndsBy, IsRecorded}
use Rattle.turn_laws.specs.LawsTurns.{LastDid, WasFailure, WasShort, HasItsCause, RepliesHaveCauses}

-- what is found last is one of the turns, with the stamp
pub last_among : (stamp : ℕ) (turns : List Turn) (turn : Turn) → last_turn stamp turns ≡ Some turn → IsOneOf turns turn × (turn.stamp.0 ≡ stamp)
last_among stamp [] turn is = absurd (none_some is)
last_among stamp (first ∷ turns) turn is = by (last_turn stamp turns) refl is (last_among stamp turns turn)
  where
    own : (b : Bool) → nat_eq first.stamp.0 stamp ≡ b → cond b (Some first) None ≡ Some turn → IsOneOf (first ∷ turns) turn × (turn.stamp.0 ≡ stamp)
    own true t found = let same : first ≡ turn = some_same found in (inl same, ap (λ (one : Turn). one.stamp.0) (sym same) ∙ eqb-true first.stamp.0 stamp t)
    own false t found = absurd (none_some found)

    by : (o : Option Turn) → last_turn stamp turns ≡ o → option_or o (cond (nat_eq first.stamp.0 stamp) (Some first) None) ≡ Some turn
        → (last_turn stamp turns ≡ Some turn → IsOneOf turns turn × (turn.stamp.0 ≡ stamp)) → IsOneOf (first ∷ turns) turn × (turn.stamp.0 ≡ stamp)
    by None e found rest = own (nat_eq first.stamp.0 stamp) refl found
    by (Some later) e found rest = let there = rest (e ∙ found) in (inr there.0, there.1)

-- A turn among others, with the books before and after it.
record StandsAmong (before most : ℕ) (start : Books) (turns : List Turn) (turn : Turn) : Type 0 where
  earlier : List Turn
  later : List Turn
  whole : turns ≡ earlier ++ turn ∷ later
  books : Books
  next : Books
  kept : AreTurns before most start earlier books
  is : IsTurn before most books turn next

stands_among : (before most : ℕ) (start : Books) {turns : List Turn} {books : Books} → AreTurns before most start turns books → (turn : Turn)
    → IsOneOf turns turn → StandsAmong before most start turns turn
stands_among before most start no_turns turn one = absurd one
stands_among before most start (one_turn turns last books next are is) turn one = elim (in_either turns (last ∷ []) turn one) [
  | inl there ↦
      let at = stands_among before most start are turn there in
      record {
        earlier = at.earlier;
        later = at.later ++ last ∷ [];
        whole = ap (λ (l : List Turn). l ++ last ∷ []) at.whole ∙ append_assoc at.earlier (turn ∷ at.later) (last ∷ []);
        books = at.books;
        next = at.next;
        kept = at.kept;
        is = at.is;
      }
  | inr here ↦ elim here [
    | inl same ↦ record {
      earlier = turns;
      later = [];
      whole = ap (λ (t : Turn). turns ++ t ∷ []) same;
      books = books;
      next = next;
      kept = are;
      is = subst (λ (t : Turn). IsTurn before most books t next) same is;
    }
    | inr nothing ↦ absurd nothing
  ]
]

-- what the books say has failed is a failure of the turns
module _ (before most : ℕ) (start : Books) (none_yet : start.failed ≡ None) where
  more_turns : (turns : List Turn) (turn : Turn) (faults : ℕ) → WasFailure before most turns faults → WasFailure before most (turns ++ turn ∷ []) faults
  more_turns turns turn faults is = record {
    turn = is.turn;
    among = in_left turns (turn ∷ []) is.turn is.among;
    did = is.did;
    faults_is = is.faults_is;
    risen = is.risen;
    within = is.within;
  }

  by_act : (turns : List Turn) (turn : Turn) (books next : Books) → ((faults : ℕ) → books.failed ≡ Some faults → WasFailure before most turns faults)
      → CountsFaults before most books.failed turn.act turn.faults
      → (a : TurnAct) → turn.act ≡ a → Does a books turn next → (faults : ℕ) → next.failed ≡ Some faults → WasFailure before most (turns ++ turn ∷ []) faults
  by_act turns turn books next was counts act.Granted e does faults is =
      more_turns turns turn faults (was faults (sym (ap (λ (b : Books). b.failed) does.later_is) ∙ is))
  by_act turns turn books next was counts act.GivenBack e does faults is =
      more_turns turns turn faults (was faults (sym (ap (λ (b : Books). b.failed) does.later_is) ∙ is))
  by_act turns turn books next was counts (act.Short kind asked have) e does faults is =
      more_turns turns turn faults (was faults (sym (ap (λ (b : Books). b.failed) does.later_is) ∙ is))
  by_act turns turn books next was counts act.Halted e does faults is = more_turns turns turn faults (was faults (sym (ap (λ (b : Books). b.failed) does) ∙ is))
  by_act turns turn books next was counts act.CutAt e does faults is =
      more_turns turns turn faults (was faults (sym (ap (λ (b : Books). b.failed) does.later_is) ∙ is))
  by_act turns turn books next was counts act.Opened e does faults is =
      more_turns turns turn faults (was faults (sym (ap (λ (b : Books). b.failed) does.later_is) ∙ is))
  by_act turns turn books next was counts act.Durable e does faults is =
      more_turns turns turn faults (was faults (sym (ap (λ (b : Books). b.failed) does.later_is) ∙ is))
  by_act turns turn books next was counts act.Fail e does faults is =
      let same : turn.faults ≡ faults = some_same (sym (ap (λ (b : Books). b.failed) does.later_is) ∙ is) in
      let right = risen books.failed (subst (λ (a : TurnAct). CountsFaults before most books.failed a turn.faults) e counts) in
      record {
        turn = turn;
        among = in_right turns (turn ∷ []) turn (inl refl);
        did = e;
        faults_is = same;
        risen = subst (HasRisen before) same right.0;
        within = subst (λ (n : ℕ). n ≤ most) same right.1;
      }
    where
      risen : (o : Option ℕ) → CountsFaults before most o act.Fail turn.faults → HasRisen before turn.faults × (turn.faults ≤ most)
      risen None counts = counts
      risen (Some failed) counts = absurd counts

  pub failure : {turns : List Turn} {books : Books} → AreTurns before most start turns books → (faults : ℕ) → books.failed ≡ Some faults
      → WasFailure before most turns faults
  failure no_turns = λ faults is. absurd (none_some (sym none_yet ∙ is))
  failure (one_turn turns turn books next are is) = by_act turns turn books next (failure are) is.faults turn.act refl is.does

-- how an fsync ends by its last turn, the other way round
module _ (turns : List Turn) (entry : Entry) (failed : Option ℕ) where
  -- a reply that only one act gives
  only : (done : TurnAct) (given : Reply) → ((turn : Turn) (a : TurnAct) → EndsWith failed a turn given entry.ack → a ≡ done) → given ≢ reply.NoMemory
      → EndsBy failed (last_turn entry.stamp.0 turns) given entry.ack → LastDid turns entry done
  only done given tells differs ends = by (last_turn entry.stamp.0 turns) refl ends
    where
      by : (o : Option Turn) → last_turn entry.stamp.0 turns ≡ o → EndsBy failed o given entry.ack → LastDid turns entry done
      by None e ends = absurd (differs ends)
      by (Some turn) e ends = record { turn = turn; last = e; did = tells turn turn.act ends }

  -- what an act gives, where the last turn did it
  given_by : (done : TurnAct) (own : LastDid turns entry done) → EndsBy failed (last_turn entry.stamp.0 turns) entry.reply entry.ack
      → EndsWith failed done own.turn entry.reply entry.ack
  given_by done own ends =
      subst (λ (a : TurnAct). EndsWith failed a own.turn entry.reply entry.ack) own.did
      (subst (λ (o : Option Turn). EndsBy failed o entry.reply entry.ack) own.last ends)

  tells_ok : (turn : Turn) (a : TurnAct) → EndsWith failed a turn reply.Ok entry.ack → a ≡ act.Durable
  tells_ok turn act.Granted ends = absurd ends
  tells_ok turn act.GivenBack ends = absurd (cc)
  tells_ok turn (act.Short kind asked have) ends = absurd (cc)
  tells_ok turn act.Halted ends = let e = ends.2 in absurd (cc)
  tells_ok turn act.CutAt ends = absurd ends
  tells_ok turn act.Opened ends = absurd ends
  tells_ok turn act.Durable ends = refl
  tells_ok turn act.Fail ends = absurd (cc)

  tells_failed : (turn : Turn) (a : TurnAct) → EndsWith failed a turn reply.DiskFailed entry.ack → a ≡ act.Fail
  tells_failed turn act.Granted ends = absurd ends
  tells_failed turn act.GivenBack ends = absurd (cc)
  tells_failed turn (act.Short kind asked have) ends = absurd (cc)
  tells_failed turn act.Halted ends = let e = ends.2 in absurd (cc)
  tells_failed turn act.CutAt ends = absurd ends
  tells_failed turn act.Opened ends = absurd ends
  tells_failed turn act.Durable ends = let e = ends.0 in absurd (cc)
  tells_failed turn act.Fail ends = refl

  tells_short : (kind : SpaceKind) (asked have : ℕ) (turn : Turn) (a : TurnAct) → EndsWith failed a turn (reply.NoSpace kind asked have) entry.ack
      → a ≡ act.Short kind asked have
  tells_short kind asked have turn act.Granted ends = absurd ends
  tells_short kind asked have turn act.GivenBack ends = absurd (cc)
  tells_short kind asked have turn (act.Short own need free) ends = cc
  tells_short kind asked have turn act.Halted ends = let e = ends.2 in absurd (cc)
  tells_short kind asked have turn act.CutAt ends = absurd ends
  tells_short kind asked have turn act.Opened ends = absurd ends
  tells_short kind asked have turn act.Durable ends = let e = ends.0 in absurd (cc)
  tells_short kind asked have turn act.Fail ends = absurd (cc)

  tells_stopped : (faults : ℕ) (turn : Turn) (a : TurnAct) → EndsWith failed a turn (reply.Stopped faults) entry.ack → a ≡ act.Halted
  tells_stopped faults turn act.Granted ends = absurd ends
  tells_stopped faults turn act.GivenBack ends = absurd (cc)
  tells_stopped faults turn (act.Short kind asked have) ends = absurd (cc)
  tells_stopped faults turn act.Halted ends = refl
  tells_stopped faults turn act.CutAt ends = absurd ends
  tells_stopped faults turn act.Opened ends = absurd ends
  tells_stopped faults turn act.Durable ends = let e = ends.0 in absurd (cc)
  tells_stopped faults turn act.Fail ends = absurd (cc)

stopped_same : {a b : ℕ} → reply.Stopped a ≡ reply.Stopped b → a ≡ b
stopped_same e = cc

pub fsync_same : {a b : NodeId} → call.Fsync a ≡ call.Fsync b → a ≡ b
fsync_same e = cc

module _ (first : TreeState) (history : List Entry) (image : ImageState) (from most : ℕ) (turns : List Turn) (entry : Entry) (node : NodeId)
    (legal : IsLegal first history) (recorded : IsRecorded first history image from most turns)
    (fsync : IsLiveFsync first history entry node) where
  ends : EndsBy recorded.books.failed (last_turn entry.stamp.0 turns) entry.reply entry.ack
  ends = recorded.ends entry node fsync

  given : (r : Reply) → entry.reply ≡ r → EndsBy recorded.books.failed (last_turn entry.stamp.0 turns) r entry.ack
  given r is = subst (λ (g : Reply). EndsBy recorded.books.failed (last_turn entry.stamp.0 turns) g entry.ack) is ends

  abbrev failed : Option ℕ
  failed = recorded.books.failed

  ok_did : entry.reply ≡ reply.Ok → LastDid turns entry act.Durable
  ok_did is = only turns entry failed act.Durable reply.Ok (tells_ok turns entry failed) (λ e. cc) (given reply.Ok is)

  failed_did : entry.reply ≡ reply.DiskFailed → LastDid turns entry act.Fail
  failed_did is = only turns entry failed act.Fail reply.DiskFailed (tells_failed turns entry failed) (λ e. cc) (given reply.DiskFailed is)

  short_did : (kind : SpaceKind) (asked have : ℕ) → entry.reply ≡ reply.NoSpace kind asked have → LastDid turns entry (act.Short kind asked have)
  short_did kind asked have is =
      only turns entry failed (act.Short kind asked have) (reply.NoSpace kind asked have) (tells_short turns entry failed kind asked have) (λ e. cc)
      (given (reply.NoSpace kind asked have) is)

  stopped_did : (faults : ℕ) → entry.reply ≡ reply.Stopped faults → LastDid turns entry act.Halted
  stopped_did faults is =
      only turns entry failed act.Halted (reply.Stopped faults) (tells_stopped turns entry failed faults) (λ e. cc) (given (reply.Stopped faults) is)

  -- the last turn is of the fsync
  own_flush : (turn : Turn) → last_turn entry.stamp.0 turns ≡ Some turn → ◌≡◌ {A = Flush} (flush_at turn) (record { node = node.0; stamp = entry.stamp.0 })
  own_flush turn last =
      let there = last_among entry.stamp.0 turns turn last in
      let of = recorded.each turn there.0 in
      let entries = stamps_are_once first history of.entry entry legal of.fsync.among fsync.among (ap (λ (n : Stamp). n.0) (sym of.stamp) ∙ there.1) in
      let nodes = fsync_same (sym of.fsync.asked ∙ ap (λ (e : Entry). e.call) entries ∙ fsync.asked) in
      λ i. record { node = (nodes i).0; stamp = there.1 i }

  was_short : (kind : SpaceKind) (asked have : ℕ) → entry.reply ≡ reply.NoSpace kind asked have
      → WasShort first history image recorded.before most turns (record { node = node.0; stamp = entry.stamp.0 }) kind asked have
  was_short kind asked have is =
      let own = short_did kind asked have is in
      let at = stands_among recorded.before most (books_of first history image) recorded.kept own.turn (last_among entry.stamp.0 turns own.turn own.last).0 in
      let does = subst (λ (a : TurnAct). Does a at.books own.turn at.next) own.did at.is.does in
      record {
        earlier = at.earlier;
        turn = own.turn;
        later = at.later;
        whole = at.whole;
        books = at.books;
        kept = at.kept;
        need = does.need;
        needs = subst (λ (f : Flush). IsNeed at.books.machine at.books.image f does.need) (own_flush own.turn own.last) does.needs;
        short = does.short;
      }

  cause : HasItsCause first history image recorded.before most turns entry node
  cause = record {
    ok = (ok_did, λ own. (given_by turns entry failed act.Durable own ends).0);
    ack = λ own. (given_by turns entry failed act.Durable own ends).1;
    disk_failed = (failed_did, λ own. given_by turns entry failed act.Fail own ends);
    no_space = λ kind asked have. (short_did kind asked have, λ own. given_by turns entry failed (act.Short kind asked have) own ends);
    was_short = was_short;
    stopped = λ faults is.
        let own = stopped_did faults is in
        let told = given_by turns entry failed act.Halted own ends in
        let same = stopped_same (sym told.2 ∙ is) in
        (own, failure recorded.before most (books_of first history image) refl recorded.kept faults (told.1 ∙ ap Some same));
    halted = λ own. let told = given_by turns entry failed act.Halted own ends in (told.0, told.2);
  }

pub replies_have_causes : RepliesHaveCauses
replies_have_causes first history image from most turns entry node legal recorded fsync =
    cause first history image from most turns entry node legal recorded fsync
