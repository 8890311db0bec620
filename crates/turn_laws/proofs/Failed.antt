-- Turns of which one has failed, over one entry more, and turns at the end of a run.
use Rattle.std.proofs.Common.{◌≡◌, ℕ, ◌≤◌, List, [], ◌∷◌, ◌++◌, Option, Some, None, inl, inr, refl, sym, ap, subst, ◌∙◌, arith}
use Rattle.std.specs.Prelude.{filter}
use Rattle.std.proofs.lemmas.List.{append-nil}
use Rattle.sfs_base.proofs.BasicNumbers.{le_itself}
use Rattle.sfs_base.specs.declared.numbers.NodeId.{NodeId}
use Rattle.tree_laws.specs.declared.history.Entry.{Entry}
use Rattle.tree_laws.specs.declared.reply.Reply.TheVariants as reply
use Rattle.tree_laws.specs.declared.turns.Turn.{Turn}
use Rattle.tree_laws.specs.declared.turns.TurnAct.TheVariants as act
use Rattle.tree_laws.specs.History.{IsLegal}
use Rattle.tree_laws.specs.Tree.{TreeState}
use Rattle.cut_laws.specs.Rules.{IsOneOf}
use Rattle.turn_laws.specs.Need.{ImageState}
use Rattle.turn_laws.specs.Books.{Waiting, Books, books_of, is_other_waiting, without_waiting, CountsFaults, IsTurn, AreTurns, one_turn}
use Rattle.turn_laws.specs.LawsOneThread.{TakesNoTurn, then_turn, HaltsFail, CallsFail, StandingAreRecorded, FailedAreRecorded}
use Rattle.turn_laws.specs.OneThread.{books_at, over, TurnsFailed, ComesNext, IsNextFsync, turn_of}
use Rattle.turn_laws.proofs.Ends.{adds_none, adds_one, each_still, each_on, ends_on}
use Rattle.turn_laws.proofs.Standing.{joined}

module _ (first : TreeState) (history : List Entry) (image : ImageState) (before faults : ℕ) (turns : List Turn) (entry : Entry)
    (failed : TurnsFailed first history image before faults turns) where
  -- the turns so far, over a longer history
  still_failed : (more : List Entry) (most : ℕ) → IsLegal first ((history ++ entry ∷ []) ++ more) → faults ≤ most
      → AreTurns before most (books_of first ((history ++ entry ∷ []) ++ more) image) turns (over ((history ++ entry ∷ []) ++ more) failed.books)
  still_failed more most legal le =
      subst (λ (l : List Entry). AreTurns before most (books_of first l image) turns (over l failed.books)) (sym (joined history entry more))
      (failed.turns_are (entry ∷ more) most (subst (IsLegal first) (joined history entry more) legal) le)

  calls_on : ComesNext first history entry → TakesNoTurn first history entry → TurnsFailed first (history ++ entry ∷ []) image before faults turns
  calls_on next none = record {
    legal = next.legal;
    books = failed.books;
    failed = failed.failed;
    settled = failed.settled;
    turns_are = still_failed;
    each = each_still first history entry next failed.legal turns failed.each;
    ends =
        ends_on first history entry next failed.legal (Some faults) turns turns None failed.ends (λ stamp apart. refl)
        (adds_none first history entry next failed.legal turns failed.each (record { 0 = 0 })).own none;
  }

  module _ (node : NodeId) (number moment own : ℕ) (kept : own ≡ faults) where
    abbrev turn : Turn
    turn = turn_of entry node number moment own act.Halted

    nobody : (books : Books) → books.waiting ≡ [] → (other : Waiting) → IsOneOf books.waiting other → ⊥
    nobody books none other one = subst (λ (l : List Waiting). IsOneOf l other) none one

    counts : (most : ℕ) (o : Option ℕ) → o ≡ Some faults → faults ≤ most → CountsFaults before most o act.Halted own
    counts most o e le = subst (λ (o : Option ℕ). CountsFaults before most o act.Halted own) (sym e) (omega (arith, kept), omega (arith, kept, le))

    halts : (more : List Entry) (most : ℕ) → faults ≤ most
        → IsTurn before most (over ((history ++ entry ∷ []) ++ more) failed.books) turn
        (over ((history ++ entry ∷ []) ++ more) (without_waiting entry.stamp.0 failed.books))
    halts more most le = record {
      own = λ other one same. absurd (nobody failed.books failed.settled other one);
      faults = counts most failed.books.failed failed.failed le;
      does = refl;
    }

    halts_on : IsNextFsync first history entry node → entry.reply ≡ reply.Stopped faults
        → TurnsFailed first (history ++ entry ∷ []) image before faults (then_turn turns turn)
    halts_on is answered =
        let adds =
        adds_one entry node turns turns None (adds_none first history entry is.next failed.legal turns failed.each node) turn
        (record { core = refl; node_is = refl; stamp = refl }) in
        record {
          legal = is.next.legal;
          books = without_waiting entry.stamp.0 failed.books;
          failed = failed.failed;
          settled = ap (filter (is_other_waiting entry.stamp.0)) failed.settled;
          turns_are = λ more most legal le. one_turn turns turn _ _ (still_failed more most legal le) (halts more most le);
          each = each_on first history entry is.next failed.legal turns failed.each node (then_turn turns turn) is adds.each;
          ends =
              ends_on first history entry is.next failed.legal (Some faults) turns (then_turn turns turn) (Some turn) failed.ends adds.others adds.own
              (λ other asked alive. (faults, refl, answered));
        }

pub calls_fail : CallsFail
calls_fail first history image before faults turns entry next none failed = calls_on first history image before faults turns entry failed next none

pub halts_fail : HaltsFail
halts_fail first history image before faults turns entry node number moment own is answered kept failed =
    halts_on first history image before faults turns entry failed node number moment own kept is answered

pub standing_are_recorded : StandingAreRecorded
standing_are_recorded first history image from before most turns rest le stand = record {
  before = before;
  since = le;
  books = books_at first history rest;
  kept =
      subst (λ (l : List Entry). AreTurns before most (books_of first l image) turns (books_at first l rest)) (append-nil history)
      (stand.turns_are [] most (subst (IsLegal first) (sym (append-nil history)) stand.legal));
  settled = refl;
  each = stand.each;
  ends = stand.ends;
}

pub failed_are_recorded : FailedAreRecorded
failed_are_recorded first history image from before faults most turns le within failed = record {
  before = before;
  since = le;
  books = over history failed.books;
  kept =
      subst (λ (l : List Entry). AreTurns before most (books_of first l image) turns (over l failed.books)) (append-nil history)
      (failed.turns_are [] most (subst (IsLegal first) (sym (append-nil history)) failed.legal) within);
  settled = failed.settled;
  each = failed.each;
  ends = rw failed.failed failed.ends;
}
