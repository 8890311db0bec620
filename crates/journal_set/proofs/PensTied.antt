-- That pens go on telling turn by turn through each call, and that journals leave a history that they told so.
use Rattle.std.proofs.Common.{◌≡◌, ◌<◌, ◌≤◌, ◌∷◌, ◌∙◌, ℕ, List, [], refl, sym, ap, subst, inl, inr, Some, length, arith, cond, Result, slice_get}
use Rattle.std.proofs.lemmas.Option.{slice_get_cases}
use Rattle.sfs_dev.specs.Disk.{View}
use Rattle.tree_laws.specs.declared.turns.Turn.{Turn}
use Rattle.cut_laws.specs.Closure.{Flush}
use Rattle.stamp_table.specs.declared.event.Event.{Event}
use Rattle.stamp_table.specs.Rule.{entries_by}
use Rattle.stamp_table.specs.Events.{event_core}
use Rattle.stamp_table.specs.Table.{TableState}
use Rattle.slot_laws.specs.declared.label.Label.{Label}
use Rattle.slot_laws.specs.Telling.{PenTold, BoxTurn, TellTurns, TellsTurn}
use Rattle.slot_laws.specs.Labels.{OwnTold}
use Rattle.slot_laws.proofs.Lawful.{none_by}
use Rattle.slot_laws.proofs.Telling.{pens_go_on}
use Rattle.disk_box.specs.declared.key.BoxKey.{BoxKey}
use Rattle.disk_box.specs.Pens.{PenHand, own_at}
use Rattle.journal_set.specs.Making.{IsNewPen, LeavesDisk}
use Rattle.journal_set.specs.Telling.{TellsCall, IsOneTurn, Written, OfReserved, commit_labels}
use Rattle.journal_set.specs.declared.fault.Ack.{Ack}
use Rattle.journal_set.specs.declared.fault.CommitFault.{CommitFault}
use Rattle.journal_set.proofs.TiedCommits.{commits_tell}

one_tells : (stamps : ℕ → ℕ) (core : ℕ) (own : OwnTold) (Is : BoxTurn → Type 0) (turns : List BoxTurn) → IsOneTurn Is turns
    → ((one : BoxTurn) → Is one → TellsTurn stamps core own one) → TellTurns stamps core own turns
one_tells stamps core own Is [] is each = absurd is
one_tells stamps core own Is (one ∷ []) is each = (each one is, tt)
one_tells stamps core own Is (one ∷ other ∷ turns) is each = absurd is

module _ {D : Type 0} (stamps : ℕ → ℕ) where
  -- a new pen has told nothing
  pub new_told : (t : TableState (BoxKey D)) (core : ℕ) (pen : PenHand D) → IsNewPen t core pen → PenTold stamps core pen.view.mine
  new_told t core pen new = record { turns = []; mine_is = new.none_told; tells = tt }

  -- a call whose turns are of commits of its core's
  pub call_told : (before after : PenHand D) (Are : List BoxTurn → Type 0) → PenTold stamps before.view.core before.view.mine
      → (tells : TellsCall Are before after) → TellTurns stamps before.view.core (own_at before) tells.turns
      → PenTold stamps before.view.core after.view.mine
  call_told before after Are told tells turns =
      subst (PenTold stamps before.view.core) (sym tells.mine_is)
      (pens_go_on stamps before.view.core before.view.mine tells.turns told turns)

  -- one of one turn at the box
  pub turn_told : (before after : PenHand D) (Is : BoxTurn → Type 0) → PenTold stamps before.view.core before.view.mine
      → TellsCall (IsOneTurn Is) before after → ((one : BoxTurn) → Is one → TellsTurn stamps before.view.core (own_at before) one)
      → PenTold stamps before.view.core after.view.mine
  turn_told before after Is told tells each =
      call_told before after (IsOneTurn Is) told tells (one_tells stamps before.view.core (own_at before) Is tells.turns tells.are each)

  -- a whole commit, whose number has the stamp of its fsync
  pub commit_goes_on : (before after : PenHand D) (flush : Flush) (written : Written) (result : Result Ack CommitFault)
      → PenTold stamps before.view.core before.view.mine → ((number : ℕ) → (own_at before).reserved ≡ Some number → stamps number ≡ flush.stamp)
      → TellsCall (OfReserved (own_at before) (λ number. commit_labels before.view.core flush written number result)) before after
      → PenTold stamps before.view.core after.view.mine
  commit_goes_on before after flush written result told named tells =
      call_told before after (OfReserved (own_at before) (λ number. commit_labels before.view.core flush written number result)) told tells
      (commits_tell stamps before.view.core tells.are.number flush written (own_at before) result tells.turns
      (record { had = tells.are.had; named = named tells.are.number tells.are.had }) tells.are.is)

  -- what pens told is what each core told of the history that journals leave
  pub leaves_told : (view : D → View) (key : BoxKey D) (pens : List (PenHand D)) (log : List (Event Label)) (disk : D) (turns : List Turn)
      → LeavesDisk view key pens log disk turns
      → ((core : ℕ) (pen : PenHand D) → slice_get pens core ≡ Some pen → PenTold stamps core pen.view.mine)
      → (core : ℕ) → PenTold stamps core (entries_by event_core core log)
  leaves_told view key pens log disk turns leaves told core = elim (slice_get_cases pens core).1 [
    | inl found ↦ subst (PenTold stamps core) (leaves.mine core found.0 found.2) (told core found.0 found.2)
    | inr past ↦ record { turns = []; mine_is = none_by log (length pens) core leaves.own past.0; tells = tt }
  ]
