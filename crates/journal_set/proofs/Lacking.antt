-- A core that has the box finds too little free, and tells a turn that says so.
use Rattle.std.specs.Prelude.{MatchOption}
use Rattle.std.proofs.Common.{◌≡◌, ◌∙◌, ℕ, [], Option, Some, None, sym, ap, subst}
use Rattle.sfs_base.specs.declared.numbers.SpaceKind.{SpaceKind}
use Rattle.sfs_dev.specs.Disk.{View}
use Rattle.space_map.specs.declared.fault.SpaceFault.{SpaceFault}
use Rattle.space_map.specs.declared.fault.SpaceFault.TheVariants.{NoSpace, NoMemory as WantsMemory}
use Rattle.space_map.specs.Space.{shortage}
use Rattle.tree_laws.specs.declared.turns.Turn.{Turn}
use Rattle.tree_laws.specs.declared.turns.TurnAct.TheVariants as act
use Rattle.stamp_table.specs.Table.{TableState}
use Rattle.slot_laws.specs.declared.label.Label.TheVariants as label
use Rattle.slot_laws.specs.Rules.{IsTurnBy}
use Rattle.slot_laws.specs.Grants.{SpaceGoes}
use Rattle.slot_laws.specs.Labels.{first_past}
use Rattle.disk_box.specs.declared.key.BoxKey.{BoxKey}
use Rattle.disk_box.specs.declared.desk.Desk.{Desk}
use Rattle.disk_box.specs.Pens.{PenHand, TellsLabel}
use Rattle.disk_box.specs.Box.{past_of}
use Rattle.journal_set.specs.Reserving.{ReserveRequest, FindsShort}
use Rattle.journal_set.specs.Refusing.{MayReserve}

module _ {D : Type 0} (view : D → View) (t : TableState (BoxKey D)) (asked : ReserveRequest) (pen after : PenHand D) (desk : Desk D)
    (may : MayReserve view t asked.seen pen desk) where
  -- the box is about what it was about
  key_same : (turn : Turn) → TellsLabel (label.Noted turn) pen after → after.table.given ≡ pen.table.given
  key_same turn tells = ap (λ (h : PenHand D). h.table.given) tells.goes.frame

  -- the cause of a refused number: what is due, where something is
  abbrev pub IsCauseOf : Option SpaceFault → SpaceFault → Type 0
  IsCauseOf o fault = MatchOption o (fault ≡ WantsMemory) (λ due. fault ≡ due)

  -- what is due where the map has too little
  due : (o : Option SpaceFault) (kind : SpaceKind) (need free : ℕ)
      → IsCauseOf o (NoSpace kind need free) → o ≡ Some (NoSpace kind need free)
  due None kind need free is = cc is
  due (Some fault) kind need free is = ap Some (sym is)

  -- so it has found too little, with nodes that had not moved
  pub finds_short : (turn : Turn) (kind : SpaceKind) (need free : ℕ) → IsTurnBy turn (act.Short kind need free) pen.view.core 0 asked.flush
      → TellsLabel (label.Noted turn) pen after
      → IsCauseOf (shortage desk.ledger.space asked.need) (NoSpace kind need free)
      → FindsShort asked pen after kind need free
  finds_short turn kind need free by tells cause =
      let same = key_same turn tells in
      record {
        turn = turn;
        by = by;
        own = tells.own;
        front = pen.view.seen;
        back = [];
        whole = tells.seen_is;
        unmoved = λ node last seen. ap (λ (k : BoxKey D). (past_of k pen.view.seen).lasts node) same ∙ may.unmoved node last seen;
        space = desk.ledger.space;
        goes = subst (λ (k : BoxKey D). SpaceGoes k.layout pen.view.seen (first_past k.start) k.space desk.ledger.space) (sym same) may.work.space;
        short = due (shortage desk.ledger.space asked.need) kind need free cause;
      }
