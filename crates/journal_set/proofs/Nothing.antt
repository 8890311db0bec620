-- A commit that needs nothing.
use Rattle.std.proofs.Common.{◌≡◌, ◌∙◌, ℕ, nat_lt, cond, List, Bool, true, false, length, Some, None, Result, Ok, Err, refl, sym, ap, subst, arith}
use Rattle.sfs_base.proofs.BasicNumbers.{not_below}
use Rattle.sfs_base.proofs.BasicOptions.{some_not_none}
use Rattle.sfs_base.specs.declared.numbers.SpaceKind.TheVariants as kind
use Rattle.cut_laws.specs.Closure.{Flush}
use Rattle.cut_laws.specs.Rules.{IsOneOf}
use Rattle.tree_laws.specs.Tree.{TreeState}
use Rattle.tree_laws.specs.declared.turns.Turn.{Turn}
use Rattle.tree_laws.specs.declared.turns.TurnAct.{TurnAct}
use Rattle.stamp_table.specs.declared.event.Event.{Event}
use Rattle.stamp_table.specs.declared.view.View.{View as Sight}
use Rattle.slot_laws.specs.declared.label.Label.{Label}
use Rattle.slot_laws.specs.declared.label.Label.TheVariants as label
use Rattle.slot_laws.specs.declared.label.Seen.{Seen}
use Rattle.slot_laws.specs.Rules.{IsTurnBy}
use Rattle.std.proofs.lemmas.List.{nil_from_length}
use Rattle.space_map.specs.Space.{Space, GrantedNumbers, shortage}
use Rattle.space_map.specs.Pool.{free_count}
use Rattle.space_map.specs.declared.fault.SpaceFault.TheVariants as space_fault
use Rattle.stamp_table.specs.Table.{TableState}
use Rattle.slot_laws.specs.Labels.{OwnTold, own_label}
use Rattle.slot_laws.specs.Nodes.{no_numbers}
use Rattle.disk_box.specs.declared.key.BoxKey.{BoxKey}
use Rattle.disk_box.specs.Pens.{PenHand, PenGoes, HoldsBox, past_at, own_at}
use Rattle.disk_box.proofs.After.{past_fits_at}
use Rattle.disk_box.proofs.Owes.{owns_own}
use Rattle.journal_set.specs.declared.fault.CommitFault.{CommitFault}
use Rattle.journal_set.specs.declared.fault.CommitFault.TheVariants as fault
use Rattle.journal_set.specs.Emptying.{Empties, EndsAtOnce, EndsTogether, NOTHING}
use Rattle.journal_set.specs.Numbering.{IsNewerThan, WasReserved, numbers_reserved}
use Rattle.journal_set.specs.Reserving.{ReserveRequest, Reserves}
use Rattle.journal_set.specs.Grants.{grant_at}
use Rattle.journal_set.specs.declared.fault.Ack.{Ack}
use Rattle.journal_set.proofs.Around.{reserves_around}
use Rattle.journal_set.proofs.Parts.{reserved_later}
use Rattle.journal_set.proofs.Turned.{core_kept}

none_below_zero : (n : ℕ) → nat_lt n 0 ≡ false
none_below_zero n = not_below n 0 (omega arith)

-- of nothing there is enough
pub enough_of_nothing : (space : Space) → shortage space NOTHING ≡ None
enough_of_nothing space = λ i.
    cond (none_below_zero (free_count space.inodes) i) (Some (space_fault.NoSpace kind.Inodes 0 (free_count space.inodes)))
    (cond (none_below_zero (free_count space.blocks) i) (Some (space_fault.NoSpace kind.Blocks 0 (free_count space.blocks))) None)

-- a grant of nothing has no numbers
pub grant_of_nothing : (grant : GrantedNumbers) → length grant.inodes ≡ 0 → length grant.blocks ≡ 0 → grant ≡ no_numbers
grant_of_nothing grant inodes blocks = λ i. record { inodes = nil_from_length grant.inodes inodes i; blocks = nil_from_length grant.blocks blocks i }

-- until a commit has failed no core's last turn has come
over_so : {D : Type 0} (t : TableState (BoxKey D)) (pen : PenHand D) → HoldsBox t pen → (past_at pen).failed ≡ None → (over : Bool) → (own_at pen).over ≡ over
    → (own_at pen).over ≡ false
over_so t pen holds calm false is = is
over_so t pen holds calm true is =
    absurd (((past_fits_at t pen holds).over pen.view.core (ap (λ (o : OwnTold). o.over) (owns_own t pen holds) ∙ is)).1 calm)

pub over_calm : {D : Type 0} (t : TableState (BoxKey D)) (pen : PenHand D) → HoldsBox t pen → (past_at pen).failed ≡ None → (own_at pen).over ≡ false
over_calm t pen holds calm = over_so t pen holds calm (own_at pen).over refl

-- what was refused before a number was reserved is refused
pub empties_refused : {D : Type 0} (flush : Flush) (seen : List Seen) (before after : PenHand D) (it : CommitFault)
    → Reserves (record { flush = flush; seen = seen; need = NOTHING }) before after (Err it)
    → Empties (record { flush = flush; seen = seen; need = NOTHING }) before after (Err it)
empties_refused flush seen before after (fault.DiskFailed faults) comes = comes
empties_refused flush seen before after (fault.NoSpace kind need free) comes = some_not_none (sym comes.short ∙ enough_of_nothing comes.space)
empties_refused flush seen before after (fault.Stopped faults) comes = comes
empties_refused flush seen before after (fault.Moved node last) comes = comes
empties_refused flush seen before after fault.NoMemory comes = comes

-- What comes of it while a core has the box comes of it once the core has brought it home.
module _ {D : Type 0} (asked : ReserveRequest) (before entered done after : PenHand D) (goes_in : PenGoes before entered) (goes_out : PenGoes done after)
    (own_in : own_at entered ≡ own_at before) (own_out : own_at after ≡ own_at done) (grant_out : grant_at after ≡ grant_at done)
    (core_same : done.view.core ≡ entered.view.core) (numbers_in : numbers_reserved entered.view.mine ≡ numbers_reserved before.view.mine) where
  core_in : entered.view.core ≡ before.view.core
  core_in = ap (λ (v : Sight TreeState (Event Label)). v.core) goes_in.view

  pub empties_around : (result : Result Ack CommitFault) → Empties asked entered done result → Empties asked before after result
  empties_around (Ok ack) it =
      let by : (turn : Turn) (did : TurnAct) → IsTurnBy turn did entered.view.core ack.commit asked.flush
      → IsTurnBy turn did before.view.core ack.commit asked.flush = λ turn did is.
      record { did_is = is.did_is; core_is = is.core_is ∙ core_in; commit_is = is.commit_is; flush_is = is.flush_is }
      in
      record {
        ends = record {
          cut = it.ends.cut;
          opened = it.ends.opened;
          durable = it.ends.durable;
          cut_by = by it.ends.cut _ it.ends.cut_by;
          opened_by = by it.ends.opened _ it.ends.opened_by;
          durable_by = by it.ends.durable _ it.ends.durable_by;
          moments = it.ends.moments;
          after_is = own_out ∙ (it.ends.after_is ∙ ap (λ (o : OwnTold). own_label (label.Empty ack.commit it.ends.cut it.ends.opened it.ends.durable)
              (record o { reserved = Some ack.commit })) own_in);
        };
        newer = λ other one. it.newer other (subst (λ (l : List ℕ). IsOneOf l other) (sym numbers_in) one);
        reserved = reserved_later done after entered.view.core before.view.core core_in goes_out it.reserved;
      }
  empties_around (Err (fault.DiskFailed faults)) it = it
  empties_around (Err (fault.NoSpace kind need free)) it = it
  empties_around (Err (fault.Stopped faults)) it =
      reserves_around asked before entered done after goes_in goes_out own_in own_out grant_out core_same numbers_in (Err (fault.Stopped faults)) it
  empties_around (Err (fault.Moved node last)) it =
      reserves_around asked before entered done after goes_in goes_out own_in own_out grant_out core_same numbers_in (Err (fault.Moved node last)) it
  empties_around (Err fault.NoMemory) it =
      reserves_around asked before entered done after goes_in goes_out own_in own_out grant_out core_same numbers_in (Err fault.NoMemory) it

-- A commit that reserved a number with nothing, in a core between its two steps, and has ended at the box.
pub record EndsEmpty {D : Type 0} (asked : ReserveRequest) (start after : PenHand D) (ack : Ack) : Type 0 where
  pub mid : PenHand D
  pub number : ℕ
  pub grant : GrantedNumbers
  pub none : grant ≡ no_numbers
  pub same : ack.commit ≡ number
  pub goes_in : PenGoes start mid
  pub goes_out : PenGoes mid after
  pub own : own_at mid ≡ record (own_at start) { reserved = Some number }
  pub newer : IsNewerThan start.view.mine number
  pub was : WasReserved mid.table.given mid.view.seen mid.view.core number asked.seen NOTHING grant
  pub ends : EndsTogether mid.view.core asked.flush ack (own_at mid) (own_at after)

-- Such a commit has ended at once.
pub empty_ends : {D : Type 0} (asked : ReserveRequest) (start after : PenHand D) (ack : Ack) → EndsEmpty asked start after ack
    → EndsAtOnce asked start after ack
empty_ends asked start after ack it =
    let core = core_kept start it.mid it.goes_in in
    record {
      ends = subst (λ (z : ℕ × OwnTold). EndsTogether z.0 asked.flush ack z.1 (own_at after))
          (λ i. (core i, (it.own ∙ ap (λ n. record (own_at start) { reserved = Some n }) (sym it.same)) i)) it.ends;
      newer = subst (IsNewerThan start.view.mine) (sym it.same) it.newer;
      reserved = reserved_later it.mid after it.mid.view.core start.view.core core it.goes_out
          (subst (λ (z : ℕ × GrantedNumbers). WasReserved it.mid.table.given it.mid.view.seen it.mid.view.core z.0 asked.seen NOTHING z.1)
          (λ i. (sym it.same i, it.none i)) it.was);
    }
