-- What comes of reserving while a core has the box comes of it once the core has brought it home.
use Rattle.std.proofs.Common.{◌≡◌, ◌∷◌, ◌++◌, ◌∙◌, ℕ, List, Some, Result, Ok, Err, sym, ap, subst, append_assoc}
use mathlib.Core.List.{IsPrefix}
use Rattle.tree_laws.specs.Tree.{TreeState}
use Rattle.cut_laws.specs.Rules.{IsOneOf}
use Rattle.space_map.specs.Space.{GrantedNumbers}
use Rattle.stamp_table.specs.declared.event.Event.{Event}
use Rattle.stamp_table.specs.declared.event.Event.TheVariants.{Told}
use Rattle.stamp_table.specs.declared.view.View.{View as Sight}
use Rattle.slot_laws.specs.declared.label.Label.{Label}
use Rattle.slot_laws.specs.declared.label.Label.TheVariants as label
use Rattle.slot_laws.specs.Labels.{OwnTold, first_past, own_label}
use Rattle.slot_laws.specs.Grants.{SpaceGoes}
use Rattle.commit_ledger.specs.Keeps.{LedgerKeeps}
use Rattle.disk_box.specs.declared.key.BoxKey.{BoxKey}
use Rattle.disk_box.specs.Box.{past_of}
use Rattle.disk_box.specs.Pens.{PenHand, PenGoes, own_at}
use Rattle.journal_set.specs.declared.fault.CommitFault.{CommitFault}
use Rattle.journal_set.specs.declared.fault.CommitFault.TheVariants as fault
use Rattle.journal_set.specs.Grants.{grant_at}
use Rattle.journal_set.specs.Numbering.{numbers_reserved}
use Rattle.journal_set.specs.Reserving.{ReserveRequest, Reserves}
use Rattle.journal_set.proofs.Parts.{reserved_later}

-- a front of what was seen is one of what was seen later
pub front_later : (front log later : List (Event Label)) → IsPrefix front log → IsPrefix log later → IsPrefix front later
front_later front log later one two =
    (one.0 ++ two.0, sym (append_assoc front one.0 two.0) ∙ (ap (λ l. l ++ two.0) one.1 ∙ two.1))

module _ {D : Type 0} (asked : ReserveRequest) (before entered done after : PenHand D) (goes_in : PenGoes before entered) (goes_out : PenGoes done after)
    (own_in : own_at entered ≡ own_at before) (own_out : own_at after ≡ own_at done) (grant_out : grant_at after ≡ grant_at done)
    (core_same : done.view.core ≡ entered.view.core) (numbers_in : numbers_reserved entered.view.mine ≡ numbers_reserved before.view.mine) where
  core_in : entered.view.core ≡ before.view.core
  core_in = ap (λ (v : Sight TreeState (Event Label)). v.core) goes_in.view

  key_out : after.table.given ≡ done.table.given
  key_out = ap (λ (h : PenHand D). h.table.given) goes_out.frame

  pub reserves_around : (result : Result GrantedNumbers CommitFault) → Reserves asked entered done result → Reserves asked before after result
  reserves_around (Ok grant) it = record {
    number = it.number;
    turn = it.turn;
    by = record { did_is = it.by.did_is; core_is = it.by.core_is ∙ core_in; commit_is = it.by.commit_is; flush_is = it.by.flush_is };
    own = own_out ∙ (it.own ∙ ap (λ (o : OwnTold). own_label (label.Noted it.turn) (record o { reserved = Some it.number })) own_in);
    grant_is = grant_out ∙ it.grant_is;
    goes_on = ap (λ (o : OwnTold). o.over) (sym own_in) ∙ it.goes_on;
    newer = λ other one. it.newer other (subst (λ (l : List ℕ). IsOneOf l other) (sym numbers_in) one);
    reserved = reserved_later done after entered.view.core before.view.core core_in goes_out it.reserved;
  }
  reserves_around (Err (fault.DiskFailed faults)) it = it
  reserves_around (Err (fault.NoSpace kind need free)) it = record {
    turn = it.turn;
    by = record { did_is = it.by.did_is; core_is = it.by.core_is ∙ core_in; commit_is = it.by.commit_is; flush_is = it.by.flush_is };
    own = own_out ∙ (it.own ∙ ap (own_label (label.Noted it.turn)) own_in);
    front = it.front;
    back = it.back ++ goes_out.seen.0;
    whole = sym goes_out.seen.1
        ∙ (ap (λ l. l ++ goes_out.seen.0) it.whole
        ∙ (append_assoc it.front (Told (record { 0 = entered.view.core }) (label.Noted it.turn) ∷ it.back) goes_out.seen.0
        ∙ (λ i. it.front ++ ((Told (record { 0 = core_in i }) (label.Noted it.turn) ∷ it.back) ++ goes_out.seen.0))));
    unmoved = λ node last seen. ap (λ (k : BoxKey D). (past_of k it.front).lasts node) key_out ∙ it.unmoved node last seen;
    space = it.space;
    goes = subst (λ (k : BoxKey D). SpaceGoes k.layout it.front (first_past k.start) k.space it.space) (sym key_out) it.goes;
    short = it.short;
  }
  reserves_around (Err (fault.Stopped faults)) it = record {
    halts = record {
      turn = it.halts.turn;
      by = record {
        did_is = it.halts.by.did_is;
        core_is = it.halts.by.core_is ∙ core_in;
        commit_is = it.halts.by.commit_is;
        flush_is = it.halts.by.flush_is;
      };
      after_is = own_out ∙ (it.halts.after_is ∙ ap (own_label (label.Noted it.halts.turn)) own_in);
    };
    front = it.front;
    seen = front_later it.front done.view.seen after.view.seen it.seen goes_out.seen;
    failed = ap (λ (k : BoxKey D). (past_of k it.front).failed) key_out ∙ it.failed;
  }
  reserves_around (Err (fault.Moved node last)) it = record {
    own = own_out ∙ (it.own ∙ own_in);
    front = it.front;
    seen = front_later it.front done.view.seen after.view.seen it.seen goes_out.seen;
    ledger = it.ledger;
    keeps = subst (λ (k : BoxKey D). LedgerKeeps it.ledger (past_of k it.front)) (sym key_out) it.keeps;
    moved = it.moved;
  }
  reserves_around (Err fault.NoMemory) it = own_out ∙ (it ∙ own_in)
