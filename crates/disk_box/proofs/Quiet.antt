-- Through labels that leave nodes, turns and numbers as they are, what is kept beside the slots goes on to fit.
use Rattle.sfs_dev.specs.Run.{Advances}
use Rattle.sfs_dev.proofs.Runs.{GoesOn-trans}
use Rattle.std.specs.Prelude.{Vec}
use Rattle.std.specs.declared.alloc.Global.{Global}
use Rattle.std.proofs.Common.{option_map, ◌≡◌, ◌≤◌, ◌∙◌, ℕ, length, Option, sym, ap, subst, arith, max}
use Rattle.sfs_base.specs.Lists.{Roomy}
use Rattle.sfs_dev.specs.Disk.{View}
use Rattle.sfs_dev.specs.Steps.{TellsAlike}
use Rattle.tree_laws.specs.declared.turns.Turn.{Turn}
use Rattle.slot_laws.specs.Labels.{BoxPast}
use Rattle.slot_image_laws.specs.Run.{RunFits}
use Rattle.commit_ledger.proofs.Kept.{quiet_labels_keep_it as keeps_same}
use Rattle.commit_ledger.specs.Keeps.{LedgerKeeps}
use Rattle.commit_ledger.specs.View.{LedgerView, open_in}
use Rattle.slot_laws.specs.Lasts.{KeepsNodes}
use Rattle.disk_box.specs.declared.key.BoxKey.{BoxKey}
use Rattle.disk_box.specs.declared.desk.Desk.{Desk}
use Rattle.disk_box.specs.Desk.{FrameFits, RoomFits, owed_of, open_for, open_told, wait_in, HaveFew}
use Rattle.disk_box.proofs.Frames.{owed_less}
use Rattle.disk_box.proofs.Few.{few_later}

-- Nodes, turns and numbers are as they were told before, and no core may take more turns.
pub record LeavesKept (old new : BoxPast) : Type 0 where
  pub waits : (core : ℕ) → new.waits core ≡ old.waits core
  pub owed : (core : ℕ) → owed_of (new.owns core) (new.waits core) ≤ owed_of (old.owns core) (old.waits core)
  pub opens : (core : ℕ) → open_for (new.owns core) (new.waits core) ≡ open_for (old.owns core) (old.waits core)
  pub nodes : KeepsNodes old new
  pub stamps : new.stamps ≡ old.stamps
  pub failed : new.failed ≡ old.failed
  pub turns : new.turns ≡ old.turns
  pub moment : new.moment ≡ old.moment

-- A desk is as it was but for its disk and its slots.
pub record SameBeside {D : Type 0} (view : D → View) (was now : Desk D) : Type 0 where
  pub count : length now.slots.items ≡ length was.slots.items
  pub waits : now.waits ≡ was.waits
  pub ledger : now.ledger ≡ was.ledger
  pub stamps : now.stamps ≡ was.stamps
  pub faults : now.faults ≡ was.faults
  pub failed : now.failed ≡ was.failed
  pub turns : now.turns ≡ was.turns
  pub size : (view now.disk).size ≡ (view was.disk).size
  pub later : (view was.disk).now ≤ (view now.disk).now
  pub goes : Advances (view was.disk) (view now.disk)
  pub tells : TellsAlike (view was.disk) (view now.disk)

pub frame_same : {D : Type 0} (view : D → View) (key : BoxKey D) (old new : BoxPast) (was now : Desk D) → FrameFits view key old was
    → LeavesKept old new → SameBeside view was now → RunFits key.layout key.start new (view now.disk) → FrameFits view key new now
frame_same view key old new was now frame kept same run =
    let moment = frame.moment in
    let later = same.later in
    let stays = kept.moment in
    record {
      layout = frame.layout;
      large = subst (λ n. key.layout.blocks ≤ n) (sym same.size) frame.large;
      laws = frame.laws;
      count = same.count ∙ frame.count;
      cores = ap (λ (v : Vec (Option Turn) Global). length v.items) same.waits ∙ frame.cores;
      waits = λ core. ap (λ (v : Vec (Option Turn) Global). wait_in v.items core) same.waits ∙ (frame.waits core ∙ sym (kept.waits core));
      ledger = subst (λ (l : LedgerView). LedgerKeeps l new) (sym same.ledger)
          (keeps_same was.ledger old new kept.nodes frame.ledger);
      places = ap (λ (l : LedgerView). length l.opens) same.ledger ∙ frame.places;
      opens = λ core. ap (λ (l : LedgerView). option_map open_told (open_in l core)) same.ledger ∙ (frame.opens core ∙ sym (kept.opens core));
      stamps = same.stamps ∙ (frame.stamps ∙ sym kept.stamps);
      faults = same.faults ∙ frame.faults;
      failed = same.failed ∙ (frame.failed ∙ sym kept.failed);
      turns = ap (λ (t : Roomy Turn). t.items) same.turns ∙ (frame.turns ∙ sym kept.turns);
      few = subst (λ l. HaveFew l (max key.faults (view now.disk).faults)) (sym kept.turns)
          (few_later old.turns key.faults (view was.disk).faults (view now.disk).faults frame.few same.goes.never_falls);
      moment = omega (arith, moment, later, stays);
      since = record {
        goes = λ first is. GoesOn-trans (view first.value) (view was.disk) (view now.disk) (frame.since.goes first is) same.goes;
        tells = λ first is. same.tells ∙ frame.since.tells first is;
      };
      run = run;
    }

-- so there is room as before
pub room_same : {D : Type 0} (view : D → View) (key : BoxKey D) (old new : BoxPast) (was now : Desk D) → RoomFits key old was
    → LeavesKept old new → SameBeside view was now → RoomFits key new now
room_same view key old new was now room kept same =
    let owed = owed_less key.layout.cores old new (λ core low. kept.owed core) in
    let spare = ap (λ (t : Roomy Turn). t.spare) same.turns in
    omega (arith, owed, room, spare)
