-- A core whose fsync waits, until its answer.
use Rattle.std.proofs.Common.{◌≡◌, ◌<◌, ◌∙◌, ◌∷◌, ◌++◌, ℕ, true, List, [], length, reverse, Option, Some, None, inl, refl, sym, ap, subst}
use Rattle.std.proofs.lemmas.List.Elements.{filter_map-append}
use mathlib.Core.List.{IsPrefix}
use Rattle.sfs_base.specs.declared.numbers.NodeId.{NodeId}
use Rattle.mem_files.specs.File.{File}
use Rattle.tree_laws.specs.Tree.{TreeState, is_alive}
use Rattle.tree_laws.specs.History.{tree_after}
use Rattle.tree_laws.specs.declared.history.Entry.{Entry}
use Rattle.tree_laws.specs.declared.reply.Reply.{Reply}
use Rattle.cut_laws.specs.Rules.{IsOneOf}
use Rattle.cut_laws.proofs.Basics.{in_right}
use Rattle.stamp_table.specs.Events.{called, calls_in}
use Rattle.stamp_table.specs.Hand.{places_of}
use Rattle.stamp_table.specs.Table.{GivesAnswer, IsSameCore}
use Rattle.stamp_table.specs.declared.event.Event.{Event}
use Rattle.stamp_table.specs.declared.event.Event.TheVariants.{Called}
use Rattle.stamp_table.specs.declared.held.HeldCell.{HeldCell}
use Rattle.stamp_table.specs.declared.view.View.{View}
use Rattle.stamp_table.proofs.Keeps.{begins_on}
use Rattle.mem_values.specs.Facts.{HasFsync}
use Rattle.mem_values.specs.Start.{FileHand, FileState, given_by}
use Rattle.mem_values.specs.declared.cell.Cell.{Cell}
use Rattle.mem_values.specs.declared.fact.Fact.{Fact}
use Rattle.mem_calls.specs.Table.{IsFileTable}
use Rattle.mem_calls.specs.Working.{IsWorking, WorksOn}
use Rattle.fsync_stamp.specs.Copying.{StampsCopied}
use Rattle.fsync_stamp.specs.declared.copying.StampedFsync.{StampedFsync}
use Rattle.fsync_catch.specs.Catch.{GoesOn}
use Rattle.fsync_catch.specs.declared.looking.WaitingFsync.{WaitingFsync}
use Rattle.fsync_catch.proofs.Going.{waits_on, works_goes}
use Rattle.fsync_dir.specs.Answering.{EndsUntold, EndsWaiting, LetsGoWaiting}
use Rattle.fsync_dir.specs.Flush.{WaitsToFlush, WasCopied}
use Rattle.fsync_dir.specs.Stamped.{OwnsCopy}
use Rattle.fsync_dir.specs.declared.attempt.OwnFsync.{OwnFsync}

-- a core of a table that holds nothing works
pub idle_works : (t : FileState) (hand : FileHand) → hand.table ≡ t.table → hand.view.first ≡ t.first → hand.view.core < length t.first.made → hand.held ≡ []
    → hand.view.held ≡ [] → IsWorking (given_by t) t hand
idle_works t hand table first core none idle = record {
  table = table;
  first = first;
  core = core;
  places = idle ∙ sym (ap (λ (cells : List (HeldCell Cell)). reverse (places_of cells)) none);
  falls = subst Rattle.stamp_table.specs.Ascending.Falls (sym idle) tt;
  knows = subst (Rattle.mem_values.specs.Laws.KnowsCells (given_by t) hand.view) (sym none) tt;
}

-- a core that goes on is the same
pub goes_same : (before after : FileHand) → GoesOn before after → IsSameCore before after
goes_same before after on = record {
  table = ap (λ (h : FileHand). h.table) on.frame;
  cores = ap (λ (h : FileHand). h.cores) on.frame;
  leads = ap (λ (h : FileHand). h.leads) on.frame;
  number = ap (λ (v : View TreeState (Event Fact)). v.core) on.view;
}

goes_mine : (before after : FileHand) → GoesOn before after → after.view.mine ≡ before.view.mine
goes_mine before after on = ap (λ (v : View TreeState (Event Fact)). v.mine) on.view

-- what was copied was so behind calls that it has seen still
pub copied_on : (t : FileState) (fsync : WaitingFsync) (file : Option File) (before after : FileHand) → GoesOn before after
    → WasCopied t.first before.view.seen fsync file → WasCopied t.first after.view.seen fsync file
copied_on t fsync file before after on was = record {
  log = was.log;
  began = begins_on was.log before.view.seen after.view.seen was.began on.seen;
  stamp_is = was.stamp_is;
  alive = was.alive;
  copied_is = was.copied_is;
}

-- its own fsync is among its own calls
pub mine_on : (before after : FileHand) (node stamp : ℕ) → GoesOn before after → HasFsync (calls_in before.view.mine) before.view.core node stamp
    → HasFsync (calls_in after.view.mine) after.view.core node stamp
mine_on before after node stamp on mine =
    subst (λ (z : List (Event Fact) × ℕ). HasFsync (calls_in z.0) z.1 node stamp)
    (λ i. (sym (goes_mine before after on) i, sym (ap (λ (v : View TreeState (Event Fact)). v.core) on.view) i)) mine

pub waiting_on : (before after : FileHand) → GoesOn before after → after.waiting ≡ before.waiting
waiting_on before after on = ap (λ (h : FileHand). h.waiting) on.frame

-- one that waits and goes on, and holds nothing again, waits on
pub waits_again : (t : FileState) (nodes : ℕ) (fsync : WaitingFsync) (file : Option File) (before after : FileHand) → LetsGoWaiting t before after
    → WaitsToFlush t nodes fsync file before → WaitsToFlush t nodes fsync file after
waits_again t nodes fsync file before after lets waits = record {
  work = lets.work;
  holds_none = lets.holds_none;
  none_held = lets.none_held;
  waiting = waiting_on before after lets.on ∙ waits.waiting;
  mine = mine_on before after fsync.node.0 fsync.stamp.0 lets.on waits.mine;
  seen = waits_on before after fsync lets.on waits.seen;
  within = waits.within;
  copied = copied_on t fsync file before after lets.on waits.copied;
}

-- it lets go of all
pub lets_go : (t : FileState) (before after : FileHand) → IsWorking (given_by t) t after → WorksOn before after → after.held ≡ [] → after.view.held ≡ []
    → LetsGoWaiting t before after
lets_go t before after work on none idle = record { work = work; on = works_goes before after on; holds_none = none; none_held = idle }

-- and is answered, and has told nothing
pub ends_untold : (t : FileState) (fsync : WaitingFsync) (given : Reply) (before mid after : FileHand) → LetsGoWaiting t before mid
    → GivesAnswer fsync.stamp.0 given None mid after → EndsUntold t fsync given before after
ends_untold t fsync given before mid after lets gives =
    let view : after.view ≡ mid.view = ap (λ (h : FileHand). h.view) gives.frame in
    let entries : mid.entries ≡ before.entries = ap (λ (h : FileHand). h.entries) lets.on.frame in
    let same = goes_same before mid lets.on in
    record {
      ends = record {
        between = record {
          table_is = ap (λ (h : FileHand). h.table) gives.frame ∙ lets.work.table;
          first_is = ap (λ (v : View TreeState (Event Fact)). v.first) view ∙ lets.work.first;
          core_is = subst (λ (v : View TreeState (Event Fact)). v.core < length t.first.made) (sym view) lets.work.core;
          holds_none = ap (λ (h : FileHand). h.held) gives.frame ∙ lets.holds_none;
          none_held = ap (λ (v : View TreeState (Event Fact)). v.held) view ∙ lets.none_held;
          none_waits = gives.waiting;
        };
        same = record {
          table = ap (λ (h : FileHand). h.table) gives.frame ∙ same.table;
          cores = ap (λ (h : FileHand). h.cores) gives.frame ∙ same.cores;
          leads = ap (λ (h : FileHand). h.leads) gives.frame ∙ same.leads;
          number = ap (λ (v : View TreeState (Event Fact)). v.core) view ∙ same.number;
        };
        seen = subst (IsPrefix before.view.seen) (sym (ap (λ (v : View TreeState (Event Fact)). v.seen) view)) lets.on.seen;
        answered = (gives.answered.0, gives.answered.1, gives.answered.2, sym entries ∙ gives.answered.3, gives.answered.4);
      };
      mine = ap (λ (v : View TreeState (Event Fact)). v.mine) view ∙ goes_mine before mid lets.on;
    }

-- what a core did that went on and then ended so, it did from before that on
pub ends_waiting_since : (t : FileState) (fsync : WaitingFsync) (given : Reply) (ack : Option ℕ) (before mid after : FileHand) → GoesOn before mid
    → EndsWaiting t fsync given ack mid after → EndsWaiting t fsync given ack before after
ends_waiting_since t fsync given ack before mid after on ends =
    let same = goes_same before mid on in
    let entries : mid.entries ≡ before.entries = ap (λ (h : FileHand). h.entries) on.frame in
    record {
      between = ends.between;
      same = record {
        table = ends.same.table ∙ same.table;
        cores = ends.same.cores ∙ same.cores;
        leads = ends.same.leads ∙ same.leads;
        number = ends.same.number ∙ same.number;
      };
      seen = begins_on before.view.seen mid.view.seen after.view.seen on.seen ends.seen;
      answered = (ends.answered.0, ends.answered.1, ends.answered.2, sym entries ∙ ends.answered.3, ends.answered.4);
    }

pub ends_since : (t : FileState) (fsync : WaitingFsync) (given : Reply) (before mid after : FileHand) → GoesOn before mid → EndsUntold t fsync given mid after
    → EndsUntold t fsync given before after
ends_since t fsync given before mid after on ends = record {
  ends = ends_waiting_since t fsync given None before mid after on ends.ends;
  mine = ends.mine ∙ goes_mine before mid on;
}

-- An fsync that was stamped waits to be flushed.
module _ (t : FileState) (nodes : ℕ) (node : NodeId) (stamped : StampedFsync) (before after : FileHand) (stamps : StampsCopied t node stamped before after)
    (table : IsFileTable t nodes) where
  fsync_in : (log : List (Event Fact)) (rest : List (Event Fact)) → log ≡ rest ++ Called stamps.stamps.entry ∷ []
      → HasFsync (calls_in log) before.view.core node.0 stamped.stamp.0
  fsync_in log rest is = record {
    entry = stamps.stamps.entry;
    among = subst (λ (l : List Entry). IsOneOf l stamps.stamps.entry)
        (sym (ap calls_in is ∙ filter_map-append called rest (Called stamps.stamps.entry ∷ [])))
        (in_right (calls_in rest) (stamps.stamps.entry ∷ []) stamps.stamps.entry (inl refl));
    own = ap (λ (e : Entry). e.core.0) stamps.stamps.entry_is;
    stamped = ap (λ (e : Entry). e.stamp.0) stamps.stamps.entry_is ∙ sym stamps.stamps.stamp_is;
    fsync = ap (λ (e : Entry). e.call) stamps.stamps.entry_is;
    waits = ap (λ (e : Entry). e.reply) stamps.stamps.entry_is;
  }

  same_core : after.view.core ≡ before.view.core
  same_core = stamps.stamps.waits.same.number

  pub waits_stamped : (own : OwnFsync) → OwnsCopy node stamped own → WaitsToFlush t nodes own.fsync own.file after
  waits_stamped own owns = record {
    work = idle_works t after stamps.stamps.waits.table_is stamps.stamps.waits.first_is stamps.stamps.waits.core_is stamps.stamps.waits.holds_none
        stamps.stamps.waits.none_held;
    holds_none = stamps.stamps.waits.holds_none;
    none_held = stamps.stamps.waits.none_held;
    waiting = stamps.stamps.waits.waits ∙ ap (λ (f : WaitingFsync). Some f.stamp.0) (sym owns.fsync_is);
    mine = subst (λ (z : ℕ × WaitingFsync). HasFsync (calls_in after.view.mine) z.0 z.1.node.0 z.1.stamp.0)
        (λ i. (sym same_core i, sym owns.fsync_is i)) (fsync_in after.view.mine before.view.mine stamps.stamps.mine);
    seen = subst (λ (z : ℕ × WaitingFsync). HasFsync (calls_in after.view.seen) z.0 z.1.node.0 z.1.stamp.0)
        (λ i. (sym same_core i, sym owns.fsync_is i)) (fsync_in after.view.seen stamps.stamps.log stamps.stamps.seen);
    within = subst (λ (z : ℕ × WaitingFsync). z.1.node.0 < z.0) (λ i. (sym table.counted i, sym owns.fsync_is i)) stamps.within;
    copied = record {
      log = stamps.stamps.log;
      began = (Called stamps.stamps.entry ∷ [], sym stamps.stamps.seen);
      stamp_is = sym stamps.stamps.stamp_is ∙ ap (λ (f : WaitingFsync). f.stamp.0) (sym owns.fsync_is);
      alive = subst (λ (f : WaitingFsync). is_alive (tree_after t.first (calls_in stamps.stamps.log)) f.node.0 ≡ true) (sym owns.fsync_is) stamps.stamps.alive;
      copied_is = subst (λ (z : WaitingFsync × Rattle.fsync_stamp.specs.declared.copying.Copied.Copied).
          Rattle.fsync_stamp.specs.Copying.IsCopied t.first (calls_in stamps.stamps.log) z.0.node.0 z.1)
          (λ i. (sym owns.fsync_is i, owns.copied_is i)) stamps.copied_is;
    };
  }
