-- A call that is told to a state.
use Rattle.std.proofs.Common.{◌≡◌, ◌<◌, ◌≤◌, Bool, false, [], ◌∷◌, ◌++◌, length, sym, ap, ◌∙◌, arith}
use Rattle.tree_laws.specs.declared.history.Entry.{Entry}
use Rattle.tree_laws.specs.declared.reply.Reply.{Reply}
use Rattle.tree_laws.specs.Tree.{TreeState}
use Rattle.tree_laws.specs.Verdict.{verdict}
use Rattle.tree_laws.specs.History.{tree_after, flushes, MayCome}
use Rattle.tree_laws.proofs.Cores.{cores_stay}
use Rattle.cut_laws.specs.declared.event.Event.TheVariants as event
use Rattle.cut_laws.specs.declared.event.Refused.{Refused}
use Rattle.cut_laws.specs.declared.event.Refused.TheVariants as refused
use Rattle.flush_core.specs.declared.past.Past.{Past}
use Rattle.cut_laws.specs.Machine.{Refuses, reason_place, IsRefused, Accepts}
use Rattle.flush_core.specs.State.{KeptState, machine_of, HasDueAnswer}
use Rattle.flush_core.specs.Story.{IsReadyPast}
use Rattle.cut_laws.proofs.Basics.{no_true, none_some}

module _ (old : KeptState) (past : Past) (ready : IsReadyPast old.first old.entries past) where
  abbrev tree : TreeState
  tree = tree_after old.first old.entries

  module _ (entry : Entry) (running : old.crashed ≡ false) (stamped : entry.stamp.0 ≡ length old.entries) (core : entry.core.0 < length old.first.made)
      (is_flush : Bool) (flushing : is_flush ≡ flushes past.tree entry.call) (reply : Reply)
      (due : reply ≡ (verdict past.tree entry.core.0 entry.call).reply) where
    due_now : reply ≡ (verdict tree entry.core.0 entry.call).reply
    due_now = due ∙ ap (λ (t : TreeState). (verdict t entry.core.0 entry.call).reply) ready.is_past.tree

    flushing_now : is_flush ≡ flushes tree entry.call
    flushing_now = flushing ∙ ap (λ (t : TreeState). flushes t entry.call) ready.is_past.tree

    pub answered : MayCome tree (length old.entries) entry → HasDueAnswer is_flush reply entry
    answered may = record {
      reply = rw flushing_now (rw due_now may.due);
      acknowledged = rw flushing_now may.acknowledged;
    }

    pub may_come : HasDueAnswer is_flush reply entry → MayCome tree (length old.entries) entry
    may_come answered = record {
      stamped = stamped;
      core = rw (cores_stay old.first old.entries) core;
      due = rw due_now at (rw flushing_now at answered.reply);
      acknowledged = rw flushing_now at answered.acknowledged;
    }

    first_not_legal : (other : Refused) → Refuses (machine_of old) (event.Call entry) other → 3 ≤ reason_place other
    first_not_legal refused.Crashed holds = no_true (sym running ∙ holds)
    first_not_legal (refused.NotNext want) holds = absurd (holds.0 stamped)
    first_not_legal (refused.NotLegal other) holds = omega arith
    first_not_legal (refused.Stopped commit) holds = omega arith
    first_not_legal (refused.Used commit) holds = omega arith
    first_not_legal (refused.Meets node) holds = omega arith
    first_not_legal (refused.Late stamp) holds = omega arith
    first_not_legal (refused.NotFlying commit) holds = omega arith
    first_not_legal (refused.NotOpened commit) holds = omega arith
    first_not_legal (refused.AlreadyOpened commit) holds = omega arith
    first_not_legal refused.NoMemory holds = omega arith

    pub not_legal : (HasDueAnswer is_flush reply entry → ⊥) → IsRefused (machine_of old) (event.Call entry) (refused.NotLegal reply)
    not_legal differs = record { holds = (λ may. differs (answered may), due_now); first = first_not_legal }

    none_holds : HasDueAnswer is_flush reply entry → (why : Refused) → Refuses (machine_of old) (event.Call entry) why → ⊥
    none_holds right refused.Crashed holds = no_true (sym running ∙ holds)
    none_holds right (refused.NotNext want) holds = holds.0 stamped
    none_holds right (refused.NotLegal other) holds = holds.0 (may_come right)
    none_holds right (refused.Stopped commit) holds = no_true holds.0
    none_holds right (refused.Used commit) holds = holds
    none_holds right (refused.Meets node) holds = holds
    none_holds right (refused.Late stamp) holds = holds
    none_holds right (refused.NotFlying commit) holds = none_some holds
    none_holds right (refused.NotOpened commit) holds = no_true holds.0
    none_holds right (refused.AlreadyOpened commit) holds = holds
    none_holds right refused.NoMemory holds = holds

    pub takes_call : HasDueAnswer is_flush reply entry → (new : KeptState) → new ≡ record old { entries = old.entries ++ entry ∷ [] }
        → Accepts (machine_of old) (event.Call entry) (machine_of new)
    takes_call right new is = record {
      free = none_holds right;
      moves = (may_come right, ap machine_of is);
    }
