-- A call that fits each tree that its core may meet may be stamped.
use Rattle.std.proofs.Common.{◌≡◌, ◌<◌, ℕ, Bool, true, false, ◌&&◌, List, [], ◌∷◌, ◌++◌, length, Option, Some, None, IsSome, inl, inr, refl, sym, subst, arith}
use Rattle.std.specs.Prelude.{◌↔◌, IsTrue}
use Rattle.tree_laws.specs.declared.call.Call.{Call}
use Rattle.tree_laws.specs.declared.reply.Reply.{Reply}
use Rattle.tree_laws.specs.declared.history.Entry.{Entry}
use Rattle.tree_laws.specs.Tree.{TreeState}
use Rattle.tree_laws.specs.History.{tree_after, tree_after_entry, flushes, is_ok_reply, MayCome, IsLegal}
use Rattle.tree_laws.specs.Laws.{IsSoundTree}
use Rattle.tree_laws.proofs.Histories.{IsLegal-push}
use Rattle.tree_laws.proofs.Cores.{cores_stay}
use Rattle.disk_nodes.specs.OldKept.{OldKept}
use Rattle.stamp_table.specs.declared.event.Event.{Event}
use Rattle.stamp_table.specs.declared.event.Event.TheVariants.{Called}
use Rattle.stamp_table.specs.declared.view.View.{View}
use Rattle.stamp_table.specs.declared.held.HeldCell.{HeldCell}
use Rattle.stamp_table.specs.Rule.{Has}
use Rattle.stamp_table.specs.Steps.{IsPast}
use Rattle.stamp_table.specs.Events.{event_core, is_call, calls_in, IsLawful, stands_for}
use Rattle.stamp_table.specs.Table.{entry_numbered}
use Rattle.stamp_table.proofs.Calling.{calls_snoc, MayFollow, may_follow}
use Rattle.mem_values.specs.declared.fact.Fact.{Fact}
use Rattle.mem_values.specs.declared.cell.Cell.{Cell}
use Rattle.mem_values.specs.declared.cell.Cell.TheVariants as cell
use Rattle.mem_values.specs.declared.cell_id.CellId.{CellId}
use Rattle.mem_values.specs.declared.cell_id.CellId.TheVariants as id
use Rattle.mem_values.specs.Account.{Account, account_of}
use Rattle.mem_values.specs.Stands.{StandsForCell, StandsAt}
use Rattle.mem_values.specs.Facts.{IsLawfulLog}
use Rattle.mem_values.specs.Laws.{ShowsCell, ShowCells, KnowsCell, KnowsCells, CallFits, MayMeet, CallsMayCome}
use Rattle.mem_values.proofs.Lawful.{lawful_push}
use Rattle.mem_values.proofs.Moves.{sound_after}
use Rattle.mem_values.proofs.Keeping.{calls_keep_cells}

-- what has no acknowledgement needs none
unacknowledged : (ack : Option ℕ) (b : Bool) → ack ≡ None → b ≡ false → IsSome ack ↔ IsTrue b
unacknowledged None false none not = ((λ is. is), (λ is. absurd (cc (is))))
unacknowledged None true none not = absurd (cc (not))
unacknowledged (Some x) b none not = absurd (cc (none))

-- the first number and the share stay
pub first_stays : (first : TreeState) (history : List Entry) → (tree_after first history).first ≡ first.first
first_stays first [] = refl
first_stays first (e ∷ history) = first_stays (tree_after_entry first e) history

pub share_stays : (first : TreeState) (history : List Entry) → (tree_after first history).share ≡ first.share
share_stays first [] = refl
share_stays first (e ∷ history) = share_stays (tree_after_entry first e) history

-- a value that stands for a cell shows it
pub shows : (given : ℕ → Option OldKept) (first : TreeState) (account : Account) (which : CellId) (value : Cell) → StandsForCell given first account which value
    → ShowsCell (tree_after first account.calls) which value
shows given first account id.Lock (cell.Lock lock) stood = tt
shows given first account id.Lock (cell.Bucket b) stood = tt
shows given first account id.Lock (cell.File f) stood = tt
shows given first account id.Lock (cell.Pending p) stood = tt
shows given first account id.Lock (cell.Part p) stood = tt
shows given first account (id.Bucket node number) (cell.Lock lock) stood = tt
shows given first account (id.Bucket node number) (cell.Bucket b) stood = stood
shows given first account (id.Bucket node number) (cell.File f) stood = tt
shows given first account (id.Bucket node number) (cell.Pending p) stood = tt
shows given first account (id.Bucket node number) (cell.Part p) stood = tt
shows given first account (id.File node) (cell.Lock lock) stood = tt
shows given first account (id.File node) (cell.Bucket b) stood = tt
shows given first account (id.File node) (cell.File f) stood = (stood.links, stood.bytes)
shows given first account (id.File node) (cell.Pending p) stood = tt
shows given first account (id.File node) (cell.Part p) stood = tt
shows given first account (id.Pending node) (cell.Lock lock) stood = tt
shows given first account (id.Pending node) (cell.Bucket b) stood = tt
shows given first account (id.Pending node) (cell.File f) stood = tt
shows given first account (id.Pending node) (cell.Pending p) stood = tt
shows given first account (id.Pending node) (cell.Part p) stood = tt
shows given first account (id.Part core) (cell.Lock lock) stood = tt
shows given first account (id.Part core) (cell.Bucket b) stood = tt
shows given first account (id.Part core) (cell.File f) stood = tt
shows given first account (id.Part core) (cell.Pending p) stood = tt
shows given first account (id.Part core) (cell.Part p) stood = stood.made

module _ (given : ℕ → Option OldKept) (view : View TreeState (Event Fact)) (log : List (Event Fact))
    (past : IsPast event_core is_call (IsLawful (IsLawfulLog given)) (stands_for (StandsAt given)) view log) where
  -- what a core knows of a cell stands in each history that it may meet
  pub still_stands : (known : HeldCell Cell) → KnowsCell given view known → StandsAt given view.first log known.place known.value
  still_stands known knows = past.held known.place (Some known.value) knows.holds knows.stood

  pub all_show : (cells : List (HeldCell Cell)) → KnowsCells given view cells → ShowCells view.first (tree_after view.first (calls_in log)) cells
  all_show [] knows = tt
  all_show (known ∷ cells) knows =
      ((λ which is at. shows given view.first (account_of log) which known.value (still_stands known knows.0 which is at)), all_show cells knows.1)

  pub met : (cells : List (HeldCell Cell)) → IsSoundTree view.first → KnowsCells given view cells → MayMeet view cells (tree_after view.first (calls_in log))
  met cells sound knows = record {
    sound = sound_after view.first 0 (calls_in log) sound past.legal_log.legal_calls;
    first = first_stays view.first (calls_in log);
    share = share_stays view.first (calls_in log);
    cores = cores_stay view.first (calls_in log);
    shows = all_show cells knows;
  }

  module _ (c : Call) (reply : Reply) (sound : IsSoundTree view.first) (core : view.core < length view.first.made)
      (fits : CallFits view (tree_after view.first (calls_in log)) c reply) where
    abbrev entry : Entry
    entry = entry_numbered view.core c reply (length (calls_in log))

    comes : MayCome (tree_after view.first (calls_in log)) (length (calls_in log)) entry
    comes = record {
      stamped = refl;
      core = let stay = cores_stay view.first (calls_in log) in omega (arith, core, stay);
      due = fits.due;
      acknowledged = unacknowledged None (flushes (tree_after view.first (calls_in log)) c && is_ok_reply reply) refl fits.unanswered;
    }

    legal_next : IsLegal view.first (calls_in (log ++ Called entry ∷ []))
    legal_next = subst (λ l. IsLegal view.first l) (sym (calls_snoc log entry)) (IsLegal-push view.first (calls_in log) entry past.legal_log.legal_calls comes)

    kept : (place : ℕ) (value : Cell) → (Has view.held place → ⊥) → StandsAt given view.first log place value
        → StandsAt given view.first (log ++ Called entry ∷ []) place value
    kept place value not stood which is at = elim (fits.keeps which is) [
      | inl keeps ↦ calls_keep_cells given view.first log entry which value sound legal_next keeps (stood which is at)
      | inr has ↦ absurd (not (subst (λ p. Has view.held p) at has))
    ]

    pub follows : MayFollow (IsLawfulLog given) (StandsAt given) view log entry
    follows = record {
      may_come = comes;
      told = lawful_push given view.first log (Called entry) past.legal_log.told tt;
      keeps = kept;
    }

pub calls_may_come : CallsMayCome
calls_may_come given view cells c reply sound core knows fits log past =
    may_follow (IsLawfulLog given) (StandsAt given) view (entry_numbered view.core c reply) log past
    (follows given view log past c reply sound core (fits (tree_after view.first (calls_in log)) (met given view log past cells sound knows)))
