-- A core that has copied the logs and then seen the history so far notes each of them.
use Rattle.std.proofs.Common.{◌≡◌, ℕ, ◌^◌, ◌-◌, ◌≤◌, length, sym, ap, ◌∙◌, subst}
use Rattle.std.specs.Prelude.{All}
use Rattle.tree_laws.specs.History.{IsLegal}
use Rattle.tree_laws.specs.Tree.{TreeState}
use Rattle.stamp_table.specs.declared.event.Event.{Event}
use Rattle.stamp_table.specs.declared.view.View.{View}
use Rattle.stamp_table.specs.Events.{calls_in}
use Rattle.stamp_table.specs.Table.{Looked}
use Rattle.stamp_table.proofs.Calling.{stamps_are_calls}
use Rattle.mem_values.specs.Start.{FileHand, FileState}
use Rattle.mem_values.specs.declared.fact.Fact.{Fact}
use Rattle.mem_values.specs.Facts.{IsLawfulLog}
use Rattle.mem_values.specs.Stands.{StandsAt}
use Rattle.mem_calls.specs.Table.{IsFileTable}
use Rattle.mem_calls.specs.Working.{IsWorking}
use Rattle.fsync_look.specs.Look.{IsBelow, AreCopies, HoldsNodes, SawMore}
use Rattle.fsync_look.proofs.Copied.{saw_again}
use Rattle.fsync_gather.specs.Gathers.{IsHeldOf}
use Rattle.fsync_catch.specs.Catch.{HasItsFsync}
use Rattle.fsync_catch.proofs.Noted.{Copying, IsCopying, copies_later}
use Rattle.fsync_catch.proofs.Going.{looked_saw, looked_works, holds_on, all_held}

-- A core works, has copied all logs and works on, and has seen the history so far after that.
pub record LooksAfterCopies (s : Copying) (t : FileState) (mid : FileHand) (number : ℕ) : Type 0 where
  pub work : IsWorking s.given t s.before
  pub still : IsWorking s.given t mid
  pub copies : AreCopies s.given s.nodes (length t.first.made) s.list s.before mid s.copies
  pub saw : SawMore s.before mid
  pub looked : Looked (IsLawfulLog s.given) (StandsAt s.given) mid number s.after
  pub waits : HasItsFsync s.before s.fsync
  pub within : All (IsBelow s.nodes) s.list
  pub few : number ≤ 2 ^ 64 - 1

module _ (s : Copying) (t : FileState) (mid : FileHand) (number : ℕ) (is : LooksAfterCopies s t mid number) where
  first_mid : mid.view.first ≡ s.before.view.first
  first_mid = ap (λ (v : View TreeState (Event Fact)). v.first) is.saw.view

  pub saws : SawMore s.before s.after
  saws = saw_again s.before mid s.after is.saw (looked_saw s.given t mid number s.after is.looked)

  pub works : IsWorking s.given t s.after
  works = looked_works s.given t mid number s.after is.looked is.still

  -- what it held it holds still
  pub hold_still : IsFileTable t s.nodes → HoldsNodes s.nodes s.list s.before → All (IsHeldOf s.nodes s.after.held) s.list
  hold_still table holds = all_held s.given t s.nodes s.list s.after table works (holds_on s.nodes s.list s.before s.after saws holds) is.within

  pub copying : IsCopying s
  copying = record {
    copies = copies_later s.given s.nodes (length s.before.view.first.made) s.list s.before mid s.after s.copies is.looked.saw.seen
        (subst (λ (f : TreeState). AreCopies s.given s.nodes (length f.made) s.list s.before mid s.copies) (sym is.work.first) is.copies);
    saw = saws;
    legal = subst (λ f. IsLegal f (calls_in s.after.view.seen)) first_mid is.looked.saw.legal_seen.legal_calls;
    lawful = subst (λ f. IsLawfulLog s.given f s.after.view.seen) first_mid is.looked.saw.legal_seen.told;
    waits = is.waits;
    within = is.within;
    few = subst (λ n. n ≤ 2 ^ 64 - 1) (is.looked.saw.number_is ∙ stamps_are_calls s.after.view.seen) is.few;
  }
