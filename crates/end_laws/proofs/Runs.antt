-- All that cores see of the disk's nodes is well kept.
use Rattle.std.proofs.Common.{◌≡◌, ◌<◌, ◌++◌, ◌∙◌, ℕ, zero, suc, true, List, Option, None, Some, refl, sym, ap, subst, arith, Contains, filter_map}
use Rattle.std.proofs.lemmas.List.Elements.{filter_map-append}
use Rattle.sfs_base.proofs.BasicOptions.{none_some}
use Rattle.sfs_image.specs.Super.{Layout}
use Rattle.disk_nodes.specs.OldKept.{OldKept}
use Rattle.disk_nodes.specs.declared.old.OldEntry.{OldEntry}
use Rattle.disk_change.specs.AllBuilt.{entry_keyed}
use Rattle.cut_laws.specs.Rules.{IsOneOf}
use Rattle.cut_laws.proofs.Basics.{in_left}
use Rattle.stamp_table.specs.declared.event.Event.{Event}
use Rattle.mem_values.specs.Account.{Commitment, account_of, commit_told, held_by, last_writer}
use Rattle.mem_values.specs.Stands.{Flushed, flushed_by}
use Rattle.mem_values.specs.declared.cell.Pending.{Pending}
use Rattle.mem_values.specs.declared.fact.Fact.{Fact}
use Rattle.mem_values.specs.declared.fact.HeldNode.{HeldNode}
use Rattle.note_laws.specs.Run.{TableRun}
use Rattle.note_laws.proofs.Saws.{last_is_one}
use Rattle.made_laws.specs.Made.{CoreMaking, is_concerned, old_of, MadeEitherWay}
use Rattle.made_laws.specs.Tells.{last_of_seen}
use Rattle.end_laws.specs.Kept.{AreWellKept, IsWellKept}
use Rattle.end_laws.specs.Runs.{AreToldWell, IsGivenWell, RunsFreeNothing, RunsKeepWell}
use Rattle.end_laws.proofs.Frees.{mades_free_nothing}
use Rattle.end_laws.proofs.Left.{commits_leave_well}
use Rattle.end_laws.proofs.Making.{saw_old, SeesFlushed, sees_flushed, making_told}

-- what is told in the first part of a log is told in all of it
in_whole : (at rest log : List (Event Fact)) → at ++ rest ≡ log → (told : Commitment) → IsOneOf (account_of at).commits told
    → IsOneOf (account_of log).commits told
in_whole at rest log whole told there =
    subst (λ (l : List (Event Fact)). IsOneOf (account_of l).commits told) whole
    (subst (λ (l : List Commitment). IsOneOf l told) (sym (filter_map-append commit_told at rest))
    (in_left (account_of at).commits (filter_map commit_told rest) told there))

module _ (run : TableRun) (layout : Layout) (given : IsGivenWell run) (all : AreToldWell run layout) where
  -- what commits with numbers below a bound wrote is well kept
  abbrev AreWellBelow : ℕ → Type 0
  AreWellBelow bound = (told : Commitment) → IsOneOf (account_of run.log).commits told → told.number < bound → (node : ℕ) (held : HeldNode)
      → held_by told node ≡ Some held → (old : OldKept) → held.new ≡ Some old → IsWellKept old.kept

  -- What a core saw of a node: what was given, or what a commit wrote whose number it knew.
  seen_well : (bound : ℕ) → AreWellBelow bound → (node : ℕ) (value : Pending) → SeesFlushed run node value → value.last < bound → (old : OldKept)
      → value.old ≡ Some old → IsWellKept old.kept
  seen_well bound below node value sees few old is = by (last_writer node (account_of sees.at).commits) refl
    where
      by : (o : Option (Commitment × HeldNode)) → last_writer node (account_of sees.at).commits ≡ o → IsWellKept old.kept
      by None none =
          let same = sees.flushed ∙ ap (flushed_by run.given node) none in
          given node old (sym (ap (λ (f : Flushed). f.old) same) ∙ is)
      by (Some writer) one =
          let same = sees.flushed ∙ ap (flushed_by run.given node) one in
          let there = last_is_one node (account_of sees.at).commits writer one in
          let number : value.last ≡ writer.0.number = ap (λ (f : Flushed). f.last) same in
          below writer.0 (in_whole sees.at sees.rest run.log sees.whole writer.0 there.0) (omega (arith, number, few)) node writer.1 there.1 old
          (sym (ap (λ (f : Flushed). f.old) same) ∙ is)

  -- so what a core made something of is well kept, where it knew of commits below a bound
  made_well : (bound : ℕ) → AreWellBelow bound → (making : CoreMaking) → MadeEitherWay run making
      → (entry : OldEntry) → Contains making.old entry → last_of_seen (making.noted.pending entry.node.0) < bound → IsWellKept entry.old.kept
  made_well bound below making made entry there few = by (making.noted.pending entry.node.0) refl
    where
      one : (is_concerned making entry.node.0 ≡ true) × (old_of (making.noted.pending entry.node.0) ≡ Some entry.old)
      one = saw_old run making made entry there

      by : (o : Option Pending) → making.noted.pending entry.node.0 ≡ o → IsWellKept entry.old.kept
      by None none = absurd (none_some (sym (ap old_of none) ∙ one.1))
      by (Some value) saw =
          let sees = sees_flushed run making made entry.node.0 value one.0 saw in
          seen_well bound below entry.node.0 value sees
          (subst (λ (o : Option Pending). last_of_seen o < bound) saw few) entry.old (sym (ap old_of saw) ∙ one.1)

  all_below : (bound : ℕ) → AreWellBelow bound
  all_below zero told there low node held holds old is = absurd (omega (arith, low))
  all_below (suc bound) told there low node held holds old is =
      let one = all told there in
      let made = one.made in
      let core = making_told run made.making told one.tells.tells in
      let number = one.tells.number_is in
      let well : AreWellKept made.making.old = λ entry kept.
      let concerned = (saw_old run made.making core entry kept).0 in
      let less = one.above entry.node.0 concerned in
      made_well bound (all_below bound) made.making core entry kept (omega (arith, less, number, low)) in
      commits_leave_well run layout made core well one.granted (entry_keyed (node, old)) ((one.tells.wrote node held holds old).0 is)

  pub run_well : (making : CoreMaking) → MadeEitherWay run making → AreWellKept making.old
  run_well making made entry there =
      let bound = suc (last_of_seen (making.noted.pending entry.node.0)) in
      made_well bound (all_below bound) making made entry there (omega arith)

pub runs_keep_well : RunsKeepWell
runs_keep_well run layout making given all made = run_well run layout given all making made

pub runs_free_nothing : RunsFreeNothing
runs_free_nothing run layout made given all core = mades_free_nothing run made core (runs_keep_well run layout made.making given all core)
