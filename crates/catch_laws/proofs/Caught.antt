-- What was caught is gathered by notes.
use Rattle.std.proofs.Common.{◌≡◌, ◌<◌, ℕ, Bool, true, false, List, length, map, Option, Some, None, refl, sym, ap, ◌∙◌, subst}
use Rattle.std.specs.Prelude.{is_some, if◌then◌else◌}
use Rattle.sfs_base.specs.Listed.{is_listed}
use Rattle.tree_laws.specs.NameRow.{node_number}
use Rattle.disk_nodes.specs.OldKept.{OldKept}
use Rattle.flush_plan.specs.Concerned.{IsConcernOf}
use Rattle.mem_values.specs.Start.{FileHand}
use Rattle.mem_values.specs.Account.{account_of}
use Rattle.mem_values.specs.Stands.{Flushed, flushed_in}
use Rattle.mem_values.specs.declared.cell.Pending.{Pending}
use Rattle.mem_values.proofs.Writers.{root_is_kept}
use Rattle.mem_calls.specs.Held.{pending_held}
use Rattle.note_laws.proofs.Along.{lawful_begin}
use Rattle.made_laws.specs.Made.{CoreMaking, GathersSeen, HasGathered, is_concerned, inode_gathered}
use Rattle.fsync_catch.specs.Catch.{IsCaught, saw_of}
use Rattle.fsync_catch.specs.declared.looking.Caught.{Caught}
use Rattle.fsync_catch.specs.declared.looking.WaitingFsync.{WaitingFsync}
use Rattle.catch_laws.specs.Laws.{Further, making_of, IsGatheredFor, CaughtAreGathered}

module _ (given : ℕ → Option OldKept) (nodes : ℕ) (fsync : WaitingFsync) (hand : FileHand) (caught : Caught) (further : Further)
    (root : is_some (given 0) ≡ true) (some_core : 0 < length hand.view.first.made) (is : IsCaught given nodes fsync hand caught) where
  abbrev making : CoreMaking
  making = making_of is.look.noted caught further

  -- what was seen of a node that is concerned is what is held of it
  saw_held : (node : ℕ) → is_concerned making node ≡ true → is.look.noted.pending node ≡ pending_held nodes hand.held (record { 0 = node })
  saw_held node concerned =
      ap (λ (f : ℕ → Option Pending). f node) is.look.saw
      ∙ ap (λ b. if b then pending_held nodes hand.held (record { 0 = node }) else None) concerned

  seen : (node : ℕ) → is_concerned making node ≡ true → (value : Pending) × GathersSeen making node value
  seen node concerned = let one = is.look.gathers.each node concerned in (
    one.value,
    record { seen = saw_held node concerned ∙ one.held; cut = one.cut; inode = one.inode; born = one.born },
  )

  -- the root keeps its inode
  root_has : is_concerned making 0 ≡ true → inode_gathered making 0 ≡ true
  root_has concerned =
      let saw = seen 0 concerned in
      let part = is.look.notes.each 0 some_core in
      let lawful = lawful_begin given hand.view.first (is.look.noted.notes 0).at part.rest hand.view.seen part.whole is.look.lawful in
      saw.1.inode
      ∙ ap (λ (f : Flushed). is_some f.old) (part.stands 0 saw.0 saw.1.seen).flushed
      ∙ root_is_kept given hand.view.first (is.look.noted.notes 0).at root lawful

  gathered_for : IsGatheredFor given nodes fsync hand caught further
  gathered_for = record {
    noted = is.look.noted;
    core_is = is.look.core_is;
    node_is = is.look.node_is;
    stamp_is = is.look.stamp_is;
    saw = is.look.saw;
    notes = is.look.notes;
    gathers = record {
      orderly = is.look.orderly;
      merged = is.look.merged;
      seen = seen;
      others = is.look.gathers.other_cuts;
      root = root_has;
    };
    concern_is = subst (λ n. IsConcernOf (record { 0 = n }) (record { 0 = is.look.noted.stamp }) caught.gathered caught.concern) (sym is.look.node_is)
        (subst (λ n. IsConcernOf fsync.node (record { 0 = n }) caught.gathered caught.concern) (sym is.look.stamp_is) is.look.concern_is);
  }

pub caught_are_gathered : CaughtAreGathered
caught_are_gathered given nodes fsync hand caught further root some_core is = gathered_for given nodes fsync hand caught further root some_core is
