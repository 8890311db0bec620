-- In each state of a run the cut is closed, and directories with an inode are born.
use Rattle.std.proofs.Common.{ℕ, zero, suc, ◌≤◌, List, [], ◌∷◌, ◌++◌, length, take, sym, ap, subst, arith}
use Rattle.std.proofs.Math.Seq.{take-append_seam}
use Rattle.tree_laws.specs.declared.history.Entry.{Entry}
use Rattle.tree_laws.specs.Tree.{TreeState}
use Rattle.tree_laws.specs.History.{IsLegal}
use Rattle.tree_laws.specs.Laws.{IsSoundTree}
use Rattle.cut_laws.specs.declared.event.Event.{Event}
use Rattle.cut_laws.specs.declared.event.Event.TheVariants as event
use Rattle.cut_laws.specs.Cut.{cut_of}
use Rattle.cut_laws.specs.Closure.{Flush}
use Rattle.cut_laws.specs.Machine.{MachineState, start_of, flushes_kept_by, IsRaisedBy, Accepts}
use Rattle.cut_laws.specs.Runs.{IsRun}
use Rattle.cut_laws.specs.Laws.{RunsKeep}
use Rattle.cut_laws.proofs.Closed.{closed_cuts_are_sound}
use Rattle.cut_laws.proofs.Lists.{first_kept_well}
use Rattle.cut_laws.proofs.RunFacts.{IsSteady, steady_at, event_there}
use Rattle.cut_laws.proofs.Grows.{IsKeptWell, kept_whole, nodes_whole, flushes_keep, rows_at_cut-take}

-- what is kept of a state
abbrev pub IsKeptIn : TreeState → MachineState → Type 0
IsKeptIn first state = IsKeptWell first state.history state.cut state.inodes

module _ (first : TreeState) (is : IsSoundTree first) where
  start_kept : IsKeptIn first (start_of first)
  start_kept = first_kept_well first [] is tt

  -- a call leaves what was kept
  call_keeps : (old : MachineState) (entry : Entry) → IsLegal first (old.history ++ entry ∷ []) → ((node : ℕ) → cut_of old.cut node ≤ length old.history)
      → IsKeptIn first old → IsKeptWell first (old.history ++ entry ∷ []) old.cut old.inodes
  call_keeps old entry legal low was =
      let before : IsKeptWell first (take (length old.history) (old.history ++ entry ∷ [])) old.cut old.inodes =
      rw (take-append_seam old.history (entry ∷ [])) was in
      record {
        nodes = nodes_whole first (old.history ++ entry ∷ []) is legal (length old.history) old.inodes before.nodes;
        held = record {
          kept = kept_whole first (old.history ++ entry ∷ []) is legal (length old.history) old.cut old.inodes low before.nodes before.held.kept;
          named = λ node row. before.held.named node (rw (rows_at_cut-take first (old.history ++ entry ∷ []) (length old.history) old.cut legal low) row);
        };
      }

  -- so do raises
  raise_keeps : (old raised : MachineState) (flushes : List Flush) → IsSteady first old → IsRaisedBy old flushes raised → IsKeptIn first old
      → IsKeptIn first raised
  raise_keeps old raised flushes steady by was =
      subst (λ (h : List Entry). IsKeptWell first h raised.cut raised.inodes) (sym (ap (λ (s : MachineState). s.history) by.others))
      (flushes_keep first old.history is steady.legal (rw steady.start at by.raised) was)

  -- an event keeps it
  kept_step : (old : MachineState) (e : Event) (new : MachineState) → Accepts old e new → IsSteady first old → IsSteady first new → IsKeptIn first old
      → IsKeptIn first new
  kept_step old (event.Call entry) new takes steady after was =
      rw takes.moves.1 (call_keeps old entry (rw takes.moves.1 at after.legal) steady.cuts was)
  kept_step old (event.CutAt commit node stamp) new takes steady after was = rw takes.moves.2 was
  kept_step old (event.Opened commit) new takes steady after was = rw takes.moves was
  kept_step old (event.Durable commit) new takes steady after was =
      rw takes.moves.4 (raise_keeps old takes.moves.1 (takes.moves.0.flush ∷ []) steady takes.moves.3 was)
  kept_step old (event.Fail commit) new takes steady after was = rw takes.moves was
  kept_step old (event.Crash kept) new takes steady after was =
      rw takes.moves.2 (raise_keeps old takes.moves.0 (flushes_kept_by old kept.items) steady takes.moves.1 was)

  -- each state of a run is kept
  pub kept_at : (events : List Event) (states : ℕ → MachineState) → IsRun first events states → (place : ℕ) → place ≤ length events
      → IsKeptIn first (states place)
  kept_at events states run zero le = rw run.begins start_kept
  kept_at events states run (suc place) le =
      let there = event_there events place (omega arith) in
      kept_step (states place) there.0 (states (suc place)) (run.steps place there.0 there.1) (steady_at first events states run place (omega arith))
      (steady_at first events states run (suc place) le) (kept_at events states run place (omega arith))

pub runs_keep : RunsKeep
runs_keep first events states place flushes cut inodes is run le raised =
    let legal = (steady_at first events states run place le).legal in
    let all = flushes_keep first (states place).history is legal raised (kept_at first is events states run place le) in
    record {
      kept = all.held.kept;
      sound = closed_cuts_are_sound first (states place).history cut is legal all.held.kept.closed;
      named = all.held.named;
      nodes = all.nodes;
    }
