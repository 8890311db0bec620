-- Calls that are no fsyncs leave a core of a volume and its pen in agreement.
use Rattle.std.proofs.Common.{◌≡◌, ◌∷◌, ◌∙◌, List, [], Bool, true, false, refl, sym, ap}
use Rattle.std.specs.Prelude.{filter, filter_map, cond}
use Rattle.std.specs.List.{cons_option}
use Rattle.tree_laws.specs.declared.history.Entry.{Entry}
use Rattle.stamp_table.specs.declared.event.Event.{Event}
use Rattle.stamp_table.specs.declared.event.Event.TheVariants.{Called, Told}
use Rattle.stamp_table.specs.Answered.{asks_fsync}
use Rattle.mem_values.specs.Account.{commit_told}
use Rattle.mem_values.specs.Start.{FileHand, FileState}
use Rattle.mem_values.specs.declared.fact.Fact.{Fact}
use Rattle.stamp_table.specs.Table.{TableState}
use Rattle.disk_box.specs.Pens.{PenHand}
use Rattle.disk_box.specs.declared.key.BoxKey.{BoxKey}
use Rattle.flush_agrees.proofs.Growing.{other_calls_keep, same_fsyncs_keep_served}
use Rattle.workers.specs.Keeping.{KeepsFsyncs, is_of_fsync}
use Rattle.mount.specs.Workers.{AgreeAt}

-- a call tells no commit, whether fsyncs bring it or not
by_call : (asks : Bool) (entry : Entry) (events : List (Event Fact)) → filter_map commit_told (filter is_of_fsync events) ≡ filter_map commit_told events
    → filter_map commit_told (cond asks (Called entry ∷ filter is_of_fsync events) (filter is_of_fsync events)) ≡ filter_map commit_told events
by_call true entry events same = same
by_call false entry events same = same

-- so the commits that events tell are told by those that fsyncs bring
commits_brought : (events : List (Event Fact)) → filter_map commit_told (filter is_of_fsync events) ≡ filter_map commit_told events
commits_brought [] = refl
commits_brought (Called entry ∷ events) = by_call (asks_fsync entry.call) entry events (commits_brought events)
commits_brought (Told core fact ∷ events) = ap (cons_option (commit_told (Told core fact))) (commits_brought events)

-- other calls leave them in agreement
pub pairs_kept : {D : Type 0} (shared : FileState) (set : TableState (BoxKey D)) (before after : FileHand) (pen : PenHand D) → KeepsFsyncs before after
    → AgreeAt shared set before pen → AgreeAt shared set after pen
pairs_kept {D = D} shared set before after pen keeps agrees = record {
  ready = agrees.ready;
  cores = agrees.cores;
  leads = λ first. agrees.leads (sym keeps.same.number ∙ first);
  fsyncs = agrees.fsyncs;
  agree = other_calls_keep D shared before after pen agrees.fsyncs
      (same_fsyncs_keep_served before after keeps.same.number
      (sym (commits_brought after.view.mine) ∙ (ap (filter_map commit_told) keeps.events ∙ commits_brought before.view.mine)) keeps.seen keeps.entries)
      agrees.agree;
}
