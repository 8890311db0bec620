-- The calls that the workers of a volume made, in the history that it leaves.
use Rattle.std.specs.Prelude.{OnErr, OnOk, filter, slice_get}
use Rattle.std.proofs.Common.{◌≡◌, ◌≤◌, ◌∷◌, ◌∙◌, ℕ, suc, List, [], length, cond, Some, Result, Ok, Err, inl, inr, refl, sym, ap, subst, arith}
use Rattle.std.proofs.lemmas.Bool.Decides.{eqb_tells}
use Rattle.std.proofs.lemmas.List.{length-map}
use Rattle.std.proofs.lemmas.Option.{slice_get_cases, slice_get_past}
use Rattle.sfs_dev.specs.Disk.{View}
use Rattle.tree_laws.specs.declared.history.Entry.{Entry}
use Rattle.tree_laws.specs.declared.turns.Turn.{Turn}
use Rattle.tree_laws.specs.History.{IsLegal, IsLegalFrom, tree_after_entry}
use Rattle.tree_laws.specs.Merged.{is_core}
use Rattle.tree_laws.specs.Tree.{TreeState}
use Rattle.tree_laws.proofs.Cores.{cores_after}
use Rattle.disk_box.specs.Pens.{PenHand}
use Rattle.workers.specs.Phases.{HasMadePhases, HasMadeSoFar, HasOwn}
use Rattle.workers.specs.declared.worker.Worker.{Worker}
use Rattle.mount.specs.Ends.{LeavesVolume}
use Rattle.mount.specs.Volume.{IsVolume}
use Rattle.mount.specs.Workers.{AreWorkers, core_of}
use Rattle.mount.specs.declared.volume.Volume.{Volume}
use Rattle.mount.specs.Phases.{entries_of, own_of}
use Rattle.script.specs.declared.commands.Line.{Line}
use Rattle.script.specs.Follows.{core_entries}
use Rattle.scalefs_run.specs.Ran.{HasCalls}

-- a legal history has no entry of a core that its tree does not have
no_entries : (tree : TreeState) (stamp core : ℕ) (history : List Entry) → IsLegalFrom tree stamp history → length tree.made ≤ core
    → core_entries core history ≡ []
no_entries tree stamp core [] legal past = refl
no_entries tree stamp core (entry ∷ history) legal past =
    let rest : core_entries core history ≡ [] =
    no_entries (tree_after_entry tree entry) (suc stamp) core history legal.1
    (subst (λ n. n ≤ core) (sym (cores_after tree entry.core.0 entry.call)) past)
    in
    elim (eqb_tells entry.core.0 core) [
      | inl is ↦ absurd (let low = legal.0.core in let same = is.1 in omega (arith, low, same, past))
      | inr is ↦ ap (λ b. cond b (entry ∷ core_entries core history) (core_entries core history)) is.0 ∙ rest
    ]

-- A history is legal from a tree on, and has the entries of each worker, of which there are as many as the tree has cores.
pub record IsOfWorkers {P : Type 0} (first : TreeState) (history : List Entry) (workers : List (Worker P)) : Type 0 where
  pub legal : IsLegal first history
  pub cores : length workers ≡ length first.made
  pub own : (core : ℕ) (worker : Worker P) → slice_get workers core ≡ Some worker → filter (is_core core) history ≡ worker.core.entries

-- so it has those of each core
pub has_own : {P : Type 0} (first : TreeState) (history : List Entry) (workers : List (Worker P)) → IsOfWorkers first history workers
    → HasOwn (own_of workers) history
has_own first history workers is core = elim (slice_get_cases workers core).1 [
  | inl found ↦ is.own core found.0 found.2 ∙ sym (ap entries_of found.2)
  | inr past ↦
      let cores = is.cores in
      let low = past.0 in
      no_entries first 0 core history is.legal (omega (arith, cores, low)) ∙ sym (ap entries_of (slice_get_past workers core past.0))
]

-- what is so behind an answer leads to more
pub on_ok : {V F : Type 0} {A B : Type 0} (answer : Result V F) → (A → B) → OnOk answer A → OnOk answer B
on_ok (Ok value) leads is = leads is
on_ok (Err fault) leads is = tt

pub on_err : {V F : Type 0} {A B : Type 0} (answer : Result V F) → (A → B) → OnErr answer A → OnErr answer B
on_err (Ok value) leads is = tt
on_err (Err fault) leads is = leads is

-- the calls of phases that were made are in the history
pub has_calls : {P V F : Type 0} (first : TreeState) (history : List Entry) (workers : List (Worker P)) (phases : List (List Line)) (ended : Result V F)
    → IsOfWorkers first history workers → OnOk ended (HasMadePhases first (own_of workers) phases)
    → OnErr ended (HasMadeSoFar first (own_of workers) phases) → HasCalls phases history ended
has_calls first history workers phases ended is ok err = record {
  ok = on_ok ended (λ made. made history is.legal (has_own first history workers is)) ok;
  err = on_err ended (λ made. made history is.legal (has_own first history workers is)) err;
}

-- the history that a volume leaves is of its workers
pub of_workers : {D : Type 0} (view : D → View) (volume : Volume D) (workers : List (Worker (PenHand D))) (left : D) (history : List Entry)
    (turns : List Turn) → IsVolume volume → AreWorkers volume workers → LeavesVolume view volume workers left history turns
    → IsOfWorkers volume.table.first history workers
of_workers view volume workers left history turns is are leaves = record {
  legal = leaves.legal;
  cores = sym (length-map workers core_of) ∙ (are.all.count ∙ (is.table_cores ∙ is.site.cores_are));
  own = leaves.own;
}
