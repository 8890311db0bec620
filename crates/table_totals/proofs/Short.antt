-- No file comes to have more bytes than a file may have.
use Rattle.std.proofs.Common.{ℕ, suc, ◌≤◌, true, false, cond, List, [], ◌∷◌, length, sym, subst, nat_eq}
use Rattle.tree_laws.specs.declared.history.Entry.{Entry}
use Rattle.tree_laws.specs.Effect.{Effect, Stays, Adds, Removes, Moves, Edits, edited}
use Rattle.tree_laws.specs.History.{IsLegalFrom, IsLegal, tree_after, tree_after_entry}
use Rattle.tree_laws.specs.Laws.{IsSoundTree}
use Rattle.tree_laws.specs.Parts.{bytes_after}
use Rattle.tree_laws.specs.Tree.{TreeState, bytes_of}
use Rattle.tree_laws.specs.Verdict.{verdict}
use Rattle.tree_laws.proofs.SoundTrees.{calls_fit, calls_keep_sound}
use Rattle.tree_laws.proofs.FileHistories.{bytes_with}
use Rattle.tree_totals.specs.Totals.{LONGEST_FILE}
use Rattle.mark_laws.proofs.Short.{calls_keep_short}
use Rattle.table_totals.specs.Seen.{HasNoLongFile}

-- an effect leaves no file longer than one may be
abbrev KeepsShort : Effect → Type 0
KeepsShort (Edits file edit) = (bytes : List ℕ) → length bytes ≤ LONGEST_FILE → length (edited edit bytes) ≤ LONGEST_FILE
KeepsShort _ = Unit {0}

after_short : (effect : Effect) (node : ℕ) (bytes : List ℕ) → KeepsShort effect → length bytes ≤ LONGEST_FILE
    → length (bytes_after effect node bytes) ≤ LONGEST_FILE
after_short Stays node bytes keeps low = low
after_short (Adds d n c) node bytes keeps low = low
after_short (Removes d n c) node bytes keeps low = low
after_short (Moves p n q m c) node bytes keeps low = low
after_short (Edits file edit) node bytes keeps low =
    elim (nat_eq file node) as (λ b. length (cond b (edited edit bytes) bytes) ≤ LONGEST_FILE) [ true ↦ keeps bytes low | false ↦ low ]

short_from : (stamp : ℕ) (first : TreeState) (history : List Entry) → IsSoundTree first → IsLegalFrom first stamp history → HasNoLongFile first
    → HasNoLongFile (tree_after first history)
short_from stamp first [] sound legal short = short
short_from stamp first (entry ∷ history) sound legal short =
    let fits = calls_fit first entry.core.0 entry.call sound legal.0.core in
    let v = verdict first entry.core.0 entry.call in
    short_from (suc stamp) (tree_after_entry first entry) history (calls_keep_sound first entry.core.0 entry.call sound legal.0.core) legal.1
    (λ node. subst (λ l. length l ≤ LONGEST_FILE) (sym (bytes_with first entry.core.0 v.effect v.makes node fits))
    (after_short v.effect node (bytes_of first node) (calls_keep_short first entry.core.0 entry.call) (short node)))

pub short_after : (first : TreeState) (history : List Entry) → IsSoundTree first → IsLegal first history → HasNoLongFile first
    → HasNoLongFile (tree_after first history)
short_after first history sound legal short = short_from 0 first history sound legal short
