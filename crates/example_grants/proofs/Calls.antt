-- What the history of two writes and two fsyncs changes.
use Rattle.std.specs.FinMap.Entries.{put}
use Rattle.std.specs.FinMap.{empty, entries, entries-from_sorted, from_sorted, insert, entries-insert, same_entries_map, get-empty}
use Rattle.std.specs.Cmp.{nat_cmp_total}
use Rattle.std.specs.Option.{unwrap_or}
use Rattle.std.proofs.Common.{arith, ◌∷◌, ◌≡◌, ◌↔◌, ◌∙◌, if◌then◌else◌, ◌++◌, ◌&&◌, [], List, ℕ, nat_cmp, None, refl, Some, sym, ap, Option, true, false, not, fold, filter, map, subst, Bool, IsSome, IsTrue}
use Rattle.tree_laws.specs.Tree.{TreeState, Node, bytes_of, is_alive, is_directory}
use Rattle.tree_laws.specs.declared.history.Entry.{Entry}
use Rattle.tree_laws.specs.declared.reply.Reply.TheVariants as reply
use Rattle.tree_laws.specs.declared.reply.Code.{Code}
use Rattle.tree_laws.specs.declared.reply.Code.TheVariants.{NoEntry, IsDir}
use Rattle.tree_laws.specs.History.{IsLegal, IsLegalFrom, MayCome, IsDue, tree_after, tree_after_entry, is_ok_reply}
use Rattle.tree_laws.specs.Changes.{FileChange, changes_of, changes_by, edits_of, edits_by, is_edit_below, bytes_at}
use Rattle.tree_laws.specs.Verdict.{Verdict, verdict, or_else, answered, done, write_bytes, file_fault}
use Rattle.tree_laws.specs.Effect.{tree_with, edited, Edits, Puts, with_edit}
use Rattle.cut_laws.specs.Rules.{births_of, births_by}
use Rattle.cut_laws.specs.Cut.{tree_at_cut, rows_at_cut, with_own, is_within, nodes_at_cut, node_at_cut, cut_of}
use Rattle.example_grants.specs.Calls.{tree_holding, root_node, node_with, FIRST_TREE, own_write, other_write, own_file_flush, other_file_flush, WRITES_AND_FSYNCS}
use Rattle.example_grants.proofs.Tree.{nodes_listed, own_alive, other_alive, own_no_directory, other_no_directory, node_get, no_bytes}

-- the tree between the two writes, and behind them
abbrev pub MIDDLE_TREE : TreeState
MIDDLE_TREE = tree_holding (65 ∷ []) []

abbrev pub LAST_TREE : TreeState
LAST_TREE = tree_holding (65 ∷ []) (66 ∷ [])

-- what each call does
no_fault : (tree : TreeState) (file : ℕ) → is_alive tree file ≡ true → is_directory tree file ≡ false → file_fault tree file ≡ None
no_fault tree file alive no_directory =
    ap (λ b. if not b then Some NoEntry else (if is_directory tree file then Some IsDir else None)) alive
    ∙ ap (λ b. if b then Some IsDir else (let o : Option Code = None in o)) no_directory

own_writes : verdict FIRST_TREE 0 own_write.call ≡ done (Edits 1 (Puts 0 (65 ∷ [])))
own_writes = ap (λ (o : Option Code). or_else o (write_bytes 1 0 (65 ∷ []))) (no_fault FIRST_TREE 1 (own_alive [] []) (own_no_directory [] []))

other_writes : verdict MIDDLE_TREE 1 other_write.call ≡ done (Edits 2 (Puts 0 (66 ∷ [])))
other_writes =
    ap (λ (o : Option Code). or_else o (write_bytes 2 0 (66 ∷ [])))
    (no_fault MIDDLE_TREE 2 (other_alive (65 ∷ []) []) (other_no_directory (65 ∷ []) []))

own_flushes : verdict LAST_TREE 0 own_file_flush.call ≡ answered reply.Ok
own_flushes = ap (λ b. or_else (if not b then Some NoEntry else None) (answered reply.Ok)) (own_alive (65 ∷ []) (66 ∷ []))

other_flushes : verdict LAST_TREE 1 other_file_flush.call ≡ answered reply.Ok
other_flushes = ap (λ b. or_else (if not b then Some NoEntry else None) (answered reply.Ok)) (other_alive (65 ∷ []) (66 ∷ []))

-- the trees behind them
nodes_put : (own other : List ℕ) (node : ℕ) (bytes : List ℕ) (later : List (ℕ × Node)) → put nat_cmp node (node_with bytes) (nodes_listed own other) ≡ later
    → entries (from_sorted {R = nat_cmp} later) ≡ later → insert (tree_holding own other).nodes node (node_with bytes) ≡ from_sorted later
nodes_put own other node bytes later is sorted =
    same_entries_map _ _
    (entries-insert nat_cmp_total (tree_holding own other).nodes node (node_with bytes)
    ∙ ap (put nat_cmp node (node_with bytes)) (entries-from_sorted nat_cmp (nodes_listed own other) tt) ∙ is ∙ sym sorted)

pub own_step : tree_after_entry FIRST_TREE own_write ≡ MIDDLE_TREE
own_step =
    ap (λ (v : Verdict). tree_with FIRST_TREE 0 v.effect v.makes) own_writes
    ∙ ap (λ (o : Option Node). record FIRST_TREE { nodes = with_edit FIRST_TREE.nodes 1 (Puts 0 (65 ∷ [])) o }) (node_get [] [] 1)
    ∙ ap (λ nodes. record FIRST_TREE { nodes = nodes })
    (nodes_put [] [] 1 (65 ∷ []) (nodes_listed (65 ∷ []) []) refl (entries-from_sorted nat_cmp (nodes_listed (65 ∷ []) []) tt))

pub other_step : tree_after_entry MIDDLE_TREE other_write ≡ LAST_TREE
other_step =
    ap (λ (v : Verdict). tree_with MIDDLE_TREE 1 v.effect v.makes) other_writes
    ∙ ap (λ (o : Option Node). record MIDDLE_TREE { nodes = with_edit MIDDLE_TREE.nodes 2 (Puts 0 (66 ∷ [])) o }) (node_get (65 ∷ []) [] 2)
    ∙ ap (λ nodes. record MIDDLE_TREE { nodes = nodes })
    (nodes_put (65 ∷ []) [] 2 (66 ∷ []) (nodes_listed (65 ∷ []) (66 ∷ [])) refl (entries-from_sorted nat_cmp (nodes_listed (65 ∷ []) (66 ∷ [])) tt))

pub own_stays : tree_after_entry LAST_TREE own_file_flush ≡ LAST_TREE
own_stays = ap (λ (v : Verdict). tree_with LAST_TREE 0 v.effect v.makes) own_flushes

pub other_stays : tree_after_entry LAST_TREE other_file_flush ≡ LAST_TREE
other_stays = ap (λ (v : Verdict). tree_with LAST_TREE 1 v.effect v.makes) other_flushes

pub same_after : tree_after FIRST_TREE WRITES_AND_FSYNCS ≡ LAST_TREE
same_after =
    ap (λ t. tree_after t (other_write ∷ own_file_flush ∷ other_file_flush ∷ [])) own_step
    ∙ ap (λ t. tree_after t (own_file_flush ∷ other_file_flush ∷ [])) other_step
    ∙ ap (λ t. tree_after t (other_file_flush ∷ [])) own_stays ∙ other_stays

-- the history is legal
pub history_legal : IsLegal FIRST_TREE WRITES_AND_FSYNCS
history_legal = (
  record { stamped = refl; core = omega arith; due = sym (ap (λ (v : Verdict). v.reply) own_writes); acknowledged = (λ s. s, λ s. s) },
  subst (λ t. IsLegalFrom t 1 (other_write ∷ own_file_flush ∷ other_file_flush ∷ [])) (sym own_step) (
    record { stamped = refl; core = omega arith; due = sym (ap (λ (v : Verdict). v.reply) other_writes); acknowledged = (λ s. s, λ s. s) },
    subst (λ t. IsLegalFrom t 2 (own_file_flush ∷ other_file_flush ∷ [])) (sym other_step) (
      own_may,
      subst (λ t. IsLegalFrom t 3 (other_file_flush ∷ [])) (sym own_stays) (other_may, tt),
    ),
  ),
)
  where
    own_may : MayCome LAST_TREE 2 own_file_flush
    own_may = record {
      stamped = refl;
      core = omega arith;
      due = subst (λ (b : Bool). IsDue b (verdict LAST_TREE 0 own_file_flush.call).reply reply.Ok) (sym (own_alive (65 ∷ []) (66 ∷ []))) tt;
      acknowledged =
          subst (λ (b : Bool). IsSome {T = ℕ} (Some 13) ↔ IsTrue (b && is_ok_reply reply.Ok)) (sym (own_alive (65 ∷ []) (66 ∷ []))) (λ s. refl, λ s. refl);
    }

    other_may : MayCome LAST_TREE 3 other_file_flush
    other_may = record {
      stamped = refl;
      core = omega arith;
      due = subst (λ (b : Bool). IsDue b (verdict LAST_TREE 1 other_file_flush.call).reply reply.Ok) (sym (other_alive (65 ∷ []) (66 ∷ []))) tt;
      acknowledged =
          subst (λ (b : Bool). IsSome {T = ℕ} (Some 12) ↔ IsTrue (b && is_ok_reply reply.Ok)) (sym (other_alive (65 ∷ []) (66 ∷ []))) (λ s. refl, λ s. refl);
    }

-- What is told entry by entry of a history is what these effects tell.
module _ {X : Type 0} (tell : TreeState → ℕ → Verdict → List X) (all : TreeState → List Entry → List X) (none : (t : TreeState) → all t [] ≡ [])
    (more : (t : TreeState) (entry : Entry) (rest : List Entry)
    → all t (entry ∷ rest) ≡ tell t entry.stamp.0 (verdict t entry.core.0 entry.call) ++ all (tree_after_entry t entry) rest) where
  next : (t later : TreeState) (entry : Entry) (did : Verdict) (rest : List Entry) → verdict t entry.core.0 entry.call ≡ did
      → tree_after_entry t entry ≡ later → all t (entry ∷ rest) ≡ tell t entry.stamp.0 did ++ all later rest
  next t later entry did rest is step =
      more t entry rest ∙ ap (λ (v : Verdict). tell t entry.stamp.0 v ++ all (tree_after_entry t entry) rest) is
      ∙ ap (λ (s : TreeState). tell t entry.stamp.0 did ++ all s rest) step

  pub told_by : all FIRST_TREE WRITES_AND_FSYNCS
      ≡ tell FIRST_TREE 0 (done (Edits 1 (Puts 0 (65 ∷ [])))) ++ (tell MIDDLE_TREE 1 (done (Edits 2 (Puts 0 (66 ∷ []))))
      ++ (tell LAST_TREE 2 (answered reply.Ok) ++ (tell LAST_TREE 3 (answered reply.Ok) ++ [])))
  told_by =
      next FIRST_TREE MIDDLE_TREE own_write _ (other_write ∷ own_file_flush ∷ other_file_flush ∷ []) own_writes own_step
      ∙ ap (λ l. tell FIRST_TREE 0 (done (Edits 1 (Puts 0 (65 ∷ [])))) ++ l)
      (next MIDDLE_TREE LAST_TREE other_write _ (own_file_flush ∷ other_file_flush ∷ []) other_writes other_step
      ∙ ap (λ l. tell MIDDLE_TREE 1 (done (Edits 2 (Puts 0 (66 ∷ [])))) ++ l)
      (next LAST_TREE LAST_TREE own_file_flush _ (other_file_flush ∷ []) own_flushes own_stays
      ∙ ap (λ l. tell LAST_TREE 2 (answered reply.Ok) ++ l)
      (next LAST_TREE LAST_TREE other_file_flush _ [] other_flushes other_stays ∙ ap (λ l. tell LAST_TREE 3 (answered reply.Ok) ++ l) (none LAST_TREE))))

-- no row comes or goes, and no node is made
pub nothing_changes : changes_of FIRST_TREE WRITES_AND_FSYNCS ≡ []
nothing_changes = told_by (λ t stamp v. changes_by t stamp v.effect) changes_of (λ t. refl) (λ t entry rest. refl)

pub nothing_is_born : births_of FIRST_TREE WRITES_AND_FSYNCS ≡ []
nothing_is_born = told_by (λ t stamp v. births_by stamp v.effect v.makes) births_of (λ t. refl) (λ t entry rest. refl)

-- each file gets its byte
abbrev pub OWN_EDIT : FileChange
OWN_EDIT = record { stamp = 0; file = 1; edit = Puts 0 (65 ∷ []) }

abbrev pub OTHER_EDIT : FileChange
OTHER_EDIT = record { stamp = 1; file = 2; edit = Puts 0 (66 ∷ []) }

pub two_edits : edits_of FIRST_TREE WRITES_AND_FSYNCS ≡ OWN_EDIT ∷ OTHER_EDIT ∷ []
two_edits = told_by (λ t stamp v. edits_by stamp v.effect) edits_of (λ t. refl) (λ t entry rest. refl)

bytes_by : ℕ → ℕ → List ℕ → List FileChange → List ℕ
bytes_by file stamp bytes edits = fold (λ bytes (change : FileChange). edited change.edit bytes) bytes (filter (is_edit_below file stamp) edits)

-- what a file has at a stamp
pub bytes_then : (file stamp : ℕ)
    → bytes_at FIRST_TREE WRITES_AND_FSYNCS file stamp
    ≡ fold (λ bytes (change : FileChange). edited change.edit bytes) [] (filter (is_edit_below file stamp) (OWN_EDIT ∷ OTHER_EDIT ∷ []))
unfolding bytes_by
bytes_then file stamp =
    ap (bytes_by file stamp (bytes_of FIRST_TREE file)) two_edits
    ∙ ap (λ bytes. bytes_by file stamp bytes (OWN_EDIT ∷ OTHER_EDIT ∷ [])) (no_bytes file)

pub own_bytes : bytes_at FIRST_TREE WRITES_AND_FSYNCS 1 2 ≡ 65 ∷ []
own_bytes = bytes_then 1 2

pub other_bytes : bytes_at FIRST_TREE WRITES_AND_FSYNCS 2 3 ≡ 66 ∷ []
other_bytes = bytes_then 2 3

pub no_cut : (node : ℕ) → cut_of empty node ≡ 0
no_cut node = ap (λ (o : Option ℕ). unwrap_or o 0) (get-empty nat_cmp node)

pub first_bytes : (node : ℕ) → bytes_at FIRST_TREE WRITES_AND_FSYNCS node (cut_of empty node) ≡ []
first_bytes node = ap (bytes_at FIRST_TREE WRITES_AND_FSYNCS node) (no_cut node) ∙ bytes_then node 0

-- and its rows are the first ones
pub same_rows : rows_at_cut FIRST_TREE WRITES_AND_FSYNCS empty ≡ FIRST_TREE.rows
same_rows = ap (λ l. fold with_own FIRST_TREE.rows (filter (is_within empty) l)) nothing_changes

-- at the cut 0 the tree is the first one
pub same_at_cut : tree_at_cut FIRST_TREE WRITES_AND_FSYNCS empty ≡ FIRST_TREE
same_at_cut = λ i. record {
  rows = same_rows i;
  nodes = nodes i;
  first = 3;
  share = 1;
  made = (ap (λ (t : TreeState). t.made) same_after) i;
}
  where
    entries_then : entries (tree_after FIRST_TREE WRITES_AND_FSYNCS).nodes ≡ nodes_listed (65 ∷ []) (66 ∷ [])
    entries_then = ap (λ (t : TreeState). entries t.nodes) same_after ∙ entries-from_sorted nat_cmp (nodes_listed (65 ∷ []) (66 ∷ [])) tt

    three : List ℕ → List ℕ → List ℕ → List (ℕ × Node)
    three root own other = (0, record root_node { bytes = root }) ∷ (1, node_with own) ∷ (2, node_with other) ∷ []

    nodes : nodes_at_cut FIRST_TREE WRITES_AND_FSYNCS empty ≡ FIRST_TREE.nodes
    nodes =
        ap (λ l. from_sorted {R = nat_cmp} (map (node_at_cut FIRST_TREE WRITES_AND_FSYNCS empty) l)) entries_then
        ∙ ap (λ bytes. from_sorted {R = nat_cmp} (three bytes (bytes_at FIRST_TREE WRITES_AND_FSYNCS 1 (cut_of empty 1))
        (bytes_at FIRST_TREE WRITES_AND_FSYNCS 2 (cut_of empty 2)))) (first_bytes 0)
        ∙ ap (λ bytes. from_sorted {R = nat_cmp} (three [] bytes (bytes_at FIRST_TREE WRITES_AND_FSYNCS 2 (cut_of empty 2)))) (first_bytes 1)
        ∙ ap (λ bytes. from_sorted {R = nat_cmp} (three [] [] bytes)) (first_bytes 2)
