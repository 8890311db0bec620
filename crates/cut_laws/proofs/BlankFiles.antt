-- A file without an inode was never flushed, or is dead; so one that gets an inode was blank.
use Rattle.std.proofs.Common.{◌≡◌, ℕ, Bool, true, false, List, [], Option, Some, None, is_some, option_map, ◌⊎◌, inl, inr, refl, ap, ◌∙◌, ◌&&◌, nat_eq, arith}
use Rattle.std.specs.Prelude.{fold}
use Rattle.std.specs.Option.{unwrap_or, option_map_or}
use Rattle.std.specs.Ordering.{nat_cmp}
use Rattle.std.specs.FinMap.{get, get-empty}
use Rattle.tree_laws.specs.declared.history.Entry.{Entry}
use Rattle.tree_laws.specs.Tree.{TreeState, Node, is_directory, bytes_of}
use Rattle.tree_laws.specs.Effect.{edited}
use Rattle.tree_laws.specs.Changes.{FileChange, is_edit_below, edits_of, bytes_at}
use Rattle.tree_laws.specs.History.{tree_after, IsLegal}
use Rattle.tree_laws.specs.Laws.{IsSoundTree}
use Rattle.cut_laws.specs.Cut.{Cut, cut_of, tree_at_cut}
use Rattle.cut_laws.specs.Closure.{every_entry, Flush, IsDead, none, one_more, AreFlushed}
use Rattle.cut_laws.specs.LawsInodes.{FilesEnterBlank}
use Rattle.cut_laws.proofs.Basics.{filter_none}
use Rattle.sfs_base.proofs.BasicNumbers.{not_below}
use Rattle.sfs_base.proofs.BasicTruth.{not_both}
use Rattle.cut_laws.proofs.CutNodes.{node_at_cut_is}
use Rattle.cut_laws.proofs.MemberKinds.{member_directory}
use Rattle.cut_laws.proofs.KeptInodes.{settles, dead_after, entered_lives}

-- A node that is none of the first tree has the stamp 0.
record IsFresh (first : TreeState) (cut : Cut) (node : ℕ) : Type 0 where
  stamp : cut_of cut node ≡ 0
  new : get first.nodes node ≡ None

fresh_or_dead : (first : TreeState) (history : List Entry) → IsSoundTree first → IsLegal first history → {flushes : List Flush} {cut : Cut} {inodes : ℕ → Bool}
    → AreFlushed first history every_entry flushes cut inodes → (node : ℕ) → is_directory (tree_after first history) node ≡ false → inodes node ≡ false
    → IsFresh first cut node ⊎ IsDead first history every_entry cut node
fresh_or_dead first history is legal none node file lacks =
    inl (record { stamp = ap (λ (o : Option ℕ). unwrap_or o 0) (get-empty nat_cmp node); new = not_there (get first.nodes node) lacks })
  where
    not_there : (o : Option Node) → is_some o ≡ false → o ≡ None
    not_there None e = refl
    not_there (Some n) e = cc
fresh_or_dead first history is legal (one_more flushes flush before raised inodes after earlier raise sets) node file lacks =
    elim (inodes node) as (λ b. inodes node ≡ b → IsFresh first raised node ⊎ IsDead first history every_entry raised node) [
      | true ↦ λ had. inr ((sets.leaves node had).0 lacks).1
      | false ↦ λ lacked. elim (fresh_or_dead first history is legal earlier node file lacked) [
        | inr dead ↦ inr (dead_after first history before raised inodes after flush is legal raise sets node dead)
        | inl fresh ↦ elim (raise.other node) [
          | inr same ↦ inl (record { stamp = same ∙ fresh.stamp; new = fresh.new })
          | inl own ↦ elim (member_directory first history is legal every_entry before inodes flush own) [
            | inr directory ↦ absurd (not_both directory file)
            | inl itself ↦ elim (settles first history before raised inodes after flush is legal raise sets (rw itself at file)) [
              | inl has ↦ absurd (not_both (rw itself has) lacks)
              | inr dead ↦ inr (rw itself dead)
            ]
          ]
        ]
      ]
    ] refl

-- at the stamp 0 a node that is none of the first tree has no bytes
no_bytes : (first : TreeState) (history : List Entry) (cut : Cut) (node : ℕ) → IsFresh first cut node → bytes_of (tree_at_cut first history cut) node ≡ []
no_bytes first history cut node fresh =
    ap (λ (o : Option Node). option_map_or (λ (n : Node). n.bytes) o []) (node_at_cut_is first history cut node)
    ∙ given (get (tree_after first history).nodes node)
  where
    nothing_below : (x : FileChange) → is_edit_below node 0 x ≡ false
    nothing_below x = ap (λ b. b && nat_eq x.file node) (not_below x.stamp 0 (omega arith))

    at_zero : bytes_at first history node 0 ≡ []
    at_zero =
        ap (λ (l : List FileChange). fold (λ bytes change. edited change.edit bytes) (bytes_of first node) l)
        (filter_none (is_edit_below node 0) (edits_of first history) (λ x one. nothing_below x))
        ∙ ap (λ (o : Option Node). option_map_or (λ (n : Node). n.bytes) o []) fresh.new

    given : (o : Option Node)
        → option_map_or (λ (n : Node). n.bytes) (option_map (λ (n : Node). record n { bytes = bytes_at first history node (cut_of cut node) }) o) [] ≡ []
    given None = refl
    given (Some n) = ap (bytes_at first history node) fresh.stamp ∙ at_zero

pub files_enter_blank : FilesEnterBlank
files_enter_blank first history flushes cut raised inodes after flush node is legal flushed raise sets file lacked has =
    elim (fresh_or_dead first history is legal flushed node file lacked) [
      | inl fresh ↦ record { stamp = fresh.stamp; bytes = no_bytes first history cut node fresh }
      | inr dead ↦
          absurd
          (entered_lives first history cut raised inodes after flush is legal raise sets node lacked has
          (dead_after first history cut raised inodes after flush is legal raise sets node dead))
    ]
