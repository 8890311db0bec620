-- A node is made in a legal history exactly where the tree after it has the node and the first tree has not.
use Rattle.std.proofs.Common.{◌≡◌, ℕ, suc, List, [], ◌∷◌, Option, Some, None, IsSome, inl, inr, refl, sym, ap, ◌∙◌, arith}
use Rattle.std.specs.FinMap.{get}
use Rattle.sfs_base.specs.declared.numbers.Kind.{Kind}
use Rattle.tree_laws.specs.declared.history.Entry.{Entry}
use Rattle.tree_laws.specs.Tree.{TreeState, Node, next_number}
use Rattle.tree_laws.specs.Effect.{Effect, Stays, Adds, Removes, Moves, Edits, edited, with_edit, tree_with}
use Rattle.tree_laws.specs.Verdict.{Verdict, verdict}
use Rattle.tree_laws.specs.Changes.{added}
use Rattle.tree_laws.specs.Fits.{Fits}
use Rattle.tree_laws.specs.History.{tree_after, tree_after_entry, IsLegalFrom, IsLegal}
use Rattle.tree_laws.specs.Laws.{IsSoundTree}
use Rattle.tree_laws.proofs.KeepsNodes.{node_cases}
use Rattle.tree_laws.proofs.RowFacts.{alive_named}
use Rattle.tree_laws.proofs.SoundTrees.{calls_keep_sound, calls_fit}
use Rattle.cut_laws.specs.Rules.{IsOneOf, Birth, births_by, births_of}
use Rattle.cut_laws.specs.LawsInodes.{BirthsAreNewNodes, IsNeverNamed, InodesAreNamed}
use Rattle.cut_laws.proofs.Basics.{in_left, in_right}
use Rattle.cut_laws.proofs.Along.{node_first, run_of, nodes_at, change_in}
use Rattle.cut_laws.proofs.Commit.{birth_at}
use Rattle.cut_laws.proofs.Lists.{lists_keep}
use Rattle.cut_laws.proofs.Lives.{no_node_yet, is_node_now}

-- a birth of a node among some
abbrev HasBirthIn : List Birth → ℕ → Type 0
HasBirthIn births node = (birth : Birth) × IsOneOf births birth × (birth.node ≡ node)

no_node : {P : Type 0} {o : Option Node} → o ≡ None → IsSome o → P
no_node e some = cc

-- a node that an effect brings is made by it
made_by_effect : (tree : TreeState) (core stamp : ℕ) (effect : Effect) (makes : Option Kind) (x : ℕ) → Fits tree core effect makes → get tree.nodes x ≡ None
    → IsSome (get (tree_with tree core effect makes).nodes x) → HasBirthIn (births_by stamp effect makes) x
made_by_effect tree core stamp Stays None x f lacks some = no_node lacks some
made_by_effect tree core stamp (Adds d n c) None x f lacks some = no_node lacks some
made_by_effect tree core stamp (Removes d n c) None x f lacks some = no_node lacks some
made_by_effect tree core stamp (Moves p n q m c) None x f lacks some = no_node lacks some
made_by_effect tree core stamp Stays (Some kind) x f lacks some = absurd f
made_by_effect tree core stamp (Removes d n c) (Some kind) x f lacks some = absurd f
made_by_effect tree core stamp (Moves p n q m c) (Some kind) x f lacks some = absurd f
made_by_effect tree core stamp (Edits file edit) (Some kind) x f lacks some = absurd f
made_by_effect tree core stamp (Adds d n c) (Some kind) x f lacks some =
    elim (node_cases tree.nodes (next_number tree core) (record { kind = kind; bytes = [] }) x) [
      | inl here ↦ (record { stamp = stamp; directory = d; node = c }, inl refl, f.number ∙ sym here.0)
      | inr other ↦ no_node (other.1 ∙ lacks) some
    ]
made_by_effect tree core stamp (Edits file edit) None x f lacks some =
    elim (get tree.nodes file) as (λ o. get tree.nodes file ≡ o → IsSome (get (with_edit tree.nodes file edit o) x)
    → HasBirthIn (births_by stamp (Edits file edit) None) x) [
      | None ↦ λ _ there. no_node lacks there
      | Some node ↦ λ e there. elim (node_cases tree.nodes file (record node { bytes = edited edit node.bytes }) x) [
        | inl here ↦ no_node (sym (ap (get tree.nodes) here.0) ∙ lacks) (rw e refl)
        | inr other ↦ no_node (other.1 ∙ lacks) there
      ]
    ] refl some

born_in : (first : TreeState) (history : List Entry) (stamp node : ℕ) → IsSoundTree first → IsLegalFrom first stamp history → get first.nodes node ≡ None
    → IsSome (get (tree_after first history).nodes node) → HasBirthIn (births_of first history) node
born_in first [] stamp node is legal lacks some = no_node lacks some
born_in first (entry ∷ history) stamp node is legal lacks some =
    elim (get next.nodes node) as (λ o. get next.nodes node ≡ o → HasBirthIn (births_of first (entry ∷ history)) node) [
      | None ↦ λ still.
          let rest = born_in next history (suc stamp) node (calls_keep_sound first entry.core.0 entry.call is legal.0.core) legal.1 still some in
          (rest.0, in_right (births_by entry.stamp.0 v.effect v.makes) (births_of next history) rest.0 rest.1, rest.2)
      | Some n ↦ λ came.
          let here =
          made_by_effect first entry.core.0 entry.stamp.0 v.effect v.makes node (calls_fit first entry.core.0 entry.call is legal.0.core) lacks
          (rw came refl) in
          (here.0, in_left (births_by entry.stamp.0 v.effect v.makes) (births_of next history) here.0 here.1, here.2)
    ] refl
  where
    v : Verdict
    v = verdict first entry.core.0 entry.call

    next : TreeState
    next = tree_after_entry first entry

is_new : (first : TreeState) (history : List Entry) (node : ℕ) → IsSoundTree first → IsLegal first history → HasBirthIn (births_of first history) node
    → IsSome (get (tree_after first history).nodes node) × (get first.nodes node ≡ None)
is_new first history node is legal found =
    let birth = found.0 in
    let born = birth_at first history birth legal found.1 in
    let run = run_of first history is legal in (
      (nodes_at first history (suc birth.stamp) is legal node
          (rw found.2 at (is_node_now run birth.stamp birth.directory born.name birth.node born.kind born.adds born.made))).0,
      not_some (get first.nodes node)
          (λ some. no_node_yet run birth.stamp birth.directory born.name birth.node born.kind born.adds born.made 0 (omega arith)
          (node_first first history birth.node (rw found.2 some))),
    )
  where
    not_some : (o : Option Node) → (IsSome o → ⊥) → o ≡ None
    not_some None h = refl
    not_some (Some n) h = absurd (h refl)

pub births_are_new_nodes : BirthsAreNewNodes
births_are_new_nodes first history node is legal = (is_new first history node is legal, λ both. born_in first history 0 node is legal both.1 both.0)

-- a node that is made is named by the change that makes it
made_named : (first : TreeState) (history : List Entry) (node : ℕ) → IsLegal first history → HasBirthIn (births_of first history) node
    → IsNeverNamed first history node → ⊥
made_named first history node legal found never =
    let birth = found.0 in
    let born = birth_at first history birth legal found.1 in
    let naming = added birth.stamp birth.directory born.name birth.node None in
    never.changes naming (change_in first history birth.stamp naming legal (rw born.adds (inl refl))) found.2

pub inodes_are_named : InodesAreNamed
inodes_are_named first history flushes cut inodes node is legal alive flushed has never =
    elim (get first.nodes node) as (λ o. get first.nodes node ≡ o → node ≡ 0) [
      | None ↦
          λ lacks. absurd
          (made_named first history node legal
          (born_in first history 0 node is legal lacks ((lists_keep first history flushes cut inodes is legal flushed).nodes node has)) never)
      | Some n ↦ λ there. elim (alive_named first node (alive node (rw there refl))) [
        | inl root ↦ root
        | inr named ↦ absurd (never.rows (record { directory = named.directory; name = named.name; row = named.row }))
      ]
    ] refl
