-- What becomes of files by a plan that changes none, or the one of its own node.
use Rattle.std.proofs.Common.{◌≡◌, ◌≢◌, ℕ, zero, suc, ◌*◌, ◌<◌, ◌≤◌, true, false, cond, List, [], ◌∷◌, length, take, Option, Some, None, IsSome, inl, inr, refl, sym, ap, subst, ◌∙◌, arith, nat_eq, Contains}
use Rattle.std.specs.Prelude.{◌⊎◌, is_some}
use Rattle.std.specs.FinMap.{get}
use Rattle.std.specs.Option.{option_map_or}
use borrow.Author.Tests.{eqb-true}
use Rattle.sfs_base.proofs.BasicNumbers.{same_number, not_less}
use Rattle.sfs_base.proofs.BasicOptions.{some_not_none, some_is_no_none, none_there}
use Rattle.sfs_base.proofs.BasicTruth.{not_both}
use Rattle.tree_laws.specs.declared.history.Entry.{Entry}
use Rattle.tree_laws.specs.Changes.{bytes_at}
use Rattle.tree_laws.specs.History.{tree_after, IsLegal}
use Rattle.tree_laws.specs.Laws.{IsSoundTree}
use Rattle.tree_laws.specs.Tree.{TreeState, Node, bytes_of}
use Rattle.tree_laws.proofs.FileHistories.{bytes_at-tree_after}
use Rattle.image_laws.specs.Stands.{BLOCK_BYTES}
use Rattle.commit_laws.specs.CommitOfPlan.{CommitPlan, has_inode_then}
use Rattle.commit_laws.specs.Rewritten.{has_page, bytes_in_block}
use Rattle.keyed_list.specs.Ascending.{AscendBy, item_with}
use Rattle.disk_change.specs.Nodes.{file_node}
use Rattle.disk_change.specs.Pages.{page_block}
use Rattle.disk_change.specs.declared.files.FileChange.{FileChange}
use Rattle.cut_laws.specs.Cut.{Cut, cut_of, tree_at_cut}
use Rattle.cut_laws.proofs.Along.{tree_at-after, nodes_at}
use Rattle.cut_laws.proofs.CutNodes.{cuts_keep_kinds, files_are_cut}
use Rattle.flush_laws.specs.Planned.{HasFiles}
use Rattle.mark_laws.specs.Changed.{HasShortFiles, ChangesFile}

-- a node that a tree has not has no bytes
none_no_bytes : (tree : TreeState) (node : ℕ) → get tree.nodes node ≡ None → bytes_of tree node ≡ []
none_no_bytes tree node none = ap (λ (o : Option Node). option_map_or (λ n. n.bytes) o []) none

-- In the tree at a cut each number has its bytes at its own stamp, also one that is no node's.
pub bytes_are_cut : (first : TreeState) (history : List Entry) (cut : Cut) (node : ℕ) → IsSoundTree first → IsLegal first history
    → bytes_of (tree_at_cut first history cut) node ≡ bytes_at first history node (cut_of cut node)
bytes_are_cut first history cut node is legal = by (get (tree_after first history).nodes node) refl
  where
    stamp : ℕ
    stamp = cut_of cut node

    by : (o : Option Node) → get (tree_after first history).nodes node ≡ o
        → bytes_of (tree_at_cut first history cut) node ≡ bytes_at first history node (cut_of cut node)
    by (Some n) e = files_are_cut first history cut node (subst IsSome (sym e) refl)
    by None e =
        none_no_bytes (tree_at_cut first history cut) node (none_there _ (λ some. lacks (((cuts_keep_kinds first history cut).nodes node).0 some)))
        ∙ sym
        (bytes_at-tree_after first history node (cut_of cut node) is legal
        ∙ none_no_bytes (tree_after first (take (cut_of cut node) history)) node (none_there _ (λ some.
        lacks
        (nodes_at first history (cut_of cut node) is legal node
        (subst (λ (t : TreeState). IsSome (get t.nodes node)) (sym (tree_at-after first history (cut_of cut node))) some)).0)))
      where
        lacks : IsSome (get (tree_after first history).nodes node) → ⊥
        lacks some = some_is_no_none some e

module _ (old new : TreeState) (nodes : List ℕ) (plan : CommitPlan) (short : HasShortFiles new) where
  -- a plan without changes of files, where all bytes of files stay that then have an inode
  pub no_file_leads : plan.files ≡ [] → ((node : ℕ) → has_inode_then plan node ≡ true → bytes_of new node ≡ bytes_of old node) → HasFiles nodes old new plan
  no_file_leads none same = record {
    sizes = λ one there. nothing one there;
    others = λ node held _. same node held;
    ascend = λ one there. nothing one there;
    pages = λ one there. nothing one there;
    untouched = λ node n _ held _. ap (bytes_in_block n) (same node held);
    ends = λ node n among held had gone. absurd (not_less had (subst (λ l. length l ≤ BLOCK_BYTES * n) (same node held) gone));
    short = short;
  }
    where
      nothing : {P : Type 0} (one : FileChange) → Contains plan.files one → P
      nothing one there = absurd (by (subst (λ l. Contains l one) none there))
        where
          by : Contains [] one → ⊥
          by (k, within, is) = omega arith

  -- a plan with the change of one file, where all other bytes stay
  module _ (start : ℕ) (one : FileChange) (is : plan.files ≡ one ∷ []) (own : one.node.0 ≡ start)
      (changes : ChangesFile (bytes_of old start) (bytes_of new start) one)
      (same : (node : ℕ) → node ≢ start → bytes_of new node ≡ bytes_of old node) where
    only : (x : FileChange) → Contains plan.files x → one ≡ x
    only x there = by (subst (λ l. Contains l x) is there)
      where
        by : Contains (one ∷ []) x → one ≡ x
        by (zero, within, same) = same
        by (suc k, within, same) = absurd (omega arith)

    found : (node : ℕ) → item_with file_node node plan.files ≡ cond (nat_eq start node) (Some one) None
    found node = ap (item_with file_node node) is ∙ ap (λ n. cond (nat_eq n node) (Some one) None) own

    own_found : item_with file_node start plan.files ≡ Some one
    own_found = found start ∙ ap (λ b. cond b (Some one) None) (same_number start)

    -- the pages of its node are those of the one change
    own_pages : (n : ℕ) → has_page plan.files start n ≡ is_some (item_with page_block n one.pages.items)
    own_pages n = ap (λ (o : Option FileChange). is_some (item_with page_block n (option_map_or (λ (c : FileChange). c.pages.items) o []))) own_found

    abbrev Case : ℕ → Type 0
    Case node = (node ≡ start) ⊎ (node ≢ start)

    which : (node : ℕ) → Case node
    which node = elim (nat_eq node start) as (λ b. nat_eq node start ≡ b → Case node) [
      | true ↦ λ e. inl (eqb-true node start e)
      | false ↦ λ e. inr (λ same. not_both (subst (λ n. nat_eq node n ≡ true) same (same_number node)) e)
    ] refl

    other_bytes : (node : ℕ) → item_with file_node node plan.files ≡ None → bytes_of new node ≡ bytes_of old node
    other_bytes node none = elim (which node) [
      | inl here ↦ absurd (some_not_none (sym own_found ∙ ap (λ n. item_with file_node n plan.files) (sym here) ∙ none))
      | inr apart ↦ same node apart
    ]

    still : (node n : ℕ) → has_page plan.files node n ≡ false → bytes_in_block n (bytes_of new node) ≡ bytes_in_block n (bytes_of old node)
    still node n none = elim (which node) [
      | inr apart ↦ ap (bytes_in_block n) (same node apart)
      | inl here ↦
          subst (λ m. bytes_in_block n (bytes_of new m) ≡ bytes_in_block n (bytes_of old m)) (sym here)
          (changes.untouched n (sym (own_pages n) ∙ ap (λ m. has_page plan.files m n) (sym here) ∙ none))
    ]

    cut_off : (node n : ℕ) → BLOCK_BYTES * n < length (bytes_of old node) → length (bytes_of new node) ≤ BLOCK_BYTES * n → has_page plan.files node n ≡ true
    cut_off node n had gone = elim (which node) [
      | inr apart ↦ absurd (not_less had (subst (λ l. length l ≤ BLOCK_BYTES * n) (same node apart) gone))
      | inl here ↦
          ap (λ m. has_page plan.files m n) here ∙ own_pages n
          ∙ changes.ends n (subst (λ m. BLOCK_BYTES * n < length (bytes_of old m)) here had) (subst (λ m. length (bytes_of new m) ≤ BLOCK_BYTES * n) here gone)
    ]

    pub own_file_leads : HasFiles nodes old new plan
    own_file_leads = record {
      sizes =
          λ x there. subst (λ (c : FileChange). c.size ≡ length (bytes_of new c.node.0)) (only x there)
          (changes.size ∙ ap (λ n. length (bytes_of new n)) (sym own));
      others = λ node _ none. other_bytes node none;
      ascend = λ x there. subst (λ (c : FileChange). AscendBy page_block c.pages.items) (only x there) changes.ascend;
      pages =
          λ x there page on. subst (λ n. page.bytes ≡ bytes_in_block page.block (bytes_of new n)) (sym own ∙ ap (λ (c : FileChange). c.node.0) (only x there))
          (changes.pages page (subst (λ (c : FileChange). Contains c.pages.items page) (sym (only x there)) on));
      untouched = λ node n _ _ none. still node n none;
      ends = λ node n _ _ had gone. cut_off node n had gone;
      short = short;
    }
