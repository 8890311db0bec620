-- What is read of the blocks of a node after a commit.
use Rattle.std.proofs.Common.{◌≡◌, ℕ, ◌<◌, true, false, cond, List, [], filter_map, Option, Some, is_some, inl, inr, sym, ap, subst, ◌∙◌, arith, nat_lt, nat_eq, Contains}
use Rattle.std.specs.Prelude.{◌⊎◌, slice_index_or}
use Rattle.std.specs.List.{range_with_len}
use Rattle.std.specs.Option.{option_map_or, unwrap_or}
use borrow.Author.Tests.{eqb-true}
use Rattle.std.proofs.lemmas.Bool.{cond-true, cases_Bool, eqb-false, lt-ltb}
use Rattle.std.proofs.lemmas.List.Elements.{Contains-append_left}
use Rattle.absorb.specs.declared.nets.NetRow.{NetRow}
use Rattle.sfs_image.specs.Bytes.{zeros}
use Rattle.sfs_image.specs.ImageOf.{FreshBlock}
use Rattle.sfs_image.specs.Inode.{inode_bytes}
use Rattle.sfs_image.specs.Part.{Part, read_block, pointer_at}
use Rattle.sfs_image.specs.Seen.{SeenInodes, FILE_BLOCKS}
use Rattle.sfs_image.proofs.Basics.{found_passes}
use Rattle.sfs_image.proofs.MadeLaws.{gathered_is_read}
use Rattle.sfs_image.proofs.PartLaws.{hole_is_read, block_behind}
use Rattle.tree_laws.specs.Tree.{TreeState}
use Rattle.fmt_journal.specs.declared.tx.TxBlock.{TxBlock}
use Rattle.image_laws.specs.Commit.{Commit}
use Rattle.image_laws.specs.Renamed.{Numbering}
use Rattle.journal_one.specs.Packed.{block_of}
use Rattle.block_map.specs.Changed.{change_of, AscendByBlock}
use Rattle.block_map.specs.Kept.{pointer_kept}
use Rattle.block_map.specs.Remap.{fresh_for}
use Rattle.block_map.specs.declared.changed.ChangedBlock.{ChangedBlock}
use Rattle.block_map.proofs.Left.{remapped_pointers_stand}
use Rattle.space_map.specs.Space.{GrantedNumbers}
use Rattle.disk_change.specs.AllBuilt.{numbers_with, nodes_with_grant, fresh_of_node, fresh_of_commit, pages_of_node}
use Rattle.disk_change.specs.Built.{Built, built, rewrite_in}
use Rattle.disk_change.specs.Fresh.{data_written, table_of_place, content_of}
use Rattle.disk_change.specs.Planned.{Planned}
use Rattle.disk_change.specs.Seated.{Begun, Seated, net_of_node}
use Rattle.disk_change.specs.declared.pages.Page.{Page}
use Rattle.disk_change.proofs.NumbersGiven.{planned_node}
use Rattle.commit_laws.specs.CommitOfPlan.{CommitPlan, change_planned, commit_of, image_planned, IsCommitPlan}
use Rattle.commit_laws.specs.PartsMade.{store_over, blocks_planned, part_made, IsPlanOverParts, store_planned}
use Rattle.commit_laws.specs.Ranked.{fresh_cut}
use Rattle.commit_laws.proofs.AllWritten.{IsCutFor, cut_of, data_given, written_data}
use Rattle.commit_laws.proofs.GrantWritten.{each_ascends, each_once, held_is_old, found_once, grant_for}
use Rattle.commit_laws.proofs.KnownDirectories.{given_is_in}
use Rattle.commit_laws.proofs.PartsMade.{gathered_itself, in_flat, pointer_is, meta_is, tables_are, over_fresh, over_old, pointer_after_is}
use Rattle.commit_laws.proofs.PlanShown.{IsBuiltNode}
use Rattle.commit_laws.proofs.SeatsOfPlan.{there_is_in, in_is_there, in_mapped}
use Rattle.commit_laws.proofs.Shown.{found_is_in}

-- What is built, its seat and what it began as are of one node.
pub record IsOneNode (one : Built) (seat : Seated) (begun : Begun) : Type 0 where
  pub seat_is : seat.node ≡ begun.node
  pub built_is : one.node ≡ begun.node

module _ (num : Numbering) (concerned : List ℕ) (old new : TreeState) (image : SeenInodes) (plan : CommitPlan) (grant : GrantedNumbers) (store : ℕ → List ℕ)
    (parts : ℕ → Part)
    (is : IsPlanOverParts num concerned old new image plan grant store parts) (one : Built)
    (there_one : Contains (nodes_with_grant (change_planned plan) grant) one)
    (node : IsBuiltNode num concerned old new image plan grant is.full one) where
  abbrev whole : IsCommitPlan num concerned old new image plan grant
  whole = is.full.sound.whole

  abbrev change : Planned
  change = change_planned plan

  abbrev commit : Commit
  commit = commit_of num concerned plan grant

  abbrev next : SeenInodes
  next = image_planned num concerned new image plan grant

  abbrev fresh : List FreshBlock
  fresh = blocks_planned plan grant

  abbrev i : ℕ
  i = node.of.inode

  abbrev begun : Begun
  begun = node.of.begun

  abbrev own : List ℕ
  own = fresh_cut change.seats grant.blocks node.m node.seat

  abbrev after : Part
  after = part_made store plan grant one

  abbrev net : List NetRow
  net = net_of_node plan.nets node.seat.node

  abbrev number : ℕ
  number = unwrap_or ((numbers_with change grant.inodes) node.seat.node) 0

  abbrev pages : List Page
  pages = pages_of_node plan.files node.seat.node

  pub one_node : IsOneNode one node.seat begun
  one_node =
      let seat = ap (λ (s : Seated). s.node) (sym node.of.begins) ∙ planned_node change.changes begun begun.kind in
      record { seat_is = seat; built_is = ap (λ (b : Built). b.node) node.is ∙ seat }

  -- the content of a block is read where its pointer points
  pub content_is : (n : ℕ) → n < FILE_BLOCKS → slice_index_or after.blocks n [] ≡ read_block (store_planned store plan grant) ((next.seen i).blocks n)
  content_is n low =
      sym (cond-true (nat_lt n FILE_BLOCKS) _ _ (lt-ltb n FILE_BLOCKS low))
      ∙ gathered_is_read (store_planned store plan grant) after n (gathered_itself (store_planned store plan grant) (inode_bytes one.meta)) (omega arith)
      ∙ ap (read_block (store_planned store plan grant))
      (pointer_after_is num concerned old new image plan grant store parts is one there_one node n (omega arith))

  pub block_is : (n : ℕ) → n < FILE_BLOCKS → (o : Option ChangedBlock) → change_of node.seat.changed n ≡ o
      → (next.seen i).blocks n
      ≡ cond (is_some o) (cond (option_map_or (λ (c : ChangedBlock). c.is_zero) o false) 0 (fresh_for (rewrite_in node.seat) own n))
      ((rewrite_in node.seat).pointers n)
  block_is n low o e =
      sym (pointer_is num concerned old new image plan grant store parts is one there_one node n (omega arith))
      ∙ (λ j. pointer_kept (meta_is num concerned old new image plan grant store parts is one there_one node j)
      (tables_are num concerned old new image plan grant store parts is one there_one node j) n)
      ∙ remapped_pointers_stand node.seat.meta node.seat.tables node.seat.changed own n (omega arith)
      ∙ cond-true (nat_lt n FILE_BLOCKS) _ _ (lt-ltb n FILE_BLOCKS low)
      ∙ ap (λ (o : Option ChangedBlock). cond (is_some o)
      (cond (option_map_or (λ (c : ChangedBlock). c.is_zero) o false) 0 (fresh_for (rewrite_in node.seat) own n)) ((rewrite_in node.seat).pointers n))
      e

  -- a block that was there is read as before
  pub old_read : (j n : ℕ) → j < image.count → n < FILE_BLOCKS
      → read_block (store_planned store plan grant) (pointer_at (parts j) n) ≡ slice_index_or (parts j).blocks n []
  old_read j n low_j low =
      by (cases_Bool (nat_eq (pointer_at (parts j) n) 0))
      ∙ sym (gathered_is_read store (parts j) n (is.standing.gathered j low_j) (omega arith)) ∙ cond-true (nat_lt n FILE_BLOCKS) _ _ (lt-ltb n FILE_BLOCKS low)
    where
      by : (nat_eq (pointer_at (parts j) n) 0 ≡ true) ⊎ (nat_eq (pointer_at (parts j) n) 0 ≡ false)
          → read_block (store_planned store plan grant) (pointer_at (parts j) n) ≡ read_block store (pointer_at (parts j) n)
      by (inl none) =
          hole_is_read (store_planned store plan grant) (pointer_at (parts j) n) (eqb-true _ 0 none)
          ∙ sym (hole_is_read store (pointer_at (parts j) n) (eqb-true _ 0 none))
      by (inr some) =
          block_behind (store_planned store plan grant) (pointer_at (parts j) n) (eqb-false _ 0 some)
          ∙ over_old num concerned old new image plan grant store parts is one there_one node (pointer_at (parts j) n)
          (held_is_old num concerned old new image plan grant store parts is j n low_j (omega arith))
          ∙ sym (block_behind store (pointer_at (parts j) n) (eqb-false _ 0 some))

  up : AscendByBlock node.seat.changed
  up = each_ascends num concerned old new image plan grant store parts is node.seat (there_is_in change.seats node.m node.seat node.at)

  cut : IsCutFor node.seat own
  cut = cut_of change.seats grant.blocks node.m node.seat node.at (grant_for num concerned old new image plan grant store parts is)

  -- a rewritten block that is all zeros is a hole, and another one has what is written to it
  module _ (n : ℕ) (low : n < FILE_BLOCKS) (c : ChangedBlock) (said : change_of node.seat.changed n ≡ Some c) where
    at_n : c.block ≡ n
    at_n = eqb-true c.block n (found_passes (λ (one : ChangedBlock). nat_eq one.block n) node.seat.changed c said)

    in_changed : Contains node.seat.changed c
    in_changed = found_is_in (λ (one : ChangedBlock). nat_eq one.block n) node.seat.changed c said

    pub zero_read : c.is_zero ≡ true → read_block (store_planned store plan grant) ((next.seen i).blocks n) ≡ zeros 4096
    zero_read empty =
        hole_is_read (store_planned store plan grant) _ (block_is n low (Some c) said ∙ ap (λ b. cond b 0 (fresh_for (rewrite_in node.seat) own n)) empty)

    abbrev tx : TxBlock
    tx = written_data (numbers_with change grant.inodes) net number own node.seat pages up cut.enough cut.some c

    pub data_read : c.is_zero ≡ false
        → read_block (store_planned store plan grant) ((next.seen i).blocks n)
        ≡ content_of (built (numbers_with change grant.inodes) net number own node.seat) pages n
    data_read full =
        let made_of : Built = built (numbers_with change grant.inodes) net number own node.seat in
        let place = in_is_there node.seat.changed c in_changed in
        let given =
        data_given (numbers_with change grant.inodes) net number own node.seat pages up cut.enough cut.some place.0 c place.1 full
        (subst (λ m. m < FILE_BLOCKS) (sym at_n) low) in
        let in_node : Contains (fresh_of_node plan.files made_of) tx =
        Contains-append_left (filter_map (data_written made_of pages) node.seat.changed) (filter_map (table_of_place made_of) (range_with_len 0 16)) tx
        (given_is_in (data_written made_of pages) node.seat.changed c tx in_changed given.1) in
        let in_fresh : Contains fresh (block_of tx) =
        in_mapped block_of (fresh_of_commit change grant) tx
        (in_flat (fresh_of_node plan.files) (nodes_with_grant change grant) one tx there_one
        (subst (λ (b : Built). Contains (fresh_of_node plan.files b) tx) (sym node.is) in_node)) in
        let pointer : (next.seen i).blocks n ≡ tx.block =
        sym (pointer_is num concerned old new image plan grant store parts is one there_one node n (omega arith))
        ∙ (λ j. pointer_kept (meta_is num concerned old new image plan grant store parts is one there_one node j)
        (tables_are num concerned old new image plan grant store parts is one there_one node j) (sym at_n j)) in
        ap (read_block (store_planned store plan grant)) pointer ∙ block_behind (store_planned store plan grant) tx.block given.0
        ∙ over_fresh num concerned old new image plan grant store parts is one there_one node (block_of tx) tx.block
        (found_once (λ (other : FreshBlock). other.block) fresh (each_once num concerned old new image plan grant store parts is) (block_of tx) in_fresh)
        ∙ ap (content_of made_of pages) at_n
