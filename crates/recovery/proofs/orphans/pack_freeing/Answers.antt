-- A transaction that frees inodes ascends as these do.
use Rattle.std.proofs.Common.{◌≡◌, ◌<◌, ℕ, false, nat_eq, List, [], ◌∷◌, map, length, sym, ap, subst, ◌∙◌, arith}
use Rattle.std.specs.List.Sorted.{IsStrictlyIncreasing}
use Rattle.sfs_base.proofs.BasicTruth.{false_not_true}
use Rattle.sfs_base.specs.Lists.{Roomy}
use Rattle.fmt_journal.specs.declared.tx.TxBlock.{TxBlock}
use Rattle.fmt_journal.specs.declared.tx.TxRecord.{TxRecord}
use Rattle.journal_one.specs.Packed.{record_entry, block_of}
use Rattle.recovery.proofs.Unlinked.{free_numbers, free_entries, none_ascend}
use Rattle.recovery.proofs.orphans.pack_freeing.Goals as goal

pub invariant_of-tx : goal.invariant_of-tx
invariant_of-tx c = record {
  records_ascend = subst IsStrictlyIncreasing
      (sym
      (ap (λ (l : Roomy TxRecord). map (λ (r : TxRecord). r.inode) l.items) c.from_vec.ensures
      ∙ ap (map (λ (r : TxRecord). r.inode)) c.in_ok-free_records.ensures ∙ free_numbers c.args.inodes.now))
      c.requires;
  blocks_ascend = none_ascend c.new-2.result.items (ap (λ (l : Roomy ℕ). l.items) c.new-2.ensures);
  inodes_ascend = none_ascend c.new-3.result.items (ap (λ (l : Roomy ℕ). l.items) c.new-3.ensures);
}

some_there : (inodes : List ℕ) → false ≡ nat_eq (length inodes) 0 → 0 < length inodes
some_there [] none = absurd (false_not_true none)
some_there (inode ∷ rest) some = omega arith

pub returns : goal.returns
returns c =
    let entries =
    ap (λ (l : Roomy TxRecord). map record_entry l.items) c.from_vec.ensures ∙ ap (map record_entry) c.in_ok-free_records.ensures
    ∙ free_entries c.args.inodes.now in
    let fresh = ap (λ (l : Roomy TxBlock). map block_of l.items) c.new.ensures in
    (some_there c.args.inodes.now c.if-is_empty.ensures, c.in_ok-new.ensures ∙ (λ i. record { entries = entries i; fresh = fresh i }))
