-- What a core made, by its notes or by its own file, is one thing.
use Rattle.std.proofs.Common.{◌≡◌, ◌∙◌, ◌∷◌, ◌++◌, ap, length, arith, sym, List, ℕ, nat_eq, map, [], true, inl, inr, eqb-true, Bool, refl, false, Contains, subst, zero, suc, Some}
use Rattle.sfs_base.specs.declared.numbers.NodeId.{NodeId}
use Rattle.sfs_base.specs.Listed.{is_listed}
use Rattle.sfs_base.proofs.BasicOptions.{some_same}
use Rattle.sfs_base.proofs.BasicNumbers.{same_number}
use Rattle.tree_laws.specs.Tree.{TreeState}
use Rattle.tree_laws.specs.declared.history.Entry.{Entry}
use Rattle.tree_laws.specs.NameRow.{node_number}
use Rattle.disk_nodes.specs.declared.old.OldEntry.{OldEntry}
use Rattle.disk_change.specs.AllBuilt.{entry_keyed}
use Rattle.cut_laws.specs.Closure.{Flush}
use Rattle.cut_laws.specs.Rules.{IsOneOf}
use Rattle.cut_laws.proofs.Listed.{listed_one}
use Rattle.stamp_table.specs.declared.event.Event.{Event}
use Rattle.mem_values.specs.Account.{Commitment, account_of}
use Rattle.mem_values.specs.declared.cell.Pending.{Pending}
use Rattle.mem_values.specs.declared.fact.Fact.{Fact}
use Rattle.mem_values.specs.Stands.{Flushed, flushed_in}
use Rattle.note_laws.specs.Run.{TableRun}
use Rattle.made_laws.specs.Made.{CoreMaking, CoreMade, OwnMade, of_notes, of_file, own_flush, is_concerned, old_of, MadeEitherWay}
use Rattle.made_laws.specs.Own.{TellsMaking, told_notes, told_file, commit_of_own}

-- it made it in one way
pub not_both_ways : {X : Type 0} (run : TableRun) (making : CoreMaking) → CoreMade run making → OwnMade run making → X
not_both_ways run making core own =
    absurd (let some = core.some_core in let many = core.notes.as_many in let none = ap length own.no_parts in omega (arith, some, many, none))

-- what a telling is of
pub making_told : (run : TableRun) (making : CoreMaking) (told : Commitment) → TellsMaking run making told → MadeEitherWay run making
making_told run making told (told_notes was) = of_notes was.made
making_told run making told (told_file was) = of_file was.one

module _ (run : TableRun) (making : CoreMaking) (one other : OwnMade run making) where
  same_flush : own_flush one.own ≡ own_flush other.own
  same_flush = sym one.flush_is ∙ other.flush_is

  same_value : one.own.value ≡ other.own.value
  same_value = some_same (sym one.saw ∙ (ap making.noted.pending (ap (λ (f : Flush). f.node) same_flush) ∙ other.saw))

  -- the commit of a file is one, whichever proof says that it was made so
  pub same_own_commit : (first : TreeState) (history : List Entry) (cuts : ℕ → ℕ) (number : ℕ)
      → commit_of_own first history cuts one.own number ≡ commit_of_own first history cuts other.own number
  same_own_commit first history cuts number = λ i. commit_of_own first history cuts (record {
    core = one.own.core;
    node = (same_flush i).node;
    stamp = (same_flush i).stamp;
    value = same_value i;
    kept = one.own.kept;
    files = one.own.files;
  }) number

module _ (run : TableRun) (making : CoreMaking) (own : OwnMade run making) where
  -- it concerns the file alone
  pub concerns_own : (node : ℕ) → is_concerned making node ≡ nat_eq node own.own.node
  concerns_own node =
      ap (λ (l : List NodeId). is_listed (map node_number l) node) own.concerns ∙ same_test (is_listed (own.own.node ∷ []) node) (nat_eq node own.own.node)
      (listed_one (own.own.node ∷ []) node).0 (listed_one (own.own.node ∷ []) node).1 there back
    where
      there : IsOneOf (own.own.node ∷ []) node → nat_eq node own.own.node ≡ true
      there (inl same) = ap (λ n. nat_eq n own.own.node) (sym same) ∙ same_number own.own.node
      there (inr never) = absurd never

      back : nat_eq node own.own.node ≡ true → IsOneOf (own.own.node ∷ []) node
      back same = inl (sym (eqb-true node own.own.node same))

      same_test : {X : Type 0} (one two : Bool) → (one ≡ true → X) → (X → one ≡ true) → (X → two ≡ true) → (two ≡ true → X) → one ≡ two
      same_test true true a b c d = refl
      same_test true false a b c d = sym (c (a refl))
      same_test false true a b c d = b (d refl)
      same_test false false a b c d = refl

  -- and of it the entry
  pub old_own : (entry : OldEntry) → Contains making.old entry → entry ≡ entry_keyed (own.own.node, own.own.kept)
  old_own entry there = only entry (subst (λ (l : List OldEntry). Contains l entry) own.old_is there)
    where
      only : (entry : OldEntry) → Contains (entry_keyed (own.own.node, own.own.kept) ∷ []) entry → entry ≡ entry_keyed (own.own.node, own.own.kept)
      only entry (zero, within, same) = sym same
      only entry (suc k, within, same) = absurd (omega (arith, within))

-- What a core made is of what the disk has of nodes that it concerns, by what it saw of these.
pub saw_old : (run : TableRun) (making : CoreMaking) → MadeEitherWay run making → (entry : OldEntry) → Contains making.old entry
    → (is_concerned making entry.node.0 ≡ true) × (old_of (making.noted.pending entry.node.0) ≡ Some entry.old)
saw_old run making (of_notes core) entry there = (core.old_is.each entry.node.0 entry.old).0 there
saw_old run making (of_file own) entry there =
    let same = old_own run making own entry there in
    let node = ap (λ (e : OldEntry). e.node.0) same in (
      concerns_own run making own entry.node.0 ∙ ap (λ n. nat_eq n own.own.node) node ∙ same_number own.own.node,
      ap (λ n. old_of (making.noted.pending n)) node ∙ (ap old_of own.saw ∙ (own.made.has ∙ ap (λ (e : OldEntry). Some e.old) (sym same))),
    )

-- What it saw of a node was flushed of it at some moment of the run.
pub record SeesFlushed (run : TableRun) (node : ℕ) (value : Pending) : Type 0 where
  pub at : List (Event Fact)
  pub rest : List (Event Fact)
  pub whole : at ++ rest ≡ run.log
  pub flushed : ◌≡◌ {A = Flushed} (record { cut = value.cut.0; last = value.last; old = value.old }) (flushed_in run.given (account_of at) node)

pub sees_flushed : (run : TableRun) (making : CoreMaking) → MadeEitherWay run making → (node : ℕ) (value : Pending) → is_concerned making node ≡ true
    → making.noted.pending node ≡ Some value → SeesFlushed run node value
sees_flushed run making (of_notes core) node value concerned saw =
    let note = core.notes.each 0 core.some_core in
    record { at = (making.noted.notes 0).at; rest = note.rest; whole = note.whole; flushed = (note.stands node value saw).flushed }
sees_flushed run making (of_file own) node value concerned saw =
    let number : node ≡ own.own.node = eqb-true node own.own.node (sym (concerns_own run making own node) ∙ concerned) in
    let same : own.own.value ≡ value = some_same (sym own.saw ∙ (ap making.noted.pending (sym number) ∙ saw)) in
    record {
      at = own.made.at;
      rest = own.made.rest;
      whole = own.made.whole;
      flushed = subst (λ (z : ℕ × Pending). ◌≡◌ {A = Flushed} (record { cut = z.1.cut.0; last = z.1.last; old = z.1.old })
          (flushed_in run.given (account_of own.made.at) z.0)) (λ i. (sym number i, same i)) own.made.stands.flushed;
    }
