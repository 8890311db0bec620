-- The cut that an fsync raises, made of the list of its members.
use Rattle.std.proofs.Common.{◌≡◌, ℕ, ◌<◌, Bool, true, false, cond, max, List, ◌⊎◌, inl, inr, refl, sym, ap, ◌∙◌, arith, nat_lt}
use Rattle.std.specs.Prelude.{◌&&◌, ◌↔◌, nat_le}
use Rattle.std.proofs.Math.Nat.{max-eq_left, max-eq_right}
use Rattle.std.proofs.lemmas.Bool.{cases_lt}
use Rattle.std.proofs.lemmas.Bool.Decides.{nat_tests}
use Rattle.sfs_base.specs.Listed.{is_listed}
use Rattle.tree_laws.specs.declared.changes.Change.{Change}
use Rattle.tree_laws.specs.declared.history.Entry.{Entry}
use Rattle.tree_laws.specs.Tree.{TreeState}
use Rattle.cut_laws.specs.Closure.{every_entry, Flush, Closure, IsRaised}
use Rattle.cut_laws.specs.Cut.{Cut, cut_of}
use Rattle.cut_laws.proofs.RaisedCut.{raised_cut, stamp_raised}
use Rattle.dep_closure.specs.Spans.{is_in_span}

-- where the listed nodes are the members, it is the cut that the fsync raises
pub is_raised : (first : TreeState) (history : List Entry) (cut : Cut) (inodes : ℕ → Bool) (flush : Flush) (nodes : List ℕ)
    → ((node : ℕ) → (is_listed nodes node ≡ true) ↔ Closure first history every_entry cut inodes flush node)
    → IsRaised first history every_entry cut inodes flush (raised_cut cut nodes flush.stamp)
is_raised first history cut inodes flush nodes are = record {
  member = λ node own. stamp_raised cut nodes flush.stamp node ∙ ap (λ b. cond b (max (cut_of cut node) flush.stamp) (cut_of cut node)) ((are node).1 own);
  other = λ node. by node (is_listed nodes node) refl;
}
  where
    by : (node : ℕ) (b : Bool) → is_listed nodes node ≡ b
        → Closure first history every_entry cut inodes flush node ⊎ (cut_of (raised_cut cut nodes flush.stamp) node ≡ cut_of cut node)
    by node true e = inl ((are node).0 e)
    by node false e = inr (stamp_raised cut nodes flush.stamp node ∙ ap (λ b. cond b (max (cut_of cut node) flush.stamp) (cut_of cut node)) e)

-- a span up to a stamp is one up to the greater of that and its own begin
pub span_raised : (from to : ℕ) (change : Change) → is_in_span from to change ≡ is_in_span from (max from to) change
span_raised from to change = elim (cases_lt to from) [
  | inl less ↦ no_span from to change.stamp.0 less
      ∙ sym (ap (λ n. nat_le from change.stamp.0 && nat_lt change.stamp.0 n) (max-eq_left {n = from} {m = to} (omega arith)) ∙ no_stamp from change.stamp.0)
  | inr ge ↦ ap (λ n. nat_le from change.stamp.0 && nat_lt change.stamp.0 n) (sym (max-eq_right {n = from} {m = to} ge))
]
  where
    no_span : (a b s : ℕ) → b < a → (nat_le a s && nat_lt s b) ≡ false
    no_span a b s less = grind (arith, nat_tests)

    no_stamp : (a s : ℕ) → (nat_le a s && nat_lt s a) ≡ false
    no_stamp a s = grind (arith, nat_tests)
