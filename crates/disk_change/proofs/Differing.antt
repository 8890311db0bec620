-- A record is written exactly where it differs.
use Rattle.std.proofs.Common.{◌≡◌, ℕ, true, eqb, List, None, inl, inr, refl, sym, subst, ◌∙◌}
use Rattle.std.specs.Prelude.{◌↔◌, bytes_eq}
use Rattle.std.proofs.lemmas.Bool.{cases_Bool, cond-true, cond-false, eqb-true, eq-eqb, and_parts}
use Rattle.std.proofs.lemmas.Slice.Eq.{bytes_eq-Decides}
use Rattle.sfs_base.proofs.BasicLists.{same_bytes}
use Rattle.sfs_base.proofs.BasicOptions.{none_some}
use Rattle.sfs_image.specs.Inode.{Inode}
use Rattle.disk_change.specs.Records.{RecordChange, same_inode, record_written}

-- two inodes are one where no test tells them apart
one_inode : {a b c d e f : ℕ} {g h i j : List ℕ} → a ≡ b → c ≡ d → e ≡ f → g ≡ h → i ≡ j
    → (let x : Inode = record { kind = a; links = c; size = e; direct = g; indirect = i } in x)
    ≡ record { kind = b; links = d; size = f; direct = h; indirect = j }
one_inode p q r s t = λ k. record { kind = p k; links = q k; size = r k; direct = s k; indirect = t k }

-- inodes that the test finds the same are one
pub same_is_one : (inode other : Inode) → same_inode inode other ≡ true → inode ≡ other
same_is_one inode other same =
    let kind = and_parts (eqb inode.kind other.kind) _ same in
    let links = and_parts (eqb inode.links other.links) _ kind.1 in
    let size = and_parts (eqb inode.size other.size) _ links.1 in
    let pointers = and_parts (bytes_eq inode.direct other.direct) _ size.1 in
    one_inode (eqb-true _ _ kind.0) (eqb-true _ _ links.0) (eqb-true _ _ size.0) ((bytes_eq-Decides _ _).0 pointers.0) ((bytes_eq-Decides _ _).0 pointers.1)

itself : (n : ℕ) → eqb n n ≡ true
itself n = eq-eqb n n refl

is_same : (inode : Inode) → same_inode inode inode ≡ true
is_same inode = rw (itself inode.kind, itself inode.links, itself inode.size, same_bytes inode.direct, same_bytes inode.indirect) refl

pub only_what_differs : (change : RecordChange) → (record_written change ≡ None) ↔ (change.before ≡ change.after)
only_what_differs change = (one, none)
  where
    one : record_written change ≡ None → change.before ≡ change.after
    one is = elim (cases_Bool (same_inode change.before change.after)) [
      | inl same ↦ same_is_one change.before change.after same
      | inr other ↦ absurd (none_some (sym is ∙ cond-false (same_inode change.before change.after) _ _ other))
    ]

    none : change.before ≡ change.after → record_written change ≡ None
    none is =
        cond-true (same_inode change.before change.after) _ _
        (subst (λ (other : Inode). same_inode change.before other ≡ true) is (is_same change.before))
