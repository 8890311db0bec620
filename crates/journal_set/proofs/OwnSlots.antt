-- Which slots are a core's own and in a phase.
use Rattle.std.proofs.Common.{◌≡◌, ◌+◌, ◌<◌, ◌≤◌, ◌∙◌, ℕ, List, length, inl, inr, sym, ap, subst, arith}
use Rattle.sfs_base.proofs.BasicOptions.{some_same}
use Rattle.merge_laws.proofs.Blocks.{same_or_not}
use Rattle.disk_box.specs.declared.desk.Slot.{Slot}
use Rattle.disk_box.specs.declared.kind.Kind.{Kind}
use Rattle.disk_box.specs.Kind.{HasKind, kind_of}
use Rattle.journal_set.specs.OwnSlots.{IsOwnSlot}

-- none of the first slots is so
abbrev pub NoneOwn : List Slot → ℕ → ℕ → Kind → ℕ → Type 0
NoneOwn slots cores core what k = (j : ℕ) → j < k → IsOwnSlot slots cores core what j → ⊥

-- nor is one more
pub none_own_more : (slots : List Slot) (cores core : ℕ) (what : Kind) (k : ℕ) → NoneOwn slots cores core what k → (IsOwnSlot slots cores core what k → ⊥)
    → NoneOwn slots cores core what (k + 1)
none_own_more slots cores core what k none not j low one = elim (same_or_not j k) [
  | inl same ↦ absurd (not (subst (IsOwnSlot slots cores core what) same one))
  | inr apart ↦ absurd (none j (omega (arith, low, apart)) one)
]

-- none of all of them is
pub none_own_all : (slots : List Slot) (cores core : ℕ) (what : Kind) (k : ℕ) → NoneOwn slots cores core what k → length slots ≤ k → (j : ℕ)
    → IsOwnSlot slots cores core what j → ⊥
none_own_all slots cores core what k none past j one =
    let low = Rattle.std.proofs.lemmas.Option.slice_get_within slots j one.has.slot one.has.there in
    none j (omega (arith, low, past)) one

-- a slot has one phase
pub one_kind : (slots : List Slot) (k : ℕ) (one other : Kind) → HasKind slots k one → HasKind slots k other → one ≡ other
one_kind slots k one other first second =
    sym first.kind_is ∙ (ap (λ (s : Slot). kind_of s.phase) (some_same (sym first.there ∙ second.there)) ∙ second.kind_is)
