-- No turn at a box has a count of faults above the last one.
use Rattle.std.proofs.Common.{◌≤◌, ◌∷◌, ◌++◌, ◌≡◌, ℕ, List, [], Option, Some, None, max, inl, inr, subst, arith}
use Rattle.tree_laws.specs.declared.turns.Turn.{Turn}
use Rattle.cut_laws.proofs.Basics.{in_either}
use Rattle.disk_box.specs.Desk.{HaveFew, turn_faults}

-- while the disk's count does not fall
pub few_later : (turns : List Turn) (before old new : ℕ) → HaveFew turns (max before old) → old ≤ new → HaveFew turns (max before new)
few_later turns before old new few later turn one = let low = few turn one in omega (arith, low, later)

-- none of no turns, and of more turns where none of both has
pub few_none : (most : ℕ) → HaveFew [] most
few_none most turn one = absurd one

pub few_one : (next : Turn) (turns : List Turn) (most : ℕ) → next.faults ≤ most → HaveFew turns most → HaveFew (next ∷ turns) most
few_one next turns most low few turn (inl same) = subst (λ (t : Turn). t.faults ≤ most) same low
few_one next turns most low few turn (inr one) = few turn one

pub few_both : (turns more : List Turn) (most : ℕ) → HaveFew turns most → HaveFew more most → HaveFew (turns ++ more) most
few_both turns more most few also turn one = elim (in_either turns more turn one) [ inl before ↦ few turn before | inr later ↦ also turn later ]

-- a turn that counts the faults as they are
pub counts_few : (turn : Turn) (before own : ℕ) (failed : Option ℕ) (now : ℕ) → turn.faults ≡ turn_faults own failed now → own ≡ before
    → turn.faults ≤ max before now
counts_few turn before own None now is same = omega (arith, is, same)
counts_few turn before own (Some failed) now is same = omega (arith, is)
