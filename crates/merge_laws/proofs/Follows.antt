-- In which phase each act may come, and what a failure before it leaves.
use Rattle.std.specs.Option.{option_or}
use Rattle.std.proofs.Common.{◌≡◌, ◌∷◌, ◌++◌, ◌⊎◌, ◌∙◌, ℕ, Bool, true, false, List, [], Option, Some, None, inl, inr, refl, sym, ap}
use Rattle.sfs_base.specs.declared.numbers.SpaceKind.{SpaceKind}
use Rattle.sfs_base.proofs.BasicOptions.{or_none}
use Rattle.sfs_base.proofs.BasicTruth.{false_not_true}
use Rattle.tree_laws.specs.declared.turns.Turn.{Turn}
use Rattle.tree_laws.specs.declared.turns.TurnAct.{TurnAct}
use Rattle.tree_laws.specs.declared.turns.TurnAct.TheVariants as act
use Rattle.turn_laws.specs.Books.{CountsFaults}
use Rattle.merge_laws.specs.Phases.{Phase, no_turn_yet, has_reserved, has_begun, has_opened, flies_in, may_follow}
use Rattle.merge_laws.specs.Pens.{failure_by, failed_in}

-- the phases in which each act may come
pub granted_first : (phase : Phase) → may_follow phase act.Granted ≡ true → phase ≡ no_turn_yet
granted_first no_turn_yet may = refl
granted_first _ may = absurd (false_not_true may)

pub short_first : (phase : Phase) (kind : SpaceKind) (need free : ℕ) → may_follow phase (act.Short kind need free) ≡ true → phase ≡ no_turn_yet
short_first no_turn_yet kind need free may = refl
short_first _ kind need free may = absurd (false_not_true may)

pub back_reserved : (phase : Phase) → may_follow phase act.GivenBack ≡ true → phase ≡ has_reserved
back_reserved has_reserved may = refl
back_reserved _ may = absurd (false_not_true may)

pub cut_begins : (phase : Phase) → may_follow phase act.CutAt ≡ true → (phase ≡ no_turn_yet) ⊎ (phase ≡ has_reserved)
cut_begins no_turn_yet may = inl refl
cut_begins has_reserved may = inr refl
cut_begins _ may = absurd (false_not_true may)

pub opens_begun : (phase : Phase) → may_follow phase act.Opened ≡ true → phase ≡ has_begun
opens_begun has_begun may = refl
opens_begun _ may = absurd (false_not_true may)

pub ends_opened : (phase : Phase) → may_follow phase act.Durable ≡ true → phase ≡ has_opened
ends_opened has_opened may = refl
ends_opened _ may = absurd (false_not_true may)

pub fails_aloft : (phase : Phase) → may_follow phase act.Fail ≡ true → flies_in phase ≡ true
fails_aloft has_begun may = refl
fails_aloft has_opened may = refl
fails_aloft _ may = absurd (false_not_true may)

pub halts_anywhere : (phase : Phase) → may_follow phase act.Halted ≡ true
    → (phase ≡ no_turn_yet) ⊎ ((phase ≡ has_reserved) ⊎ (flies_in phase ≡ true))
halts_anywhere no_turn_yet may = inl refl
halts_anywhere has_reserved may = inr (inl refl)
halts_anywhere has_begun may = inr (inr refl)
halts_anywhere has_opened may = inr (inr refl)
halts_anywhere _ may = absurd (false_not_true may)

-- an fsync whose commit is aloft does not wait
pub aloft_not_reserved : (phase : Phase) → flies_in phase ≡ true → phase ≡ has_reserved → ⊥
aloft_not_reserved phase flies e = false_not_true (ap flies_in (sym e) ∙ flies)

pub not_reserved : (phase other : Phase) → phase ≡ other → (other ≡ has_reserved → ⊥) → phase ≡ has_reserved → ⊥
not_reserved phase other e never same = never (sym e ∙ same)

-- the acts of a commit, and of a reserving
abbrev pub goes_on : TurnAct → Bool
goes_on act.Halted = false
goes_on act.GivenBack = false
goes_on _ = true

module _ (before most : ℕ) where
  -- none of these comes behind a failure
  pub calm_by : (failed : Option ℕ) (a : TurnAct) (faults : ℕ) → goes_on a ≡ true → CountsFaults before most failed a faults → failed ≡ None
  calm_by None a faults is counts = refl
  calm_by (Some failed) act.Granted faults is counts = absurd counts
  calm_by (Some failed) act.GivenBack faults is counts = absurd (false_not_true is)
  calm_by (Some failed) (act.Short kind need free) faults is counts = absurd counts
  calm_by (Some failed) act.Halted faults is counts = absurd (false_not_true is)
  calm_by (Some failed) act.CutAt faults is counts = absurd counts
  calm_by (Some failed) act.Opened faults is counts = absurd counts
  calm_by (Some failed) act.Durable faults is counts = absurd counts
  calm_by (Some failed) act.Fail faults is counts = absurd counts

  pub failed_by : (failed : Option ℕ) (faults : ℕ) → CountsFaults before most failed act.Halted faults → (count : ℕ) × (failed ≡ Some count)
  failed_by None faults counts = absurd counts
  failed_by (Some count) faults counts = (count, refl)

-- the failure among turns with one more
or_joined : (a b c : Option ℕ) → option_or a (option_or b c) ≡ option_or (option_or a b) c
or_joined (Some n) b c = refl
or_joined None b c = refl

pub failed_more : (turns : List Turn) (turn : Turn) → failed_in (turns ++ turn ∷ []) ≡ option_or (failed_in turns) (failure_by turn.act turn.faults)
failed_more [] turn = or_none (failure_by turn.act turn.faults)
failed_more (first ∷ turns) turn =
    ap (option_or (failure_by first.act first.faults)) (failed_more turns turn)
    ∙ or_joined (failure_by first.act first.faults) (failed_in turns) (failure_by turn.act turn.faults)
