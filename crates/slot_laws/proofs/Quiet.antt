-- Turns that fail no commit.
use Rattle.std.specs.Option.{option_or}
use Rattle.std.proofs.Common.{◌≡◌, ◌≢◌, ◌⊎◌, ◌≤◌, ◌∷◌, ◌++◌, ℕ, List, [], Option, Some, None, inl, inr, refl, sym, subst, true}
use Rattle.sfs_base.proofs.BasicOptions.{some_not_none}
use Rattle.sfs_base.proofs.BasicTruth.{false_not_true}
use Rattle.tree_laws.specs.declared.turns.Turn.{Turn}
use Rattle.tree_laws.specs.declared.turns.TurnAct.{TurnAct}
use Rattle.tree_laws.specs.declared.turns.TurnAct.TheVariants as act
use Rattle.turn_laws.specs.Books.{CountsFaults}
use Rattle.merge_laws.specs.Pens.{failure_by}
use Rattle.slot_laws.specs.Labels.{ends_all}
use Rattle.slot_laws.specs.Fits.{TimesFit}
use Rattle.slot_laws.proofs.Turns.{times_more}

-- an act that fails no commit
pub quiet_act : (a : TurnAct) (faults : ℕ) → a ≢ act.Fail → failure_by a faults ≡ None
quiet_act act.Granted faults away = refl
quiet_act act.GivenBack faults away = refl
quiet_act (act.Short kind need free) faults away = refl
quiet_act act.Halted faults away = refl
quiet_act act.CutAt faults away = refl
quiet_act act.Opened faults away = refl
quiet_act act.Durable faults away = refl
quiet_act act.Fail faults away = absurd (away refl)

pub or_nothing : (o : Option ℕ) (other : Option ℕ) → other ≡ None → option_or o other ≡ o
or_nothing None other e = e
or_nothing (Some n) other e = refl

pub or_some : (o other : Option ℕ) → o ≢ None → option_or o other ≢ None
or_some None other some e = some refl
or_some (Some n) other some e = some e

-- while none has failed, the count of a turn that neither halts nor fails is that of before
pub counts_calm : (before faults : ℕ) (failed : Option ℕ) (a : TurnAct) → failed ≡ None → (a ≡ act.Opened) ⊎ (a ≡ act.Durable) → faults ≡ before
    → CountsFaults before faults failed a faults
counts_calm before faults failed a calm which same =
    subst (λ (o : Option ℕ). CountsFaults before faults o a faults) (sym calm)
    (elim which [
      | inl opened ↦ subst (λ (b : TurnAct). CountsFaults before faults None b faults) (sym opened) same
      | inr durable ↦ subst (λ (b : TurnAct). CountsFaults before faults None b faults) (sym durable) same
    ])

pub cut_not_fail : act.CutAt ≢ act.Fail
cut_not_fail e = cc

pub opened_not_fail : act.Opened ≢ act.Fail
opened_not_fail e = cc

pub durable_not_fail : act.Durable ≢ act.Fail
durable_not_fail e = cc

-- a quiet turn more
module _ (before : ℕ) (turns : List Turn) (moment : ℕ) (failed : Option ℕ) (fits : TimesFit before turns moment failed) where
  pub quiet_more : (turn : Turn) → turn.act ≢ act.Fail → moment ≤ turn.now → CountsFaults before turn.faults failed turn.act turn.faults
      → TimesFit before (turns ++ turn ∷ []) turn.now failed
  quiet_more turn quiet rises right =
      subst (TimesFit before (turns ++ turn ∷ []) turn.now) (or_nothing failed (failure_by turn.act turn.faults) (quiet_act turn.act turn.faults quiet))
      (times_more before turns moment failed fits turn rises right)

-- a turn that ends all stands behind a failure, or is one
pub ends_failed : (before faults : ℕ) (a : TurnAct) (failed : Option ℕ) → CountsFaults before faults failed a faults → ends_all a ≡ true
    → option_or failed (failure_by a faults) ≢ None
ends_failed before faults a (Some n) counts e none = some_not_none none
ends_failed before faults act.Fail None counts e none = some_not_none none
ends_failed before faults act.Halted None counts e none = absurd counts
ends_failed before faults act.Granted None counts e none = false_not_true e
ends_failed before faults act.GivenBack None counts e none = false_not_true e
ends_failed before faults (act.Short kind need free) None counts e none = false_not_true e
ends_failed before faults act.CutAt None counts e none = false_not_true e
ends_failed before faults act.Opened None counts e none = false_not_true e
ends_failed before faults act.Durable None counts e none = false_not_true e
