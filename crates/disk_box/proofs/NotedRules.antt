-- When a turn may be noted.
use Rattle.std.proofs.Common.{◌≡◌, ◌≤◌, ℕ, Option, Some, None, sym, subst, arith}
use Rattle.sfs_base.specs.Ends.{HasRisen}
use Rattle.sfs_base.specs.declared.numbers.SpaceKind.{SpaceKind}
use Rattle.tree_laws.specs.declared.turns.Turn.{Turn}
use Rattle.tree_laws.specs.declared.turns.TurnAct.{TurnAct}
use Rattle.tree_laws.specs.declared.turns.TurnAct.TheVariants as act
use Rattle.turn_laws.specs.Books.{CountsFaults}
use Rattle.slot_laws.specs.Labels.{BoxPast}
use Rattle.slot_laws.specs.Rules.{NotedRule}

module _ (before core : ℕ) (past : BoxPast) (turn : Turn) (own : turn.core.0 ≡ core) (learned : past.waits core ≡ None) (rises : past.moment ≤ turn.now) where
  counts_as : (failed : Option ℕ) (what : TurnAct) → past.failed ≡ failed → turn.act ≡ what → CountsFaults before turn.faults failed what turn.faults
      → CountsFaults before turn.faults past.failed turn.act turn.faults
  counts_as failed what is did counts =
      subst (λ (z : Option ℕ × TurnAct). CountsFaults before turn.faults z.0 z.1 turn.faults) (λ i. (sym is i, sym did i)) counts

  -- a failure, once the count of faults has risen
  pub fail_rule : turn.act ≡ act.Fail → past.failed ≡ None → HasRisen before turn.faults → NotedRule before core turn past
  fail_rule did calm risen = record {
    own = own;
    no_open = λ e. absurd (cc (did, e));
    no_durable = λ e. absurd (cc (did, e));
    learned = learned;
    now = record { rises = rises; counts = counts_as None act.Fail calm did (risen, omega arith) };
  }

  -- the begin of a commit that fails, as the count was
  pub cut_rule : turn.act ≡ act.CutAt → past.failed ≡ None → turn.faults ≡ before → NotedRule before core turn past
  cut_rule did calm same = record {
    own = own;
    no_open = λ e. absurd (cc (did, e));
    no_durable = λ e. absurd (cc (did, e));
    learned = learned;
    now = record { rises = rises; counts = counts_as None act.CutAt calm did same };
  }

  -- a grant, a shortage and a return, as the count was
  pub granted_rule : turn.act ≡ act.Granted → past.failed ≡ None → turn.faults ≡ before → NotedRule before core turn past
  granted_rule did calm same = record {
    own = own;
    no_open = λ e. absurd (cc (did, e));
    no_durable = λ e. absurd (cc (did, e));
    learned = learned;
    now = record { rises = rises; counts = counts_as None act.Granted calm did same };
  }

  pub short_rule : (kind : SpaceKind) (need free : ℕ) → turn.act ≡ act.Short kind need free → past.failed ≡ None → turn.faults ≡ before
      → NotedRule before core turn past
  short_rule kind need free did calm same = record {
    own = own;
    no_open = λ e. absurd (cc (did, e));
    no_durable = λ e. absurd (cc (did, e));
    learned = learned;
    now = record { rises = rises; counts = counts_as None (act.Short kind need free) calm did same };
  }

  pub returned_rule : turn.act ≡ act.GivenBack → past.failed ≡ None → turn.faults ≡ before → NotedRule before core turn past
  returned_rule did calm same = record {
    own = own;
    no_open = λ e. absurd (cc (did, e));
    no_durable = λ e. absurd (cc (did, e));
    learned = learned;
    now = record { rises = rises; counts = counts_as None act.GivenBack calm did same };
  }

  pub returned_late_rule : (failed : ℕ) → turn.act ≡ act.GivenBack → past.failed ≡ Some failed → failed ≤ turn.faults → NotedRule before core turn past
  returned_late_rule failed did is more = record {
    own = own;
    no_open = λ e. absurd (cc (did, e));
    no_durable = λ e. absurd (cc (did, e));
    learned = learned;
    now = record { rises = rises; counts = counts_as (Some failed) act.GivenBack is did (more, omega arith) };
  }
