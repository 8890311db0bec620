-- What one core's open commit becomes in a ledger.
use Rattle.std.proofs.Common.{◌≡◌, ◌≢◌, ◌<◌, ◌∙◌, ℕ, Bool, true, false, List, length, slice_set, slice_index_or, Option, Some, None, inl, inr, refl, sym, ap, option_map, is_some}
use Rattle.std.proofs.lemmas.List.{get_or-set_other}
use Rattle.std.proofs.lemmas.Grind.{get_or-set_at}
use Rattle.sfs_base.proofs.BasicOptions.{some_same, none_some}
use Rattle.merge_laws.proofs.Blocks.{same_or_not}
use Rattle.tree_laws.specs.declared.turns.Turn.{Turn}
use Rattle.slot_laws.specs.Labels.{OwnTold, SlotFlight}
use Rattle.commit_ledger.specs.View.{OpenView}
use Rattle.disk_box.specs.Desk.{open_for, open_told}

pub open_changed : (opens nexts : List (Option OpenView)) (core : ℕ) (entry : Option OpenView) (owns : ℕ → OwnTold) (waits : ℕ → Option Turn)
    → core < length opens → nexts ≡ slice_set opens core entry → option_map open_told entry ≡ open_for (owns core) (waits core)
    → ((other : ℕ) → other ≢ core → option_map open_told (slice_index_or opens other None) ≡ open_for (owns other) (waits other)) → (other : ℕ)
    → option_map open_told (slice_index_or nexts other None) ≡ open_for (owns other) (waits other)
open_changed opens nexts core entry owns waits low are own others other = elim (same_or_not other core) [
  | inl is ↦
      ap (λ (l : List (Option OpenView)). option_map open_told (slice_index_or l other None)) are
      ∙ (ap (option_map open_told) (get_or-set_at opens core other entry None is low) ∙ (own ∙ ap (λ c. open_for (owns c) (waits c)) (sym is)))
  | inr not ↦
      ap (λ (l : List (Option OpenView)). option_map open_told (slice_index_or l other None)) are
      ∙ (ap (option_map open_told) (get_or-set_other opens core other entry None not) ∙ others other not)
]

-- An open commit of a ledger by its number and whether it has begun.
pub record IsOpenAs (o : Option OpenView) (number : ℕ) (begun : Bool) : Type 0 where
  pub one : OpenView
  pub there : o ≡ Some one
  pub number_is : one.number ≡ number
  pub begun_is : is_some one.debt ≡ begun

pub open_as : (o : Option OpenView) (number : ℕ) (begun : Bool) → option_map open_told o ≡ Some (number, begun) → IsOpenAs o number begun
open_as None number begun is = absurd (none_some is)
open_as (Some one) number begun is = record {
  one = one;
  there = refl;
  number_is = ap (λ (z : ℕ × Bool). z.0) (some_same is);
  begun_is = ap (λ (z : ℕ × Bool). z.1) (some_same is);
}

-- a core that has reserved has its commit open, not begun
pub open_reserved : (own : OwnTold) (number : ℕ) → own.reserved ≡ Some number → open_for own None ≡ Some (number, false)
open_reserved own number is =
    ap (λ o. Rattle.std.specs.Option.option_or (option_map (λ n. (n, false)) o) (option_map (λ (f : SlotFlight). (f.commit, true)) own.flight)) is

-- one that has neither reserved nor a flight has none
pub open_nothing : (own : OwnTold) → own.reserved ≡ None → own.flight ≡ None → open_for own None ≡ None
open_nothing own none idle =
    ap (λ (z : Option ℕ × Option SlotFlight). Rattle.std.specs.Option.option_or (option_map (λ number. (number, false)) z.0)
    (option_map (λ (f : SlotFlight). (f.commit, true)) z.1)) (λ i. (none i, idle i))
