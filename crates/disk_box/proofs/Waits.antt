-- The turns that wait for cores, in a list.
use Rattle.std.proofs.Common.{◌≡◌, ◌<◌, ◌∙◌, ℕ, List, length, Option, None, inl, inr, refl, sym, ap, subst, slice_set}
use lib.ListN.{get_or}
use Rattle.std.proofs.lemmas.List.{get_or-set_other, get_or_read_under}
use Rattle.std.proofs.lemmas.Grind.{get_or-set_at}
use Rattle.std.proofs.lemmas.Option.{unwrap_or-slice_get}
use Rattle.tree_laws.specs.declared.turns.Turn.{Turn}
use Rattle.merge_laws.proofs.Blocks.{same_or_not}
use Rattle.slot_laws.specs.Slots.{with_at}
use Rattle.slot_laws.proofs.Basics.{at_same, at_other}
use Rattle.disk_box.specs.Desk.{wait_in}

-- one is put for a core
pub wait_put : (waits : List (Option Turn)) (core : ℕ) (turn : Option Turn) → core < length waits → (other : ℕ)
    → wait_in (slice_set waits core turn) other ≡ with_at (wait_in waits) core turn other
wait_put waits core turn low other = elim (same_or_not other core) [
  | inl same ↦
      unwrap_or-slice_get (slice_set waits core turn) other None ∙ (get_or-set_at waits core other turn None same low
      ∙ sym (at_same (wait_in waits) core turn other same))
  | inr not ↦
      unwrap_or-slice_get (slice_set waits core turn) other None ∙ (get_or-set_other waits core other turn None not
      ∙ (sym (unwrap_or-slice_get waits other None) ∙ sym (at_other (wait_in waits) core turn other not)))
]

-- what a list has for a core is what waits for it
pub wait_read : (waits : List (Option Turn)) (at core : ℕ) (there : Option Turn) (known : ℕ → Option Turn) → ((c : ℕ) → wait_in waits c ≡ known c)
    → core < length waits → at ≡ core → there ≡ get_or waits at there → known core ≡ there
wait_read waits at core there known kept low same read =
    sym (kept core) ∙ (unwrap_or-slice_get waits core None
    ∙ (ap (λ n. get_or waits n None) (sym same)
    ∙ sym (get_or_read_under waits at (length waits) there None read (subst (λ n. n < length waits) (sym same) low) refl)))
