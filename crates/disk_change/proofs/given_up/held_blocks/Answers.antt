use Rattle.std.proofs.Common.{◌≡◌, ◌<◌, ◌+◌, ◌++◌, ◌∷◌, ℕ, List, [], length, get_or, take, Contains, subst, sym, ap, ◌∙◌, arith, inl, inr}
use Rattle.std.specs.Prelude.{◌↔◌, ◌⊎◌}
use Rattle.std.proofs.lemmas.List.{take_all, take_more}
use Rattle.block_map.specs.Kept.{pointer_kept}
use Rattle.block_map.specs.RemapLaws.{IsHeld}
use Rattle.disk_change.specs.GivenUp.{IsLeftByGone}
use Rattle.disk_nodes.specs.declared.old.OldEntry.{OldEntry}
use Rattle.disk_change.proofs.Leaving.{held_more}
use Rattle.disk_change.proofs.given_up.held_blocks.Goals as goal

pub loop-entry-init : goal.loop-entry-init
loop-entry-init c =
    subst (λ (blocks : List ℕ). (block : ℕ) → Contains blocks block ↔ (Contains {X = ℕ} [] block ⊎ IsLeftByGone [] block)) (sym c.new-blocks.ensures.items)
    (λ block. (inl, nothing block))
  where
    nothing : (block : ℕ) → Contains {X = ℕ} [] block ⊎ IsLeftByGone [] block → Contains {X = ℕ} [] block
    nothing block (inl has) = has
    nothing block (inr one) = absurd (omega (arith, one.one.1))

pub loop-entry-preserved : goal.loop-entry-preserved
loop-entry-preserved c =
    let old = c.args.old.now.items in
    let entry : OldEntry = c.entry-item.result in
    let i = c.loop-entry.entry-index in
    let same = c.as_slice-entry-items.ensures.items in
    let long = ap length same in
    let within : i < length old = omega (arith, long, c.loop-entry-test.true) in
    let is : entry ≡ get_or old i entry = c.entry-item.is ∙ ap (λ l. get_or l i entry) same in
    held_more (take i old) (take (i + 1) old) entry [] c.loop-entry.blocks.items c.push_held.new.blocks.items
    (take_more old i entry within ∙ ap (λ e. take i old ++ e ∷ []) (sym is)) c.loop-entry.invariant
    (subst
    (λ (e : OldEntry). (block : ℕ)
    → Contains c.push_held.new.blocks.items block ↔
    (Contains c.loop-entry.blocks.items block ⊎ IsHeld (pointer_kept e.old.kept.inode e.old.kept.tables) block))
    c.entry.view_is c.in_ok-push_held.ensures)

pub returns-clause-each : goal.returns-clause-each
returns-clause-each c =
    let long = ap length c.as_slice-entry-items.ensures.items in
    let all = take_all c.loop-entry.entry-index c.args.old.now.items (omega (arith, long, c.loop-entry-test.false)) in
    let each =
    subst (λ (gone : List OldEntry). (block : ℕ) → Contains c.loop-entry.blocks.items block ↔ (Contains {X = ℕ} [] block ⊎ IsLeftByGone gone block))
    all c.loop-entry.invariant in
    λ block. (
      λ has. held c.args.old.now.items block ((each block).0 ((c.ascending.ensures.each block).0 has)),
      λ has. (c.ascending.ensures.each block).1 ((each block).1 (inr has)),
    )
  where
    held : (old : List OldEntry) (block : ℕ) → Contains {X = ℕ} [] block ⊎ IsLeftByGone old block → IsLeftByGone old block
    held old block (inl has) = absurd (omega (arith, has.1))
    held old block (inr one) = one
