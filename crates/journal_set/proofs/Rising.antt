-- Numbers rise.
use Rattle.std.proofs.Common.{◌≡◌, ◌+◌, ◌<◌, ◌∙◌, ℕ, List, ap, sym, arith}
use Rattle.stamp_table.specs.declared.event.Event.{Event}
use Rattle.slot_laws.specs.declared.label.Label.{Label}
use Rattle.slot_laws.specs.Lasts.{LastsFit, NamesLast, held_by_none, held_last_by}
use Rattle.slot_laws.specs.Nodes.{LastCommit, last_ended}
use Rattle.slot_laws.proofs.NodesTold.{nodes_fit}
use Rattle.disk_box.specs.Box.{LawfulBox, past_of}
use Rattle.disk_box.specs.declared.key.BoxKey.{BoxKey}

-- The next number is above that of the last commit of a node that has ended.
module _ {D : Type 0} (key : BoxKey D) (log : List (Event Label)) (lawful : LawfulBox key log) (number : ℕ) (next : number ≡ (past_of key log).commits + 1) where
  abbrev fits : LastsFit (past_of key log).lasts (past_of key log).opens (past_of key log).done (past_of key log).commits
  fits = nodes_fit key.layout key.faults key.start log lawful

  named_below : (node last : ℕ) → ((past_of key log).lasts node).number ≡ last → NamesLast (past_of key log).done node ((past_of key log).lasts node).number
      → last < number
  named_below node last same (held_by_none none zero_is) = omega (arith, zero_is, same, next)
  named_below node last same (held_last_by commit holder is) = let few = fits.ended commit holder.among in omega (arith, is, same, next, few)

  pub seen_below : (node last : ℕ) → (past_of key log).lasts node ≡ last_ended last → last < number
  seen_below node last is =
      named_below node last (ap (λ (l : LastCommit). l.number) is) (fits.named node (ap (λ (l : LastCommit). l.ended) is))
