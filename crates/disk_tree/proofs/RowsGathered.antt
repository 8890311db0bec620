-- How rows are gathered from slots.
use Rattle.std.proofs.Common.{◌≡◌, ℕ, ◌+◌, ◌<◌, List, [], ◌∷◌, ◌++◌, take, length, get_or, Option, sym, ap, ◌∙◌}
use Rattle.std.specs.Option.{option_to_list}
use Rattle.std.proofs.lemmas.List.{take_more, append_assoc, append-nil}
use Rattle.std.proofs.lemmas.List.Elements.{filter_map-append}
use Rattle.std.proofs.lemmas.Grind.{flat_map-append}
use Rattle.sfs_image.specs.Slot.{Row}
use Rattle.disk_tree.specs.Rows.{row_of_slot, rows_in_slots, slots_together}
use Rattle.block_map.proofs.Places.{as_list}

pub more_rows : (slots : List (Option Row)) (n : ℕ) (slot : Option Row) (start old new : List Row) → n < length slots → slot ≡ get_or slots n slot
    → old ≡ start ++ rows_in_slots (take n slots) → new ≡ old ++ option_to_list slot →
    new ≡ start ++ rows_in_slots (take (n + 1) slots)
more_rows slots n slot start old new within is before put =
    put ∙ ap (λ (xs : List Row). xs ++ option_to_list slot) before
    ∙ append_assoc start (rows_in_slots (take n slots)) (option_to_list slot)
    ∙ ap (λ (xs : List Row). start ++ (rows_in_slots (take n slots) ++ xs)) (sym (as_list slot))
    ∙ ap (λ (xs : List Row). start ++ xs) (sym (filter_map-append row_of_slot (take n slots) (slot ∷ [])))
    ∙ ap (λ (x : Option Row). start ++ rows_in_slots (take n slots ++ x ∷ [])) is
    ∙ ap (λ (xs : List (Option Row)). start ++ rows_in_slots xs) (sym (take_more slots n slot within))

pub more_blocks : (blocks : List (List (Option Row))) (n : ℕ) (block : List (Option Row)) (old new : List Row) → n < length blocks
    → block ≡ get_or blocks n block → old ≡ rows_in_slots (slots_together (take n blocks)) →
    new ≡ old ++ rows_in_slots block → new ≡ rows_in_slots (slots_together (take (n + 1) blocks))
more_blocks blocks n block old new within is before put =
    put ∙ ap (λ (xs : List Row). xs ++ rows_in_slots block) before
    ∙ sym (filter_map-append row_of_slot (slots_together (take n blocks)) block)
    ∙ ap (λ (xs : List (Option Row)). rows_in_slots (slots_together (take n blocks) ++ xs)) (sym (append-nil block))
    ∙ ap rows_in_slots (sym (flat_map-append (λ (block : List (Option Row)). block) (take n blocks) (block ∷ [])))
    ∙ ap (λ (x : List (Option Row)). rows_in_slots (slots_together (take n blocks ++ x ∷ []))) is
    ∙ ap (λ (xs : List (List (Option Row))). rows_in_slots (slots_together xs)) (sym (take_more blocks n block within))
