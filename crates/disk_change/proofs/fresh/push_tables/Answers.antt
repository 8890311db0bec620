use Rattle.std.proofs.Common.{◌++◌, ◌+◌, ◌≡◌, ℕ, [], ◌∷◌, Option, sym, ap, ◌∙◌, filter_map}
use Rattle.std.specs.Prelude.{option_to_list}
use Rattle.std.specs.List.{range_with_len}
use Rattle.std.proofs.lemmas.List.{append_assoc}
use Rattle.std.proofs.lemmas.List.Elements.{filter_map-append}
use Rattle.sfs_base.proofs.BasicNumbers.{zero_plus}
use Rattle.block_map.proofs.Places.{as_list, range_more}
use Rattle.disk_change.specs.Fresh.{table_of_place}
use Rattle.disk_change.specs.Parts.{built_with}
use Rattle.disk_change.proofs.fresh.push_tables.Goals as goal

one_more : {Y : Type 0} (f : ℕ → Option Y) (k : ℕ) → filter_map f (range_with_len 0 (k + 1)) ≡ filter_map f (range_with_len 0 k) ++ option_to_list (f k)
one_more f k =
    ap (filter_map f) (range_more 0 k ∙ ap (λ m. range_with_len 0 k ++ m ∷ []) (zero_plus k)) ∙ filter_map-append f (range_with_len 0 k) (k ∷ [])
    ∙ ap (λ rest. filter_map f (range_with_len 0 k) ++ rest) (as_list (f k))

pub loop-k-preserved : goal.loop-k-preserved
loop-k-preserved c =
    let f = table_of_place (built_with [] c.args.built.now) in
    let front = c.args.fresh.now.items in
    c.in_ok-push_table.ensures ∙ ap (λ those. those ++ option_to_list (f c.loop-k.k)) c.loop-k.invariant
    ∙ append_assoc front (filter_map f (range_with_len 0 c.loop-k.k)) (option_to_list (f c.loop-k.k)) ∙ ap (λ rest. front ++ rest) (sym (one_more f c.loop-k.k))
