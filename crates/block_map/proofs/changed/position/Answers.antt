use Rattle.std.proofs.Common.{rules, sym}
use Rattle.std.proofs.lemmas.List.Sorted.{answers_always}
use Rattle.keyed_list.proofs.Searched.{search_misses}
use Rattle.block_map.specs.Changed.{changed_block}
use Rattle.block_map.proofs.Changes.{position_found}
use Rattle.block_map.proofs.changed.position.Goals as goal

pub returns-in-Ok : goal.returns-in-Ok
returns-in-Ok c =
    let by_key = c.in-Ok.ensures.position changed_block (answers_always _ _ _ (λ f a r g called. search rules)) in
    record { some = position_found c.args.changed.now c.requires c.args.block c.in-Ok.at c.in-Ok.ensures.bound by_key; none = tt }

pub returns-in-Err : goal.returns-in-Err
returns-in-Err c =
    let by_key = c.in-Err.ensures.position changed_block (answers_always _ _ _ (λ f a r g called. search rules)) in
    record {
      some = tt;
      none = sym (search_misses changed_block c.args.changed.now c.requires c.args.block c.in-Err.field-0 c.in-Err.ensures.bound by_key);
    }
