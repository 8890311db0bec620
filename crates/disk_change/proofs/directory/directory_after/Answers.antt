use Rattle.std.proofs.Common.{◌≡◌, ◌+◌, ◌++◌, [], length, get_or, map, false, sym, inl, inr, ap, ◌∙◌, arith}
use Rattle.std.specs.List.{list_any, range_with_len}
use Rattle.std.proofs.lemmas.Bool.{cases_lt}
use Rattle.std.proofs.lemmas.List.FromFn.{length-map-range_with_len}
use Rattle.disk_change.specs.Directory.{rows_new, rows_behind, old_blocks_after, blocks_touched, block_added, blocks_for, is_in_net}
use Rattle.disk_change.proofs.Directories.{flags_there, flags_behind, flags_count}
use Rattle.disk_change.proofs.Patches.{past}
use Rattle.disk_change.proofs.directory.directory_after.Goals as goal

-- how many further blocks there are
further_count : (c : goal.After-drop-waiting-2) → length c.in_ok-further.further.items
    ≡ blocks_for (rows_behind c.args.directories.now c.args.net.now c.args.slots.now (rows_new c.args.directories.now c.args.net.now))
further_count c =
    let dirs = c.args.directories.now in
    let net = c.args.net.now in
    let rest = c.in_ok-changed.ensures.left ∙ ap (rows_behind dirs net c.args.slots.now) c.in_ok-waiting.ensures in
    let rows = rows_behind dirs net c.args.slots.now (rows_new dirs net) in
    ap length c.in_ok-further.ensures ∙ ap (λ those. length (map (block_added those) (range_with_len 0 (blocks_for those)))) rest
    ∙ length-map-range_with_len (block_added rows) 0 (blocks_for rows)

pub returns-clause-blocks : goal.returns-clause-blocks
returns-clause-blocks c =
    let dirs = c.args.directories.now in
    let net = c.args.net.now in
    let slots = c.args.slots.now in
    let rest = c.in_ok-changed.ensures.left ∙ ap (rows_behind dirs net slots) c.in_ok-waiting.ensures in
    let before = c.in_ok-changed.ensures.blocks ∙ ap (old_blocks_after dirs net slots) c.in_ok-waiting.ensures in
    let behind = c.in_ok-further.ensures ∙ ap (λ rows. map (block_added rows) (range_with_len 0 (blocks_for rows))) rest in
    λ i. before i ++ behind i

pub returns-clause-touched : goal.returns-clause-touched
returns-clause-touched c =
    let dirs = c.args.directories.now in
    let net = c.args.net.now in
    let slots = c.args.slots.now in
    record {
      count = flags_count dirs net slots ∙ ap (λ n. length slots + n) (sym (further_count c));
      there = λ n low.
          flags_there dirs net slots n low
          ∙ ap (λ rows. get_or (blocks_touched dirs net slots rows) n false) (sym c.in_ok-waiting.ensures) ∙ c.in_ok-changed.ensures.touched n low;
      behind = flags_behind dirs net slots;
    }

pub returns-clause-patch : goal.returns-clause-patch
returns-clause-patch c = λ end. record {
  fits = record {
    within = c.in_ok-changed.ensures.within;
    counted =
        let long = c.len.ensures ∙ c.in_ok-further.further.ok.0 in
        omega (arith, long, c.len-2.ensures, c.if-len.false);
  };
  alone = λ n low none. elim (cases_lt n (length c.args.slots.now)) [
    | inl there ↦ c.in_ok-changed.ensures.alone n there none
    | inr behind ↦ ap (list_any (is_in_net c.args.net.now)) (past c.args.slots.now n [] behind)
  ];
}
