use Rattle.std.proofs.Common.{◌∙◌, sym, ap, arith, vec_items}
use Rattle.std.proofs.lemmas.Option.{slice_get_within}
use Rattle.script.proofs.TextLemmas.{entry_more, entries_all}
use Rattle.script.proofs.writing.text.Goals as goal

pub loop-entry-preserved : goal.loop-entry-preserved
loop-entry-preserved c =
    let within = slice_get_within c.args.history.now c.loop-entry.cursor c.in-Some.entry.now (sym c.in-Some.ensures.entry) in
    record {
      written =
          entry_more c.args.history.now c.loop-entry.cursor c.next.new.cursor c.in-Some.entry.now _ _ c.in-Some.ensures.entry c.in-Some.ensures.moves
          c.loop-entry.invariant.written c.in_ok-write_entry.ensures;
      within = omega (arith, c.in-Some.ensures.moves);
    }

pub returns : goal.returns
returns c = record {
  ok =
      ap vec_items c.into_bytes.ensures.value
      ∙ entries_all c.args.history.now c.loop-entry.cursor _ c.in_default.ensures.entry c.loop-entry.invariant.within c.loop-entry.invariant.written;
}
