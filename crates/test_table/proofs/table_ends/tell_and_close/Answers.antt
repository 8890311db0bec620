use Rattle.std.proofs.Common.{◌++◌, ◌∷◌, [], slice_get, ap, sym, subst, ◌∙◌}
use Rattle.stamp_table.specs.declared.event.Event.TheVariants.{Told}
use Rattle.stamp_table.specs.Table.{AreAllCores}
use Rattle.stamp_table.proofs.Calling.{fact_may_be_told}
use Rattle.test_table.proofs.table_ends.tell_and_close.Goals as goal

pub tell-requires-clause-may : goal.tell-requires-clause-may
tell-requires-clause-may c = fact_may_be_told _ _ _ _ (λ log. tt) (λ log next place value stood. tt)

pub close-requires : goal.close-requires
close-requires c =
    let told = c.tell.ensures in
    let items = c.push_reserved.ensures.items ∙ ap (λ l. l ++ c.tell.new.self ∷ []) c.requires.room.0 in
    let all = c.requires.all in
    let idle = all.ready.0 in
    subst (λ l. AreAllCores c.args.shared l) (sym items) (record {
      count = all.count;
      leads = ap (λ h. h.leads) told.frame ∙ all.leads;
      ready = (
        record {
          table_is = ap (λ h. h.table) told.frame ∙ idle.table_is;
          cores_are = ap (λ h. h.cores) told.frame ∙ idle.cores_are;
          number_is = ap (λ v. v.core) told.told.2.frame ∙ idle.number_is;
          holds_none = ap (λ h. h.held) told.frame ∙ idle.holds_none;
        },
        tt,
      );
    })

pub returns : goal.returns
returns c =
    let told = c.tell.ensures in
    let items = c.push_reserved.ensures.items ∙ ap (λ l. l ++ c.tell.new.self ∷ []) c.requires.room.0 in
    let ended = c.close.ensures.log in
    let mine = told.told.2.mine ∙ (λ i. c.requires.new.none_mine i ++ Told (record { 0 = c.requires.all.ready.0.number_is i }) 7 ∷ []) in
    record { told = (ended.0, sym (ended.1.mine 0 c.tell.new.self (ap (λ l. slice_get l 0) items)) ∙ mine) }
