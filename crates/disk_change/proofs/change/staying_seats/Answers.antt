use Rattle.std.proofs.Common.{◌≡◌, ◌<◌, ◌+◌, length, map, filter, not, nat_eq, get_or, take, sym, ap, subst, ◌∙◌, arith}
use Rattle.std.proofs.lemmas.List.{take_all}
use Rattle.sfs_base.proofs.BasicNumbers.{not_same}
use Rattle.disk_change.specs.Patched.{IsPatchFor}
use Rattle.disk_nodes.specs.declared.old.OldEntry.{OldEntry}
use Rattle.disk_change.specs.Links.{times_in}
use Rattle.disk_change.specs.Parts.{SeatParts, HavePatches, seat_in, seat_with}
use Rattle.disk_change.specs.Planned.{seated_old, has_listed_node}
use Rattle.disk_change.specs.Seated.{CommitChanges, changes_in, begun_old, net_of_node, seated}
use Rattle.disk_change.proofs.Staying.{seated_in, patch_in, old_begins, stays_more, leaves_more, patches_more}
use Rattle.disk_change.proofs.change.staying_seats.Goals as goal
use Rattle.disk_change.proofs.change.staying_seats.Goals.{then-times_of-eq0+in_ok-old_node+in_ok-seat_of+in_ok-push, else-times_of-eq0}

pub loop-entry-preserved : goal.loop-entry-preserved
loop-entry-preserved c =
    let old = c.args.old.now.items in
    let leaving = c.args.leaving.now in
    let nets = c.args.plans.now.nets.items in
    let changes : CommitChanges = changes_in c.args.plans.now.directories nets c.args.plans.now.files.items in
    let entry : OldEntry = c.entry-item.result in
    let i = c.loop-entry.entry-index in
    let same = c.as_slice-entry-items.ensures.items in
    let long = ap length same in
    let within : i < length old = omega arith in
    let is : entry ≡ get_or old i entry = c.entry-item.is ∙ ap (λ l. get_or l i entry) same in
    let times : c.times_of.result ≡ times_in leaving entry.node.0 = c.times_of.ensures in
    elim c.if-times_of-eq0.branch [
      | then-times_of-eq0+in_ok-old_node+in_ok-seat_of+in_ok-push w ↦
          let seat : SeatParts = w.in_ok-seat_of.field-0 in
          let slots = entry.old.kept.slots in
          let own = w.slots_kept.ensures in
          let seated_is =
          ap (λ l. seat_with l seat) (sym own) ∙ w.in_ok-seat_of.ensures.seat
          ∙ ap (λ l. seated changes (record w.in_ok-old_node.field-0 { slots = l })) own ∙ ap (seated changes) w.in_ok-old_node.ensures in
          let begins = old_begins old c.as_slice-entry-items.ensures.ascending i entry within is in
          let patch =
          patch_in changes old seat slots (begun_old entry) seated_is nets begins
          (subst (λ l. IsPatchFor (net_of_node nets seat.node) seat.end l seat.patch) own w.in_ok-seat_of.ensures.patch) in
          let now = ap (λ v. v.items) w.seats-is ∙ w.in_ok-push.ensures.items in
          subst
          (λ those. record {
            seats : map (seat_in old) those ≡ map (seated_old changes) (filter (λ e. not (has_listed_node leaving e)) (take (i + 1) old));
            patches : HavePatches old nets those;
          })
          (sym now)
          (record {
            seats =
                stays_more changes old leaving i entry within is c.loop-entry.seats.items c.loop-entry.invariant.seats
                (ap (λ n. not (nat_eq n 0)) (sym times ∙ w.if-times_of-eq0.true)) seat (seated_in changes old seat slots (begun_old entry) seated_is begins);
            patches = patches_more old nets c.loop-entry.seats.items seat c.loop-entry.invariant.patches patch;
          })
      | else-times_of-eq0 w ↦
          subst
          (λ those. record {
            seats : map (seat_in old) those ≡ map (seated_old changes) (filter (λ e. not (has_listed_node leaving e)) (take (i + 1) old));
            patches : HavePatches old nets those;
          })
          (sym (ap (λ v. v.items) w.seats-is))
          (record {
            seats =
                leaves_more changes old leaving i entry within is c.loop-entry.seats.items c.loop-entry.invariant.seats
                (ap not (not_same (times_in leaving entry.node.0) 0 (λ e. w.if-times_of-eq0.false (times ∙ e))));
            patches = c.loop-entry.invariant.patches;
          })
    ]

pub returns : goal.returns
returns c =
    let old = c.args.old.now.items in
    let leaving = c.args.leaving.now in
    let long = ap length c.as_slice-entry-items.ensures.items in
    let all = take_all c.loop-entry.entry-index old (omega arith) in
    record {
      seats =
          c.loop-entry.invariant.seats
          ∙ ap (λ l. map (seated_old (changes_in c.args.plans.now.directories c.args.plans.now.nets.items c.args.plans.now.files.items))
          (filter (λ entry. not (has_listed_node leaving entry)) l)) all;
      patches = c.loop-entry.invariant.patches;
    }
