use Rattle.std.proofs.Common.{◌≡◌, ◌<◌, ◌+◌, ◌++◌, [], ◌∷◌, ℕ, List, length, map, filter, not, nat_eq, get_or, take, refl, sym, ap, subst, ◌∙◌, arith}
use Rattle.std.proofs.lemmas.List.{append-nil, append_assoc, map-append, map_more, take_all}
use Rattle.sfs_base.specs.declared.numbers.Kind.TheVariants.{File}
use Rattle.disk_nodes.specs.declared.old.OldEntry.{OldEntry}
use Rattle.disk_change.specs.declared.enter.Enter.{Enter}
use Rattle.disk_change.specs.Parts.{SeatParts, HavePatches, seat_in, seat_with}
use Rattle.disk_change.specs.Patched.{IsPatchFor}
use Rattle.disk_change.specs.Planned.{seated_old, seated_entering, has_listed_node}
use Rattle.disk_change.specs.Seated.{CommitChanges, changes_in, begun_entering, net_of_node, seated}
use Rattle.disk_change.proofs.Staying.{seated_in, patch_in, patches_more}
use Rattle.disk_change.proofs.change.parts_of.Goals as goal

abbrev NO_ENTER : Enter
NO_ENTER = record { node = record { 0 = 0 }; kind = File }

pub loop-one-init : goal.loop-one-init
loop-one-init c = record { seats = sym (append-nil _); patches = c.in_ok-seats.ensures.patches }

pub loop-one-preserved : goal.loop-one-preserved
loop-one-preserved c =
    let old = c.args.old.now.items in
    let nets = c.args.nets.items in
    let changes : CommitChanges = changes_in c.in_ok-directories.directories nets c.args.files.items in
    let enter = c.args.enter.now.items in
    let same = c.as_slice-one-items.ensures.items in
    let long = ap length same in
    let within : c.loop-one.one-index < length enter = omega arith in
    let one : Enter = get_or enter c.loop-one.one-index NO_ENTER in
    let begun = c.entering_node.ensures ∙ ap (λ l. begun_entering (get_or l c.loop-one.one-index NO_ENTER)) same in
    let seat : SeatParts = c.in_ok-seat_of.field-0 in
    let none = c.new-none.ensures in
    let is : seat_with [] seat ≡ seated changes (begun_entering one) =
    ap (λ l. seat_with l seat) (sym none) ∙ c.in_ok-seat_of.ensures.seat ∙ ap (λ l. seated changes (record c.entering_node.result { slots = l })) none
    ∙ ap (λ b. seated changes (record b { slots = [] })) begun in
    let now = c.in_ok-push.ensures.items in
    subst
    (λ those. record {
      seats : map (seat_in old) those ≡ map (seat_in old) c.in_ok-seats.seats.items ++ map (seated_entering changes) (take (c.loop-one.one-index + 1) enter);
      patches : HavePatches old nets those;
    })
    (sym now)
    (record {
      seats =
          map-append (seat_in old) c.loop-one.seats.items (seat ∷ [])
          ∙ (λ i. c.loop-one.invariant.seats i ++ seated_in changes old seat [] (begun_entering one) is refl i ∷ [])
          ∙ append_assoc (map (seat_in old) c.in_ok-seats.seats.items) (map (seated_entering changes) (take c.loop-one.one-index enter))
          (seated_entering changes one ∷ [])
          ∙ ap (λ l. map (seat_in old) c.in_ok-seats.seats.items ++ l) (sym (map_more (seated_entering changes) enter c.loop-one.one-index NO_ENTER within));
      patches =
          patches_more old nets c.loop-one.seats.items seat c.loop-one.invariant.patches
          (patch_in changes old seat [] (begun_entering one) is nets refl
          (subst (λ l. IsPatchFor (net_of_node nets seat.node) seat.end l seat.patch) none c.in_ok-seat_of.ensures.patch));
    })

pub returns : goal.returns
returns c =
    let old = c.args.old.now.items in
    let enter = c.args.enter.now.items in
    let nets = c.args.nets.items in
    let files = c.args.files.items in
    let dirs = c.in_ok-directories.ensures in
    let long = ap length c.as_slice-one-items.ensures.items in
    let listed =
    ap (λ (numbers : List ℕ). filter (λ entry. not (has_listed_node numbers entry)) old) c.deref.ensures.value
    ∙ (λ i. filter (λ (entry : OldEntry). not (not (nat_eq (c.in_ok-leaving.ensures.same entry.node.0 i) 0))) old) in
    record {
      seats =
          c.loop-one.invariant.seats
          ∙ (λ i. c.in_ok-seats.ensures.seats i
          ++ map (seated_entering (changes_in c.in_ok-directories.directories nets files)) (take_all c.loop-one.one-index enter (omega arith) i))
          ∙ (λ i. map (seated_old (changes_in (dirs i) nets files)) (listed i) ++ map (seated_entering (changes_in (dirs i) nets files)) enter);
      gone = λ i. filter (λ (entry : OldEntry). not (nat_eq (c.in_ok-leaving.ensures.same entry.node.0 i) 0)) old;
      changes = λ i. changes_in (dirs i) nets files;
      sorted = c.in_ok-leaving.ensures.sorted;
      patches = c.loop-one.invariant.patches;
    }
