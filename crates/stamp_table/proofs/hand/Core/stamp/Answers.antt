use Rattle.std.proofs.Common.{rules, ◌≡◌, subst, ap, sym, ◌∙◌, ◌<◌, ◌-◌, ◌++◌, ◌∷◌, [], ℕ, List, Option, length, is_some, option_map}
use Rattle.std.specs.Vec.{vec_capacity, vec_len}
use Rattle.stamp_table.specs.declared.event.Event.TheVariants.{Called}
use Rattle.stamp_table.specs.Events.{event_core, is_call, SeatView, tree_view, LawfulFrom, StandsFrom}
use Rattle.stamp_table.specs.Steps.{Drew}
use Rattle.stamp_table.specs.Placing.{by_given, at_slots}
use Rattle.sfs_base.specs.declared.numbers.Stamp.{Stamp}
use Rattle.tree_laws.specs.declared.history.Entry.{Entry}
use Rattle.stamp_table.specs.Table.{MayCall, Stamps, entry_numbered}
use Rattle.tree_laws.specs.Tree.{TreeState}
use Rattle.stamp_table.specs.declared.event.Event.{Event}
use Rattle.stamp_table.specs.declared.view.View.{View}
use Rattle.stamp_table.specs.Hand.{IsCore, LeadsWell, WaitsWell, Desk, Hand, spare_of}
use Rattle.stamp_table.proofs.Seats.{drew_down}
use Rattle.stamp_table.proofs.Entering.{may_enter, entered, waits_now, below_most}
use Rattle.stamp_table.proofs.hand.Core.stamp.Goals as goal

pub draw-number-requires-clause-entry : goal.draw-number-requires-clause-entry
draw-number-requires-clause-entry g c = may_enter g.M.Meaning.lawful g.M.Meaning.stands g.M.Meaning.slot_at g.M.Meaning.place_at g.M.Meaning.one_to_one
    c.self.inside.seat _ _ _ c.self.invariant.0 c.args.call c.args.reply
    (below_most _ _ (subst (λ (n : ℕ). 0 < n) (ap (λ h. h.spare) (sym c.self.view_is)) c.requires.spare))
    (subst (λ (z : Desk g.row.G.Denot × View TreeState (Event g.row.X.Denot)). MayCall (g.M.Meaning.lawful z.0.given) (g.M.Meaning.stands z.0.given) z.1
    c.args.call c.args.reply)
    (λ i. ((sym c.requires.table ∙ ap (λ h. h.table) (sym c.self.view_is)) i, ap (λ h. h.view) (sym c.self.view_is) i)) c.requires.may)

pub invariant_of-self : goal.invariant_of-self
invariant_of-self g c = (
  subst (λ (l : List Entry). IsCore g.M.Meaning.place_at c.draw-number.new.seat c.self.inside.number.0 l c.self.inside.held.items)
      (sym c.push_reserved.ensures.items)
      (entered g.M.Meaning.lawful g.M.Meaning.stands g.M.Meaning.slot_at g.M.Meaning.place_at g.M.Meaning.one_to_one c.self.inside.seat _ _ _
      c.self.invariant.0 c.args.call c.args.reply c.draw-number.new.seat
      c.draw-number.result
      (below_most _ _ (subst (λ (n : ℕ). 0 < n) (ap (λ h. h.spare) (sym c.self.view_is)) c.requires.spare)) c.draw-number.ensures.same
      c.draw-number.ensures.adds),
  subst (λ t. LeadsWell t c.self.inside.cores c.self.inside.lead) (sym c.draw-number.ensures.same.table) c.self.invariant.1,
  subst (λ (z : List Entry × Option Stamp). WaitsWell z.0 z.1) (λ i. (sym c.push_reserved.ensures.items i, sym c.waiting_with-self-inside.ensures i))
      (waits_now c.self.inside.entries.items c.args.call c.args.reply c.self.inside.number.0 c.draw-number.result),
)

pub returns : goal.returns
returns g c =
    let drew = c.draw-number.ensures.adds.1.1 in
    let before = c.self.inside.seat.me.0 in
    let first = ap (λ (v : SeatView (g.row.G.Denot × ℕ) g.row.X.Denot). v.first) drew.frame in
    let number = c.self.invariant.0.number_known in
    let entry : ℕ → Entry = entry_numbered before.core c.args.call c.args.reply in
    let own : c.push_reserved.new.self.items ≡ c.self.inside.entries.items ++ entry c.draw-number.result ∷ [] =
    c.push_reserved.ensures.items ∙ ap (λ n. c.self.inside.entries.items ++ entry_numbered n c.args.call c.args.reply c.draw-number.result ∷ []) (sym number) in
    subst (λ (z : Desk g.row.G.Denot × Hand g.row.C.Denot g.row.X.Denot g.row.G.Denot). Stamps (g.M.Meaning.lawful z.0.given) (g.M.Meaning.stands z.0.given)
    c.args.call c.args.reply z.1 c.draw-number.result (record {
      table = record { id = c.draw-number.new.seat.table_id; given = c.draw-number.new.seat.me.0.first.1.0; measure = c.draw-number.new.seat.me.0.first.1.1 };
      view = tree_view g.M.Meaning.place_at c.draw-number.new.seat.me.0;
      entries = c.push_reserved.new.self.items;
      waiting = option_map (λ (stamp : Stamp). stamp.0) c.waiting_with-self-inside.result;
      held = c.self.inside.held.items;
      spare = spare_of (vec_capacity c.push_reserved.new.self) (length c.push_reserved.new.self.items);
      room = vec_capacity c.self.inside.held - vec_len c.self.inside.held;
      leads = is_some c.self.inside.lead;
      cores = c.self.inside.cores;
    }))
    (λ i. ((ap (λ h. h.table) c.self.view_is ∙ c.requires.table) i, c.self.view_is i))
    (record {
      frame = λ i. record {
        table = record { id = c.draw-number.ensures.same.table i; given = (first i).1.0; measure = (first i).1.1 };
        view = tree_view g.M.Meaning.place_at before;
        entries = c.self.inside.entries.items;
        waiting = option_map (λ (stamp : Stamp). stamp.0) c.self.inside.waiting;
        held = c.self.inside.held.items;
        spare = spare_of (vec_capacity c.self.inside.entries) (length c.self.inside.entries.items);
        room = vec_capacity c.self.inside.held - vec_len c.self.inside.held;
        leads = is_some c.self.inside.lead;
        cores = c.self.inside.cores;
      };
      spare = search rules;
      entries = own;
      waiting = search rules;
      drew = (
        c.draw-number.ensures.adds.1.0,
        drew_down g.M.Meaning.lawful g.M.Meaning.stands g.M.Meaning.slot_at g.M.Meaning.place_at g.M.Meaning.one_to_one before c.draw-number.new.seat.me.0
            (λ n. Called (entry n)) c.draw-number.result c.draw-number.ensures.adds.1.0
            (subst (λ k. Drew event_core is_call (LawfulFrom (by_given g.M.Meaning.lawful)) (StandsFrom (at_slots g.M.Meaning.place_at g.M.Meaning.stands))
            (λ n. Called (entry_numbered k c.args.call c.args.reply n)) before c.draw-number.result c.draw-number.new.seat.me.0
            c.draw-number.ensures.adds.1.0) (sym number) drew),
      );
    })
