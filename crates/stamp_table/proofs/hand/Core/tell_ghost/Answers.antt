use Rattle.std.proofs.Common.{subst, ap, sym, ◌∙◌, ◌-◌, ℕ, length, is_some, option_map}
use Rattle.std.specs.Vec.{vec_capacity, vec_len}
use Rattle.sfs_base.specs.declared.numbers.Stamp.{Stamp}
use Rattle.stamp_table.specs.Events.{SeatView, tree_view, told_by}
use Rattle.tree_laws.specs.Tree.{TreeState}
use Rattle.stamp_table.specs.declared.event.Event.{Event}
use Rattle.stamp_table.specs.declared.view.View.{View}
use Rattle.stamp_table.specs.Table.{MayTell, TellsFact}
use Rattle.stamp_table.specs.Hand.{LeadsWell, Desk, Hand, spare_of}
use Rattle.stamp_table.proofs.Seats.{drew_down}
use Rattle.stamp_table.proofs.Entering.{has_told, may_tell_now}
use Rattle.stamp_table.proofs.hand.Core.tell_ghost.Goals as goal

pub tell-requires-clause-may : goal.tell-requires-clause-may
tell-requires-clause-may g c = (
  c.requires.may.0,
  c.requires.may.1,
  may_tell_now g.M.Meaning.lawful g.M.Meaning.stands g.M.Meaning.slot_at g.M.Meaning.place_at g.M.Meaning.one_to_one c.self.inside.seat _ _ _
      c.self.invariant.0 c.requires.may.0
      (subst (λ (z : Desk g.row.G.Denot × View TreeState (Event g.row.X.Denot)). MayTell (g.M.Meaning.lawful z.0.given) (g.M.Meaning.stands z.0.given) z.1
      c.requires.may.0)
      (λ i. ((sym c.requires.table ∙ ap (λ h. h.table) (sym c.self.view_is)) i, ap (λ h. h.view) (sym c.self.view_is) i)) c.requires.may.2),
)

pub invariant_of-self : goal.invariant_of-self
invariant_of-self g c = (
  has_told g.M.Meaning.lawful g.M.Meaning.stands g.M.Meaning.slot_at g.M.Meaning.place_at g.M.Meaning.one_to_one c.self.inside.seat _ _ _ c.self.invariant.0
      c.tell.new.seat c.requires.may.0 c.tell.ensures.same
      (c.tell.ensures.adds c.requires.may.0 c.requires.may.1),
  subst (λ t. LeadsWell t c.self.inside.cores c.self.inside.lead) (sym c.tell.ensures.same.table) c.self.invariant.1,
  c.self.invariant.2,
)

pub returns : goal.returns
returns g c fact picked =
    let adds = c.tell.ensures.adds fact picked in
    let drew = adds.1.1.1 in
    let before = c.self.inside.seat.me.0 in
    let first = ap (λ (v : SeatView (g.row.G.Denot × ℕ) g.row.X.Denot). v.first) drew.frame in
    subst (λ (z : Desk g.row.G.Denot × Hand g.row.C.Denot g.row.X.Denot g.row.G.Denot). TellsFact (g.M.Meaning.lawful z.0.given)
    (g.M.Meaning.stands z.0.given) fact z.1 (record {
      table = record { id = c.tell.new.seat.table_id; given = c.tell.new.seat.me.0.first.1.0; measure = c.tell.new.seat.me.0.first.1.1 };
      view = tree_view g.M.Meaning.place_at c.tell.new.seat.me.0;
      entries = c.self.inside.entries.items;
      waiting = option_map (λ (stamp : Stamp). stamp.0) c.self.inside.waiting;
      held = c.self.inside.held.items;
      spare = spare_of (vec_capacity c.self.inside.entries) (length c.self.inside.entries.items);
      room = vec_capacity c.self.inside.held - vec_len c.self.inside.held;
      leads = is_some c.self.inside.lead;
      cores = c.self.inside.cores;
    }))
    (λ i. ((ap (λ h. h.table) c.self.view_is ∙ c.requires.table) i, c.self.view_is i))
    (record {
      frame = λ i. record {
        table = record { id = c.tell.ensures.same.table i; given = (first i).1.0; measure = (first i).1.1 };
        view = tree_view g.M.Meaning.place_at before;
        entries = c.self.inside.entries.items;
        waiting = option_map (λ (stamp : Stamp). stamp.0) c.self.inside.waiting;
        held = c.self.inside.held.items;
        spare = spare_of (vec_capacity c.self.inside.entries) (length c.self.inside.entries.items);
        room = vec_capacity c.self.inside.held - vec_len c.self.inside.held;
        leads = is_some c.self.inside.lead;
        cores = c.self.inside.cores;
      };
      told = (
        adds.1.1.0,
        adds.0,
        drew_down g.M.Meaning.lawful g.M.Meaning.stands g.M.Meaning.slot_at g.M.Meaning.place_at g.M.Meaning.one_to_one before c.tell.new.seat.me.0
            (told_by before.core fact) adds.0 adds.1.1.0 drew,
      );
    })
