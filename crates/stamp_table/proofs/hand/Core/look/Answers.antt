use Rattle.std.proofs.Common.{subst, sym, ap, ◌∙◌, ◌-◌, ℕ, length, is_some, option_map}
use Rattle.std.specs.Vec.{vec_capacity, vec_len}
use Rattle.sfs_base.specs.declared.numbers.Stamp.{Stamp}
use Rattle.stamp_table.specs.Events.{SeatView, tree_view}
use Rattle.stamp_table.specs.Hand.{LeadsWell, Desk, Hand, spare_of}
use Rattle.stamp_table.specs.Table.{Looked}
use Rattle.stamp_table.proofs.Seats.{sees_down}
use Rattle.stamp_table.proofs.Entering.{has_looked}
use Rattle.stamp_table.proofs.hand.Core.look.Goals as goal

pub invariant_of-self : goal.invariant_of-self
invariant_of-self g c = (
  has_looked g.M.Meaning.lawful g.M.Meaning.stands g.M.Meaning.slot_at g.M.Meaning.place_at g.M.Meaning.one_to_one c.self.inside.seat _ _ _ c.self.invariant.0
      c.look.new.seat c.look.result c.look.ensures.same
      c.look.ensures.looks,
  subst (λ t. LeadsWell t c.self.inside.cores c.self.inside.lead) (sym c.look.ensures.same.table) c.self.invariant.1,
  c.self.invariant.2,
)

pub returns : goal.returns
returns g c =
    let looks = c.look.ensures.looks in
    let before = c.self.inside.seat.me.0 in
    let first = ap (λ (v : SeatView (g.row.G.Denot × ℕ) g.row.X.Denot). v.first) looks.1.frame in
    subst (λ (z : Desk g.row.G.Denot × Hand g.row.C.Denot g.row.X.Denot g.row.G.Denot). Looked (g.M.Meaning.lawful z.0.given) (g.M.Meaning.stands z.0.given)
    z.1 c.look.result (record {
      table = record { id = c.look.new.seat.table_id; given = c.look.new.seat.me.0.first.1.0; measure = c.look.new.seat.me.0.first.1.1 };
      view = tree_view g.M.Meaning.place_at c.look.new.seat.me.0;
      entries = c.self.inside.entries.items;
      waiting = option_map (λ (stamp : Stamp). stamp.0) c.self.inside.waiting;
      held = c.self.inside.held.items;
      spare = spare_of (vec_capacity c.self.inside.entries) (length c.self.inside.entries.items);
      room = vec_capacity c.self.inside.held - vec_len c.self.inside.held;
      leads = is_some c.self.inside.lead;
      cores = c.self.inside.cores;
    }))
    (λ i. ((ap (λ h. h.table) c.self.view_is ∙ c.requires.table) i, c.self.view_is i))
    (record {
      frame = λ i. record {
        table = record { id = c.look.ensures.same.table i; given = (first i).1.0; measure = (first i).1.1 };
        view = tree_view g.M.Meaning.place_at before;
        entries = c.self.inside.entries.items;
        waiting = option_map (λ (stamp : Stamp). stamp.0) c.self.inside.waiting;
        held = c.self.inside.held.items;
        spare = spare_of (vec_capacity c.self.inside.entries) (length c.self.inside.entries.items);
        room = vec_capacity c.self.inside.held - vec_len c.self.inside.held;
        leads = is_some c.self.inside.lead;
        cores = c.self.inside.cores;
      };
      saw = sees_down g.M.Meaning.lawful g.M.Meaning.stands g.M.Meaning.slot_at g.M.Meaning.place_at g.M.Meaning.one_to_one before c.look.new.seat.me.0
          c.look.result looks.1;
    })
