-- What was gathered of noted copies is a look for the fsync, and the nodes that it concerns are nodes of the table.
use Rattle.std.proofs.Common.{◌≡◌, ℕ, ◌<◌, Bool, true, false, map, length, None, refl, sym, ap, ◌∙◌, subst}
use Rattle.std.specs.Prelude.{if◌then◌else◌}
use Rattle.sfs_base.specs.declared.numbers.NodeId.{NodeId}
use Rattle.sfs_base.specs.Listed.{is_listed}
use Rattle.tree_laws.specs.NameRow.{node_number}
use Rattle.tree_laws.specs.History.{IsLegal, tree_after}
use Rattle.tree_laws.specs.Laws.{IsSoundTree}
use Rattle.tree_laws.specs.Tree.{TreeState}
use Rattle.cut_laws.specs.Rules.{IsOneOf}
use Rattle.cut_laws.proofs.Listed.{to_map, listed_one}
use Rattle.look_laws.specs.Look.{Born}
use Rattle.dep_closure.specs.Gathered.{IsOrderly}
use Rattle.core_logs.proofs.Ordered.{all_of}
use Rattle.flush_plan.specs.Concerned.{IsConcernOf}
use Rattle.stamp_table.specs.declared.event.Event.{Event}
use Rattle.stamp_table.specs.declared.view.View.{View}
use Rattle.stamp_table.specs.Events.{calls_in}
use Rattle.mem_values.specs.Start.{FileHand}
use Rattle.mem_values.specs.declared.fact.Fact.{Fact}
use Rattle.mem_values.specs.Places.{node_count}
use Rattle.mem_values.proofs.Moves.{sound_after}
use Rattle.mem_calls.specs.Held.{pending_held}
use Rattle.mem_calls.proofs.Faults.{node_within}
use Rattle.note_laws.specs.Notes.{HasNotedAll, calls_noted}
use Rattle.note_laws.specs.Merged.{AreMergedOf}
use Rattle.note_laws.specs.There.{look_noted, SawBirth, GathersByNotes}
use Rattle.note_laws.proofs.There.{touched_were_there}
use Rattle.note_laws.proofs.Along.{legal_begin}
use Rattle.fsync_look.specs.Look.{IsBelow}
use Rattle.fsync_gather.specs.Gathers.{GathersNodes}
use Rattle.fsync_catch.specs.Catch.{IsLook}
use Rattle.fsync_catch.specs.declared.looking.Caught.{Caught}
use Rattle.fsync_catch.proofs.Noted.{Copying, IsCopying, noted, has_noted, merged_for}
use Rattle.fsync_catch.proofs.Counts.{same_count}

-- What was caught by copies: it is in order, merged of them, has of the nodes what is held, and concerns what it does.
pub record CatchesBy (s : Copying) (caught : Caught) : Type 0 where
  pub orderly : IsOrderly caught.gathered
  pub merged : AreMergedOf s.copies caught.gathered.logs.items
  pub gathers : GathersNodes s.nodes s.after.held s.list caught.gathered
  pub concern_is : IsConcernOf s.fsync.node s.fsync.stamp caught.gathered caught.concern

module _ (s : Copying) (is : IsCopying s) (sound : IsSoundTree s.before.view.first) (some_core : 0 < length s.before.view.first.made)
    (counted : s.nodes ≡ node_count s.before.view.first) (caught : Caught) (by_copies : CatchesBy s caught) where
  abbrev first : TreeState
  first = s.before.view.first

  held_same : s.after.held ≡ s.before.held
  held_same = ap (λ (h : FileHand). h.held) is.saw.frame

  first_same : s.after.view.first ≡ first
  first_same = ap (λ (v : View TreeState (Event Fact)). v.first) is.saw.view

  -- where a node was made was seen of it
  saw_birth : (born : Born) → IsOneOf (look_noted (noted s is) caught.gathered).born born → SawBirth (noted s is) born
  saw_birth born one = by (is_listed (map node_number s.list) born.node) refl
    where
      by : (b : Bool) → is_listed (map node_number s.list) born.node ≡ b → SawBirth (noted s is) born
      by true listed =
          let gathers = by_copies.gathers.each born.node listed in
          record {
            value = gathers.value;
            seen = ap (λ b. if b then pending_held s.nodes s.before.held (record { 0 = born.node }) else None) listed
                ∙ ap (λ cells. pending_held s.nodes cells (record { 0 = born.node })) (sym held_same) ∙ gathers.held;
            made_in = (gathers.born born.directory).0 one;
          }
      by false none = absurd (by_copies.gathers.other_births born.node born.directory none one)

  by_notes : GathersByNotes (record { given = s.given; first = first; log = s.after.view.seen }) (noted s is) caught.gathered
  by_notes = record {
    sound = sound;
    legal = is.legal;
    some_core = some_core;
    notes = has_noted s is;
    merged = merged_for s is caught.gathered.logs.items by_copies.merged;
    births = λ born one gathers. saw_birth born one;
  }

  concerned_below : (node : NodeId) → IsOneOf caught.concern.nodes.items node → IsBelow s.nodes node
  concerned_below node one =
      let listed = (listed_one (map node_number caught.concern.nodes.items) node.0).1 (to_map node_number caught.concern.nodes.items node one) in
      let touches = (by_copies.concern_is.nodes.each node.0).0 listed in
      let was = touched_were_there (record { given = s.given; first = first; log = s.after.view.seen }) (noted s is) caught.gathered node.0 by_notes touches in
      let part = (has_noted s is).each was.part was.known in
      let legal = legal_begin first ((noted s is).notes was.part).at part.rest s.after.view.seen part.whole is.legal in
      let calls = calls_noted (noted s is) was.part in
      let within = node_within (tree_after first calls) (sound_after first 0 calls sound legal) node.0 was.there in
      subst (λ n. node.0 < n) (same_count first calls ∙ sym counted) within

  look_before : IsLook s.given s.nodes s.fsync s.list s.after caught
  look_before = record {
    noted = noted s is;
    core_is = sym (ap (λ (v : View TreeState (Event Fact)). v.core) is.saw.view);
    node_is = refl;
    stamp_is = refl;
    saw = ap (λ cells. λ (node : ℕ). if is_listed (map node_number s.list) node then pending_held s.nodes cells (record { 0 = node }) else None)
        (sym held_same);
    notes = subst (λ f. HasNotedAll (record { given = s.given; first = f; log = s.after.view.seen }) (noted s is)) (sym first_same) (has_noted s is);
    orderly = by_copies.orderly;
    merged = merged_for s is caught.gathered.logs.items by_copies.merged;
    gathers = by_copies.gathers;
    concern_is = by_copies.concern_is;
    within = all_of (IsBelow s.nodes) caught.concern.nodes.items concerned_below;
    legal = subst (λ f. IsLegal f (calls_in s.after.view.seen)) (sym first_same) is.legal;
    lawful = subst (λ f. Rattle.mem_values.specs.Facts.IsLawfulLog s.given f s.after.view.seen) (sym first_same) is.lawful;
  }

  pub is_look : IsLook s.given s.nodes s.fsync s.list s.after caught
  is_look = look_before
