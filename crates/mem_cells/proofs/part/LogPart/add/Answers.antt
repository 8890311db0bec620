use Rattle.std.proofs.Common.{rules, ◌≡◌, ◌≤◌, ◌∷◌, ◌++◌, List, filter, length, refl, ap, ◌∙◌, sym, subst}
use Rattle.std.specs.Prelude.{All}
use Rattle.std.proofs.lemmas.List.Elements.{All-head}
use Rattle.tree_laws.specs.declared.changes.Change.{Change}
use Rattle.tree_laws.specs.Logged.{is_logged_in}
use Rattle.mem_cells.specs.Log.{log_place, IsInOrder}
use Rattle.mem_cells.specs.Part.{changes_kept, room_kept, StandBehind}
use Rattle.mem_cells.proofs.Logs.{joined_on, room_left}
use Rattle.mem_cells.proofs.Order.{in_order-drop, still_behind}
use Rattle.mem_cells.proofs.part.LogPart.add.Goals as goal

pub loop-change-init : goal.loop-change-init
loop-change-init c =
    let part = c.args.self.now in
    let gives : c.into_iter-change-iterator.result.rest.items ≡ c.args.entry.items = search rules in
    record {
      changes = λ dir. ap (λ (those : List Change). changes_kept part dir ++ filter (is_logged_in dir) those) gives;
      marks = λ dir. refl;
      entries = refl;
      room = λ dir. subst (λ (those : List Change). length (filter (is_logged_in dir) those) ≤ room_kept part dir) (sym gives) (c.requires.room dir);
      order = subst IsInOrder (sym gives) c.requires.order;
      behind = subst (λ (those : List Change). StandBehind those (changes_kept part)) (sym gives) c.requires.behind;
    }

pub push-requires-clause-last : goal.push-requires-clause-last
push-requires-clause-last c =
    let kept = changes_kept c.loop-change.self in
    All-head (λ (change : Change). All (λ other. log_place other ≤ log_place change) (kept change.dir.0)) c.in-Some.change c.next.new.self.rest.items
    (subst (λ (rest : List Change). StandBehind rest kept) c.in-Some.ensures.steps.0 c.loop-change.invariant.behind)

pub loop-change-preserved : goal.loop-change-preserved
loop-change-preserved c =
    let change = c.in-Some.change in
    let rest = c.next.new.self.rest.items in
    let before = c.loop-change.self in
    record {
      changes = λ dir.
          ap (λ (those : List Change). those ++ filter (is_logged_in dir) rest) (c.push.ensures.puts.changes dir)
          ∙ joined_on (is_logged_in dir change) (changes_kept before dir) change (filter (is_logged_in dir) rest)
          (changes_kept c.args.self.now dir ++ filter (is_logged_in dir) c.args.entry.items)
          (ap (λ (those : List Change). changes_kept before dir ++ filter (is_logged_in dir) those) (sym c.in-Some.ensures.steps.0)
          ∙ c.loop-change.invariant.changes dir);
      marks = λ dir. c.push.ensures.puts.marks dir ∙ c.loop-change.invariant.marks dir;
      entries = c.push.ensures.entries ∙ c.loop-change.invariant.entries;
      room = λ dir.
          room_left (is_logged_in dir change) change (filter (is_logged_in dir) rest) (room_kept before dir) (room_kept c.push.new.self dir)
          (subst (λ (those : List Change). length (filter (is_logged_in dir) those) ≤ room_kept before dir) c.in-Some.ensures.steps.0
          (c.loop-change.invariant.room dir))
          (c.push.ensures.puts.room dir);
      order = in_order-drop 1 (change ∷ rest) (subst IsInOrder c.in-Some.ensures.steps.0 c.loop-change.invariant.order);
      behind =
          still_behind change rest (changes_kept before) (changes_kept c.push.new.self) c.push.ensures.puts.changes
          (subst IsInOrder c.in-Some.ensures.steps.0 c.loop-change.invariant.order)
          (subst (λ (those : List Change). StandBehind those (changes_kept before)) c.in-Some.ensures.steps.0 c.loop-change.invariant.behind);
    }
