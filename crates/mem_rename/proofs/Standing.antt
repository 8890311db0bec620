-- A bucket that is held under the lock, and let go.
use Rattle.std.proofs.Common.{◌≡◌, ℕ, ◌<◌, ◌≤◌, cond, List, [], ◌∷◌, ◌++◌, length, reverse, Option, Some, refl, sym, ap, subst, ◌∙◌, arith, nat_le}
use borrow.Author.Tests.{le-leb}
use mathlib.Core.List.{IsPrefix}
use Rattle.sfs_base.specs.declared.numbers.NodeId.{NodeId}
use Rattle.disk_nodes.specs.OldKept.{OldKept}
use Rattle.tree_laws.specs.Tree.{TreeState}
use Rattle.tree_laws.specs.History.{tree_after, IsLegal}
use Rattle.tree_laws.specs.Laws.{IsSoundTree}
use Rattle.stamp_table.specs.declared.event.Event.{Event}
use Rattle.stamp_table.specs.declared.view.View.{View}
use Rattle.stamp_table.specs.declared.held.HeldCell.{HeldCell}
use Rattle.stamp_table.specs.Events.{calls_in}
use Rattle.stamp_table.specs.Rule.{Has}
use Rattle.stamp_table.specs.Hand.{places_of}
use Rattle.stamp_table.specs.Ascending.{Falls}
use Rattle.stamp_table.specs.Table.{LetsGo, left_below}
use Rattle.mem_values.specs.Start.{FileHand, FileState}
use Rattle.mem_values.specs.declared.cell.Cell.{Cell}
use Rattle.mem_values.specs.declared.bucket.Bucket.{Bucket}
use Rattle.mem_values.specs.declared.cell_id.CellId.TheVariants as id
use Rattle.mem_values.specs.declared.fact.Fact.{Fact}
use Rattle.mem_values.specs.Stands.{ShowsBucket, StandsAt}
use Rattle.mem_values.specs.Laws.{KnowsCell, KnowsCells}
use Rattle.mem_calls.specs.Table.{IsFileTable}
use Rattle.mem_calls.specs.Held.{bucket_held}
use Rattle.mem_calls.specs.Working.{IsWorking, Gains}
use Rattle.mem_calls.proofs.Shown.{bucket_shows}
use Rattle.mem_calls.proofs.Stamped.{counted}
use Rattle.mem_rename.specs.Ways.{HoldsLock, ReadsOn, SawStanding, tree_seen}

-- of the lock and a cell above it the lock is left
lock_left : (lock last : HeldCell Cell) → lock.place ≡ 0 → 1 ≤ last.place → left_below 1 (lock ∷ last ∷ []) ≡ lock ∷ []
lock_left lock last place above =
    ap (λ b. reverse (cond b (cond (nat_le 1 lock.place) [] (lock ∷ [])) (last ∷ lock ∷ []))) (le-leb 1 last.place above)
    ∙ ap (λ (p : ℕ). reverse (cond (nat_le 1 p) [] (lock ∷ []))) place

module _ (given : ℕ → Option OldKept) (t : FileState) (nodes : ℕ) (table : IsFileTable t nodes) (node : NodeId) (within : node.0 < nodes)
    (before mid after : FileHand)
    (work : IsWorking given t before) (lock : HoldsLock before) (work_mid : IsWorking given t mid) (gains : Gains nodes (id.Bucket node 0) before mid)
    (lets : LetsGo mid after) (left : after.held ≡ left_below 1 mid.held) (places : after.view.held ≡ reverse (places_of after.held)) where
  both_held : mid.held ≡ lock.lock ∷ gains.held.0 ∷ []
  both_held = gains.held.1 ∙ ap (λ l. l ++ gains.held.0 ∷ []) lock.alone

  held_after : after.held ≡ before.held
  held_after = left ∙ (ap (left_below 1) both_held
      ∙ (lock_left lock.lock gains.held.0 lock.place (subst (λ p. 1 ≤ p) (sym gains.held.2) (omega arith)) ∙ sym lock.alone))

  view_held_after : after.view.held ≡ before.view.held
  view_held_after = places ∙ (ap (λ (l : List (HeldCell Cell)). reverse (places_of l)) held_after ∙ sym work.places)

  seen_after : after.view.seen ≡ mid.view.seen
  seen_after = ap (λ (v : View TreeState (Event Fact)). v.seen) lets.view

  first_mid : mid.view.first ≡ before.view.first
  first_mid = ap (λ (v : View TreeState (Event Fact)). v.first) gains.on.view

  first_after : after.view.first ≡ before.view.first
  first_after = ap (λ (v : View TreeState (Event Fact)). v.first) lets.view ∙ first_mid

  room_after : after.room ≡ before.room
  room_after = let a = lets.room in let b = gains.on.room in let c = ap length held_after in omega (arith, a, b, c)

  on : ReadsOn before after
  on = record {
    frame = (λ i. record after { view = before.view; held = held_after i; room = room_after i })
        ∙ (ap (λ (h : FileHand). record h { view = before.view; held = before.held; room = before.room }) lets.frame ∙ gains.on.frame);
    view = (λ i. record after.view { seen = before.view.seen; held = view_held_after i })
        ∙ (ap (λ (v : View TreeState (Event Fact)). record v { seen = before.view.seen; held = before.view.held }) lets.view ∙ gains.on.view);
    seen = subst (IsPrefix before.view.seen) (sym seen_after) gains.on.seen;
    legal = subst (λ (z : TreeState × List (Event Fact)). IsLegal z.0 (calls_in z.1)) (λ i. (first_mid i, sym seen_after i)) gains.legal;
  }

  lock_known : KnowsCell given after.view lock.lock
  lock_known =
      let here = (subst (KnowsCells given before.view) lock.alone work.knows).0 in
      let knew = (subst (KnowsCells given mid.view) both_held work_mid.knows).0 in
      record {
        holds = subst (λ l. Has l lock.lock.place) (sym view_held_after) here.holds;
        stood = subst (λ (z : TreeState × List (Event Fact)). StandsAt given z.0 z.1 lock.lock.place lock.lock.value)
            (λ i. ((first_mid ∙ sym first_after) i, sym seen_after i)) knew.stood;
      }

  pub works_after : IsWorking given t after
  works_after = record {
    table = ap (λ (h : FileHand). h.table) on.frame ∙ work.table;
    first = first_after ∙ work.first;
    core = subst (λ n. n < length t.first.made) (sym (ap (λ (v : View TreeState (Event Fact)). v.core) on.view)) work.core;
    places = places;
    falls = subst Falls (sym view_held_after) work.falls;
    knows = subst (KnowsCells given after.view) (sym (held_after ∙ lock.alone)) (lock_known, tt);
  }

  tree_same : tree_after mid.view.first (calls_in mid.view.seen) ≡ tree_seen after
  tree_same = λ i. tree_after ((first_mid ∙ sym first_after) i) (calls_in (sym seen_after i))

  pub saw : (bucket : Bucket) → bucket_held nodes mid.held node 0 ≡ Some bucket → SawStanding node.0 before bucket.stands after
  saw bucket is = record {
    on = on;
    met = record {
      sound = subst IsSoundTree tree_same gains.seen_met.sound;
      first = ap (λ (x : TreeState). x.first) (sym tree_same) ∙ (gains.seen_met.first ∙ ap (λ (f : TreeState). f.first) (first_mid ∙ sym first_after));
      share = ap (λ (x : TreeState). x.share) (sym tree_same) ∙ (gains.seen_met.share ∙ ap (λ (f : TreeState). f.share) (first_mid ∙ sym first_after));
      cores = ap (λ (x : TreeState). length x.made) (sym tree_same)
          ∙ (gains.seen_met.cores ∙ ap (λ (f : TreeState). length f.made) (first_mid ∙ sym first_after));
      shows = tt;
    };
    bucket = bucket;
    shows = subst (λ (x : TreeState). ShowsBucket x node.0 0 bucket) tree_same
        (bucket_shows mid nodes (counted given t nodes mid table work_mid)
        (tree_after mid.view.first (calls_in mid.view.seen)) gains.seen_met node 0 bucket within (omega arith) is);
    stands = refl;
  }
