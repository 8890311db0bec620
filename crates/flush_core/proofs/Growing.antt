-- What a call adds to the past, by what it is and what it answers.
use Rattle.std.proofs.Common.{◌≡◌, ℕ, List, [], ◌∷◌, ◌++◌, map, refl, sym, ap, ◌∙◌}
use Rattle.std.proofs.lemmas.List.{append-nil}
use Rattle.sfs_base.specs.declared.numbers.Kind.{Kind}
use Rattle.sfs_base.specs.declared.numbers.NodeId.{NodeId}
use Rattle.tree_laws.specs.declared.history.Entry.{Entry}
use Rattle.tree_laws.specs.declared.call.Call.{Call}
use Rattle.tree_laws.specs.declared.call.Call.TheVariants as call
use Rattle.tree_laws.specs.declared.reply.Reply.TheVariants as reply
use Rattle.tree_laws.specs.Changes.{changes_by}
use Rattle.tree_laws.specs.Verdict.{verdict}
use Rattle.tree_laws.specs.History.{tree_after_entry}
use Rattle.flush_core.specs.declared.past.OwnChange.{OwnChange}
use Rattle.flush_core.specs.declared.past.Past.{Past}
use Rattle.cut_laws.specs.Rules.{Birth, births_by}
use Rattle.flush_core.specs.Past.{row_change_of, birth_of}
use Rattle.flush_core.specs.Plan.{KeepAllAbove, plan_of}
use Rattle.flush_core.specs.Grows.{Grows, HasBirth}
use Rattle.flush_core.proofs.KeptAbove.{noted_plain, noted_more}
use Rattle.flush_core.proofs.Planned.{MakesNone, follows_plan, none_born, makes_node, makes_nothing}

module _ (old new : Past) (entry : Entry) (tree : new.tree ≡ tree_after_entry old.tree entry) where
  -- the births stay
  stay_born : new.births.items ≡ old.births.items → {births : List Birth} → births ≡ []
      → map birth_of new.births.items ≡ map birth_of old.births.items ++ births
  stay_born same none = ap (map birth_of) same ∙ sym (append-nil (map birth_of old.births.items)) ∙ ap (λ l. map birth_of old.births.items ++ l) (sym none)

  grows_none : new.changes.items ≡ old.changes.items → new.births.items ≡ old.births.items
      → changes_by old.tree entry.stamp.0 (verdict old.tree entry.core.0 entry.call).effect ≡ []
      → births_by entry.stamp.0 (verdict old.tree entry.core.0 entry.call).effect (verdict old.tree entry.core.0 entry.call).makes ≡ [] → Grows old entry new
  grows_none same same_births none none_born = record {
    tree = tree;
    more = [];
    changes = same ∙ sym (append-nil old.changes.items);
    own = sym none;
    noted = λ change one. absurd one;
    births = stay_born same_births none_born;
  }

  -- a node was made
  pub grows_born : (middle : Past) (directory node : NodeId) (name : List ℕ) (kind given : Kind) → entry.call ≡ call.Make directory name kind
      → (verdict old.tree entry.core.0 entry.call).reply ≡ reply.Node node given
      → middle.changes.items ≡ old.changes.items → middle.births.items ≡ old.births.items → HasBirth middle new entry.stamp.0 directory.0 name node.0
      → Grows old entry new
  grows_born middle directory node name kind given is answer same same_births has =
      let both =
      makes_node old.tree entry.core.0 entry.stamp.0 directory node name kind given
      (ap (λ (c : Call). (verdict old.tree entry.core.0 c).reply) (sym is) ∙ answer) in
      record {
        tree = tree;
        more = has.change ∷ [];
        changes = has.changes ∙ ap (λ l. l ++ has.change ∷ []) same;
        own = ap (λ r. r ∷ []) has.row ∙ sym both.0 ∙ ap (λ (c : Call). changes_by old.tree entry.stamp.0 (verdict old.tree entry.core.0 c).effect) (sym is);
        noted =
            noted_more old.tree [] (has.change ∷ []) has.change refl (λ change one. absurd one)
            (λ kind alive. noted_plain old.tree has.change entry.stamp.0 directory.0 name node.0 has.row has.above);
        births = has.births ∙ ap (λ l. map birth_of l ++ record { stamp = entry.stamp.0; directory = directory.0; node = node.0 } ∷ []) same_births
            ∙ ap (λ l. map birth_of old.births.items ++ l)
            (sym both.1
            ∙ ap (λ (c : Call). births_by entry.stamp.0 (verdict old.tree entry.core.0 c).effect (verdict old.tree entry.core.0 c).makes) (sym is));
      }

  -- a node could not be made
  pub grows_unborn : (directory : NodeId) (name : List ℕ) (kind : Kind) → entry.call ≡ call.Make directory name kind
      → ((node : NodeId) (given : Kind) → (verdict old.tree entry.core.0 entry.call).reply ≡ reply.Node node given → ⊥)
      → new.changes.items ≡ old.changes.items → new.births.items ≡ old.births.items → Grows old entry new
  grows_unborn directory name kind is differ same same_births =
      let both =
      makes_nothing old.tree entry.core.0 entry.stamp.0 directory name kind
      (λ node given e. differ node given (ap (λ (c : Call). (verdict old.tree entry.core.0 c).reply) is ∙ e)) in
      grows_none same same_births
      (ap (λ (c : Call). changes_by old.tree entry.stamp.0 (verdict old.tree entry.core.0 c).effect) is ∙ both.0)
      (ap (λ (c : Call). births_by entry.stamp.0 (verdict old.tree entry.core.0 c).effect (verdict old.tree entry.core.0 c).makes) is ∙ both.1)

  -- any other call was answered Ok
  pub grows_planned : (planned : List OwnChange) → MakesNone entry.call → (verdict old.tree entry.core.0 entry.call).reply ≡ reply.Ok
      → map row_change_of planned ≡ changes_by old.tree entry.stamp.0 (plan_of old.tree entry.call) → KeepAllAbove old.tree planned
      → new.changes.items ≡ old.changes.items ++ planned → new.births.items ≡ old.births.items → Grows old entry new
  grows_planned planned none ok rows noted more same_births =
      let follows = follows_plan old.tree entry.core.0 entry.stamp.0 entry.call none in
      record {
        tree = tree;
        more = planned;
        changes = more;
        own = rows ∙ sym (follows.ok ok);
        noted = noted;
        births = stay_born same_births (none_born entry.stamp.0 _ _ follows.makes);
      }

  -- or something else
  pub grows_refused : MakesNone entry.call → ((verdict old.tree entry.core.0 entry.call).reply ≡ reply.Ok → ⊥) → new.changes.items ≡ old.changes.items
      → new.births.items ≡ old.births.items → Grows old entry new
  grows_refused none differ same same_births =
      let follows = follows_plan old.tree entry.core.0 entry.stamp.0 entry.call none in
      grows_none same same_births (follows.other differ) (none_born entry.stamp.0 _ _ follows.makes)
