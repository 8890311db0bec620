-- What breaks a rule in a past breaks it in its history, and where nothing does the rule holds.
use Rattle.std.proofs.Common.{◌≡◌, ℕ, ◌<◌, ◌≤◌, ◌↔◌, Bool, true, false, List, [], ◌∷◌, length, take, Option, Some, None, inl, inr, refl, sym, ap, subst, ◌∙◌, arith, Vec, Global}
use Rattle.std.specs.Option.{option_map_or}
use Rattle.tree_laws.specs.declared.history.Entry.{Entry}
use Rattle.tree_laws.specs.Tree.{TreeState, row_of, is_directory}
use Rattle.tree_laws.specs.Sound.{Above}
use Rattle.tree_laws.specs.Changes.{RowChange}
use Rattle.tree_laws.specs.History.{tree_after, IsLegal}
use Rattle.tree_laws.specs.Laws.{IsSoundTree}
use Rattle.tree_laws.proofs.FileHistories.{histories_keep_sound}
use Rattle.flush_core.specs.declared.past.OwnChange.{OwnChange}
use Rattle.flush_core.specs.declared.past.BornNode.{BornNode}
use Rattle.flush_core.specs.declared.past.Past.{Past}
use Rattle.flush_core.specs.declared.rules.Rule.{Rule}
use Rattle.flush_core.specs.declared.rules.Rule.TheVariants as rule
use Rattle.cut_laws.specs.Cut.{Cut, cut_of, IsWithin}
use Rattle.cut_laws.specs.Rules.{IsOneOf, IsChange, IsMove, IsLastPlacing, Birth, births_of, RenamesWhole, RemovalsWhole, BirthsKept, AncestorsKept}
use Rattle.flush_core.specs.Past.{IsPast, row_change_of, birth_of}
use Rattle.flush_core.specs.Engine.{above_of}
use Rattle.flush_core.specs.Broken.{CutKeeps, rule_place, IsFirstBroken, SomeIs, IsSplit, LeavesChange, IsBornLate, PlacesBelow, IsLatest, LacksAncestor}
use Rattle.cut_laws.proofs.Basics.{below_or}
use Rattle.sfs_base.proofs.BasicTruth.{not_both}
use Rattle.cut_laws.proofs.Listed.{from_map, to_map}
use Rattle.cut_laws.proofs.Along.{tree_at, core_at, effect_at, makes_at, tree_at-after, sound_at, fits_at, change_of}
use Rattle.cut_laws.proofs.Lives.{live_own}
use Rattle.flush_core.proofs.Required.{kept_change, change_kept}
use Rattle.flush_core.proofs.Ways.{row_on_way, next_on_way}

-- a rule is the first that is broken, where those before it hold
pub first_broken : (first : TreeState) (history : List Entry) (cut : Cut) (broken : Rule) → (CutKeeps first history cut broken → ⊥)
    → (1 < rule_place broken → RenamesWhole first history cut) → (2 < rule_place broken → RemovalsWhole first history cut)
    → (3 < rule_place broken → BirthsKept first history cut) → IsFirstBroken first history cut broken
first_broken first history cut broken breaks renames removals births = record { breaks = breaks; before = before }
  where
    most : (r : Rule) → rule_place r ≤ 4
    most rule.Renames = omega arith
    most rule.Removals = omega arith
    most rule.Births = omega arith
    most rule.Ancestors = omega arith

    before : (other : Rule) → rule_place other < rule_place broken → CutKeeps first history cut other
    before rule.Renames lt = renames lt
    before rule.Removals lt = removals lt
    before rule.Births lt = births lt
    before rule.Ancestors lt = let le = most broken in absurd (omega arith)

-- what changes is a directory of the tree before
changed_kind : (first : TreeState) (history : List Entry) → IsSoundTree first → IsLegal first history → (change : RowChange) → IsChange first history change
    → is_directory (tree_after first (take change.stamp history)) change.directory ≡ true
changed_kind first history sound legal change one =
    let t = change.stamp in
    let live =
    live_own (tree_at first history t) (core_at first history t) t (sound_at first history 0 t sound legal) (effect_at first history t)
    (makes_at first history t) (fits_at first history 0 t sound legal) change (change_of first history change legal one) in
    ap (λ (tree : TreeState). is_directory tree change.directory) (sym (tree_at-after first history t)) ∙ live.kind

-- where the directories above are kept they are a list
kept_list : (kept : Option (Vec ℕ Global)) (place : ℕ) → place < length (option_map_or (λ (above : Vec ℕ Global). above.items) kept [])
    → (v : Vec ℕ Global) × (kept ≡ Some v) × (v.items ≡ option_map_or (λ (above : Vec ℕ Global). above.items) kept [])
kept_list None place lt = absurd (omega arith)
kept_list (Some v) place lt = (v, refl, refl)

module _ (first : TreeState) (history : List Entry) (past : Past) (is : IsPast first history past) (cut : Cut) where
  abbrev changes : List OwnChange
  changes = past.changes.items

  kept : (own : OwnChange) → IsOneOf changes own → IsChange first history (row_change_of own)
  kept = kept_change first history past is

  -- what holds of each change that is kept holds of each of the history's
  over_changes : (P : RowChange → Type 0) → ((own : OwnChange) → IsOneOf changes own → P (row_change_of own)) → (change : RowChange)
      → IsChange first history change → P change
  over_changes P all change one = let own = change_kept first history past is change one in rw own.2 at (all own.0 own.1)

  over_births : (P : Birth → Type 0) → ((born : BornNode) → IsOneOf past.births.items born → P (birth_of born)) → (birth : Birth)
      → IsOneOf (births_of first history) birth → P birth
  over_births P all birth one =
      let born = from_map birth_of past.births.items birth (rw is.births one) in rw born.2 at (all born.0 born.1)

  pub renames_broken : SomeIs changes (IsSplit cut) → RenamesWhole first history cut → ⊥
  renames_broken (own, one, split) whole =
      let lt = whole (row_change_of own) split.other (kept own one) split.two split.flushed in
      let le = split.late in omega arith

  pub renames_hold : (SomeIs changes (IsSplit cut) → ⊥) → RenamesWhole first history cut
  renames_hold none = λ change other one.
      over_changes (λ c. c.other ≡ Some other → IsWithin cut c → c.stamp < cut_of cut other)
      (λ own in_past two within. elim (below_or own.stamp (cut_of cut other)) [
        | inl lt ↦ lt
        | inr le ↦ absurd (none (own, in_past, record { other = other; two = two; flushed = within; late = le }))
      ]) change one

  pub removals_broken : SomeIs changes (LeavesChange changes cut) → RemovalsWhole first history cut → ⊥
  removals_broken (change, one, leaves) whole =
      let left = leaves.left in
      let within = whole (row_change_of change) (row_change_of left.0) (kept change one) leaves.ends leaves.flushed (kept left.0 left.1) left.2.own in
      let lt : left.0.stamp < cut_of cut change.child = rw left.2.own at within in
      let le = left.2.late in omega arith

  pub removals_hold : (SomeIs changes (LeavesChange changes cut) → ⊥) → RemovalsWhole first history cut
  removals_hold none = λ change own one ends within own_one.
      over_changes (λ c. c.ends ≡ true → IsWithin cut c → (o : RowChange) → IsChange first history o → o.directory ≡ c.child → IsWithin cut o)
      (λ ended ended_in ends_it flushed.
      over_changes (λ o. o.directory ≡ ended.child → IsWithin cut o) (λ left left_in own_is. elim (below_or left.stamp (cut_of cut left.directory)) [
        | inl lt ↦ lt
        | inr le ↦
            absurd
            (none (
              ended,
              ended_in,
              record {
                ends = ends_it;
                flushed = flushed;
                left = (left, left_in, record { own = own_is; late = subst (λ (d : ℕ). cut_of cut d ≤ left.stamp) own_is le });
              },
            ))
      ])) change one ends within own own_one

  pub births_broken : SomeIs past.births.items (IsBornLate changes cut) → BirthsKept first history cut → ⊥
  births_broken (born, one, late) births =
      let own = late.flushed in
      let within : own.0.stamp < cut_of cut own.0.directory = rw own.2.own own.2.flushed in
      let lt =
      births (birth_of born) (row_change_of own.0) (rw is.births at (to_map birth_of past.births.items born one)) (kept own.0 own.1) own.2.own within in
      let le = late.late in omega arith

  pub births_hold : (SomeIs past.births.items (IsBornLate changes cut) → ⊥) → BirthsKept first history cut
  births_hold none = λ birth own one own_one.
      over_births (λ b. (o : RowChange) → IsChange first history o → o.directory ≡ b.node → IsWithin cut o → b.stamp < cut_of cut b.directory) (λ born born_in.
      over_changes (λ o. o.directory ≡ born.node → IsWithin cut o → born.stamp < cut_of cut born.directory)
      (λ flushed flushed_in own_is within. elim (below_or born.stamp (cut_of cut born.directory)) [
        | inl lt ↦ lt
        | inr le ↦
            absurd
            (none (
              born,
              born_in,
              record {
                late = le;
                flushed =
                    (flushed, flushed_in, record { own = own_is; flushed = subst (λ (d : ℕ). flushed.stamp < cut_of cut d) own_is within });
              },
            ))
      ])) birth one own own_one

  -- a last placing, of the changes that are kept and of the history's
  last_is : (node stamp : ℕ) (own : OwnChange) → IsOneOf changes own → PlacesBelow node stamp own
      → ((other : OwnChange) → IsOneOf changes other → PlacesBelow node stamp other → other.stamp ≤ own.stamp)
      → IsLastPlacing first history node stamp (row_change_of own)
  last_is node stamp own one places latest = record {
    is_change = kept own one;
    places = places.places;
    child = places.child;
    below = places.below;
    latest =
        over_changes (λ o. o.places ≡ true → o.child ≡ node → o.stamp < stamp → o.stamp ≤ own.stamp)
        (λ other other_in p c b. latest other other_in (record { places = p; child = c; below = b }));
  }

  is_last : (node stamp : ℕ) (last : RowChange) → IsLastPlacing first history node stamp last → IsLatest changes node stamp (Some last.stamp)
  is_last node stamp last is_it =
      let own = change_kept first history past is last is_it.is_change in (
        (
          own.0,
          own.1,
          record {
            places = ap (λ (c : RowChange). c.places) own.2 ∙ is_it.places;
            child = ap (λ (c : RowChange). c.child) own.2 ∙ is_it.child;
            below = subst (λ (c : RowChange). c.stamp < stamp) (sym own.2) is_it.below;
          },
          ap (λ (c : RowChange). c.stamp) own.2,
        ),
        λ other one places. is_it.latest (row_change_of other) (kept other one) places.places places.child places.below,
      )

  pub ancestors_broken : SomeIs changes (LacksAncestor changes cut) → AncestorsKept first history cut → ⊥
  ancestors_broken (own, one, lacks) whole =
      let next = lacks.lacks.next in
      let node = lacks.lacks.node in
      let holder = lacks.lacks.holder in
      let unplaced = lacks.lacks.unplaced in
      let list = kept_list own.above next.place next.within in
      let keeps = is.above own one in
      let stand : Above (tree_after first (take own.stamp history)) own.directory (above_of own) = rw list.2 at (keeps.stand list.0 list.1) in
      let row =
      row_on_way (tree_after first (take own.stamp history)) own.directory
      (above_of own) stand next.place node holder next.within next.node_is next.holder_is in
      let last = unplaced.latest.0 in
      let same : last.0.stamp ≡ unplaced.last = last.3 in
      let latest =
      λ (other : OwnChange) (other_in : IsOneOf changes other) (places : PlacesBelow node own.stamp other). subst (λ (t : ℕ). other.stamp ≤ t) (sym same)
      (unplaced.latest.1 other other_in places) in
      let lt =
      whole (row_change_of own) (above_of own) node holder row.1.0 (row_change_of last.0)
      (record { is_change = kept own one; moves = keeps.moves list.0 list.1 }) lacks.flushed stand row.0 row.1.1
      (last_is node own.stamp last.0 last.1 last.2 latest) in
      let le = unplaced.late in omega arith

  module _ (sound : IsSoundTree first) (legal : IsLegal first history) where
    -- one change, by which a directory moved
    kept_above : (SomeIs changes (LacksAncestor changes cut) → ⊥) → (own : OwnChange) → IsOneOf changes own
        → (above : List ℕ) (node holder : ℕ) (name : List ℕ) (last : RowChange) → IsMove first history (row_change_of own) → IsWithin cut (row_change_of own)
        → Above (tree_after first (take own.stamp history)) own.directory above → IsOneOf (own.directory ∷ above) node
        → row_of (tree_after first (take own.stamp history)) holder name ≡ Some node → IsLastPlacing first history node own.stamp last
        → last.stamp < cut_of cut holder
    kept_above none own one above node holder name last move within stand on_way row is_it = elim (below_or last.stamp (cut_of cut holder)) [
      | inl lt ↦ lt
      | inr le ↦
          let found = (is.above own one).all move.moves above stand in
          let tree = tree_after first (take own.stamp history) in
          let next =
          next_on_way tree (histories_keep_sound first history own.stamp sound legal).sound own.directory above stand
          (changed_kind first history sound legal (row_change_of own) (kept own one)) node holder name on_way row in
          let same : above_of own ≡ above = ap (λ (o : Option (Vec ℕ Global)). option_map_or (λ (v : Vec ℕ Global). v.items) o []) found.1 ∙ found.2 in
          absurd (none (
            own,
            one,
            record {
              flushed = within;
              lacks = record {
                node = node;
                holder = holder;
                next = rw same next;
                unplaced = record { last = last.stamp; latest = is_last node own.stamp last is_it; late = le };
              };
            },
          ))
    ]

    pub ancestors_hold : (SomeIs changes (LacksAncestor changes cut) → ⊥) → AncestorsKept first history cut
    ancestors_hold none = λ change above node holder name last move.
        over_changes
        (λ c. IsMove first history c → IsWithin cut c → Above (tree_after first (take c.stamp history)) c.directory above
        → IsOneOf (c.directory ∷ above) node → row_of (tree_after first (take c.stamp history)) holder name ≡ Some node
        → IsLastPlacing first history node c.stamp last → last.stamp < cut_of cut holder)
        (λ own one. kept_above none own one above node holder name last) change move.is_change move

-- what searches through the same changes and births have found
module _ (first : TreeState) (history : List Entry) (past : Past) (is : IsPast first history past) (cut : Cut) (changes : List OwnChange)
    (births : List BornNode) (same : changes ≡ past.changes.items) (same_births : births ≡ past.births.items) (result : Bool) where
  abbrev Tells : Type 0 → Type 0
  Tells What = (result ≡ true) ↔ What

  -- the search through these is one through those that are kept
  kept_search : (P : List OwnChange → List BornNode → Type 0) → Tells (P changes births) → Tells (P past.changes.items past.births.items)
  kept_search P tells = rw same at (rw same_births at tells)

  by_search : {Broken Kept : Type 0} → Tells Broken → (Broken → Kept → ⊥) → result ≡ true → Kept → ⊥
  by_search tells breaks found = breaks (tells.0 found)

  by_no_search : {Broken Kept : Type 0} → Tells Broken → ((Broken → ⊥) → Kept) → result ≡ false → Kept
  by_no_search tells holds not = holds (λ some. not_both (tells.1 some) not)

  pub renames_found : Tells (SomeIs changes (IsSplit cut)) → result ≡ true → RenamesWhole first history cut → ⊥
  renames_found tells = by_search (kept_search (λ cs bs. SomeIs cs (IsSplit cut)) tells) (renames_broken first history past is cut)

  pub renames_not_found : Tells (SomeIs changes (IsSplit cut)) → result ≡ false → RenamesWhole first history cut
  renames_not_found tells = by_no_search (kept_search (λ cs bs. SomeIs cs (IsSplit cut)) tells) (renames_hold first history past is cut)

  pub removals_found : Tells (SomeIs changes (LeavesChange changes cut)) → result ≡ true → RemovalsWhole first history cut → ⊥
  removals_found tells = by_search (kept_search (λ cs bs. SomeIs cs (LeavesChange cs cut)) tells) (removals_broken first history past is cut)

  pub removals_not_found : Tells (SomeIs changes (LeavesChange changes cut)) → result ≡ false → RemovalsWhole first history cut
  removals_not_found tells = by_no_search (kept_search (λ cs bs. SomeIs cs (LeavesChange cs cut)) tells) (removals_hold first history past is cut)

  pub births_found : Tells (SomeIs births (IsBornLate changes cut)) → result ≡ true → BirthsKept first history cut → ⊥
  births_found tells = by_search (kept_search (λ cs bs. SomeIs bs (IsBornLate cs cut)) tells) (births_broken first history past is cut)

  pub births_not_found : Tells (SomeIs births (IsBornLate changes cut)) → result ≡ false → BirthsKept first history cut
  births_not_found tells = by_no_search (kept_search (λ cs bs. SomeIs bs (IsBornLate cs cut)) tells) (births_hold first history past is cut)

  pub ancestors_found : Tells (SomeIs changes (LacksAncestor changes cut)) → result ≡ true → AncestorsKept first history cut → ⊥
  ancestors_found tells = by_search (kept_search (λ cs bs. SomeIs cs (LacksAncestor cs cut)) tells) (ancestors_broken first history past is cut)

  pub ancestors_not_found : IsSoundTree first → IsLegal first history → Tells (SomeIs changes (LacksAncestor changes cut)) → result ≡ false
      → AncestorsKept first history cut
  ancestors_not_found sound legal tells =
      by_no_search (kept_search (λ cs bs. SomeIs cs (LacksAncestor cs cut)) tells) (ancestors_hold first history past is cut sound legal)
