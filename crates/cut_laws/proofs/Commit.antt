-- An fsync keeps the cut closed, and each directory with an inode has its making below its birth place's cut.
use Rattle.std.proofs.Common.{◌≡◌, ℕ, suc, ◌+◌, ◌<◌, ◌≤◌, Bool, true, false, List, [], ◌∷◌, length, take, Option, Some, None, ◌⊎◌, inl, inr, refl, sym, ap, subst, ◌∙◌, arith}
use Rattle.std.specs.FinMap.{FinMap, get}
use Rattle.sfs_base.specs.declared.numbers.Kind.{Kind}
use Rattle.tree_laws.specs.declared.history.Entry.{Entry}
use Rattle.tree_laws.specs.Order.{key_cmp}
use Rattle.tree_laws.specs.Tree.{TreeState, row_of, is_directory}
use Rattle.tree_laws.specs.Effect.{Effect, Stays, Adds, Removes, Moves, Edits}
use Rattle.tree_laws.specs.Verdict.{verdict}
use Rattle.tree_laws.specs.Changes.{RowChange, added}
use Rattle.tree_laws.specs.Sound.{Above}
use Rattle.tree_laws.specs.History.{tree_after, tree_after_entry, IsLegalFrom, IsLegal}
use Rattle.tree_laws.specs.Laws.{IsSoundTree}
use Rattle.tree_laws.proofs.KeepsNodes.{directory_node}
use Rattle.tree_laws.proofs.FileHistories.{histories_keep_sound}
use Rattle.cut_laws.specs.Cut.{Cut, cut_of, IsWithin, rows_at_cut}
use Rattle.cut_laws.specs.Rules.{IsOneOf, IsChange, Birth, births_by, births_of, IsLastPlacing, IsMove, IsClosed}
use Rattle.cut_laws.specs.Closure.{every_entry, Flush, InSpan, Closure, other_side, ended, ancestor, birth_place, IsRaised, AreInodesAfter, AreBorn, KeepsCut}
use Rattle.cut_laws.specs.Laws.{FsyncsKeep}
use Rattle.cut_laws.proofs.Basics.{below_or, in_either}
use Rattle.sfs_base.proofs.BasicNumbers.{suc_plus, zero_plus, plus_zero}
use Rattle.sfs_base.proofs.BasicTruth.{not_both}
use Rattle.cut_laws.proofs.Raises.{cuts_rise, members_rise, was_or_spanned}
use Rattle.cut_laws.proofs.Runs.{Run}
use Rattle.cut_laws.proofs.Along.{made_at, tree_at, effect_at, makes_at, tree_at-after, run_of, change_in, nodes_at}
use Rattle.cut_laws.proofs.Closed.{keeps_of, seen_of, seen_end}
use Rattle.cut_laws.proofs.Lives.{live_at, holder_above, born_before, ended_before, named_born}

-- where a birth of a history stands
pub record IsBornAt (first : TreeState) (history : List Entry) (birth : Birth) (t : ℕ) : Type 0 where
  pub name : List ℕ
  pub kind : Kind
  pub adds : effect_at first history t ≡ Adds birth.directory name birth.node
  pub made : makes_at first history t ≡ Some kind

birth_by : (effect : Effect) (makes : Option Kind) (t : ℕ) (birth : Birth) → IsOneOf (births_by t effect makes) birth
    → (name : List ℕ) × (kind : Kind) × (effect ≡ Adds birth.directory name birth.node) × (makes ≡ Some kind) × (birth.stamp ≡ t)
birth_by Stays None t birth one = absurd one
birth_by Stays (Some kind) t birth one = absurd one
birth_by (Adds d n c) None t birth one = absurd one
birth_by (Removes d n c) None t birth one = absurd one
birth_by (Removes d n c) (Some kind) t birth one = absurd one
birth_by (Moves p n q m c) None t birth one = absurd one
birth_by (Moves p n q m c) (Some kind) t birth one = absurd one
birth_by (Edits file edit) None t birth one = absurd one
birth_by (Edits file edit) (Some kind) t birth one = absurd one
birth_by (Adds d n c) (Some kind) t birth one = elim one [
  | inl e ↦ (n, kind, ap (λ (b : Birth). Adds b.directory n b.node) e, refl, ap (λ (b : Birth). b.stamp) (sym e))
  | inr none ↦ absurd none
]

birth_from : (first : TreeState) (history : List Entry) (stamp : ℕ) (birth : Birth) → IsLegalFrom first stamp history → IsOneOf (births_of first history) birth
    → (t : ℕ) × (birth.stamp ≡ stamp + t) × IsBornAt first history birth t
birth_from first [] stamp birth legal one = absurd one
birth_from first (entry ∷ history) stamp birth legal one = elim (in_either _ _ birth one) [
  | inl here ↦
      let found = birth_by (verdict first entry.core.0 entry.call).effect (verdict first entry.core.0 entry.call).makes entry.stamp.0 birth here in
      (0, found.4 ∙ legal.0.stamped ∙ sym (plus_zero stamp), record { name = found.0; kind = found.1; adds = found.2; made = found.3 })
  | inr rest ↦
      let found = birth_from (tree_after_entry first entry) history (suc stamp) birth legal.1 rest in
      (suc found.0, found.1 ∙ suc_plus stamp found.0, record { name = found.2.name; kind = found.2.kind; adds = found.2.adds; made = found.2.made })
]

pub birth_at : (first : TreeState) (history : List Entry) (birth : Birth) → IsLegal first history → IsOneOf (births_of first history) birth
    → IsBornAt first history birth birth.stamp
birth_at first history birth legal one =
    let found = birth_from first history 0 birth legal one in
    subst (λ (t : ℕ). IsBornAt first history birth t) (sym (found.1 ∙ zero_plus found.0)) found.2

module _ (first : TreeState) (history : List Entry) (is : IsSoundTree first) (legal : IsLegal first history) (cut : Cut) (inodes : ℕ → Bool) (flush : Flush)
    (raised : Cut) (kept : KeepsCut first history cut inodes) (raise : IsRaised first history every_entry cut inodes flush raised) where
  abbrev run : Run
  run = run_of first history is legal

  abbrev Member : ℕ → Type 0
  Member node = Closure first history every_entry cut inodes flush node

  -- what lay below the cut still does
  up : (t d : ℕ) → t < cut_of cut d → t < cut_of raised d
  up t d lt = let le = cuts_rise first history every_entry cut inodes flush raised raise d in omega arith

  -- of a member all that lies below the fsync's stamp does
  member_up : (t d : ℕ) → Member d → t < flush.stamp → t < cut_of raised d
  member_up t d member lt = let le = members_rise first history every_entry cut inodes flush raised raise d member in omega arith

  -- what lies below the raised cut lay below the cut, or in a member's span
  split : (t d : ℕ) → t < cut_of raised d → (t < cut_of cut d) ⊎ (Member d × (cut_of cut d ≤ t) × (t < flush.stamp))
  split = was_or_spanned first history every_entry cut inodes flush raised raise

  span : (x : RowChange) → IsChange first history x → cut_of cut x.directory ≤ x.stamp → x.stamp < flush.stamp
      → InSpan first history every_entry cut flush.stamp x
  span x one from lt = record { is_change = one; counted = refl; from = from; below = lt }

  earlier : (a b : ℕ) → a < b → b < flush.stamp → a < flush.stamp
  earlier a b lt le = omega arith

  -- a directory with a change is one of the last tree
  kind_of_own : (own : RowChange) → IsChange first history own → is_directory (tree_after first history) own.directory ≡ true
  kind_of_own own one =
      let live = live_at run own.stamp own (made_at first history is legal own one) in
      (nodes_at first history own.stamp is legal own.directory (directory_node (tree_at first history own.stamp) own.directory live.kind)).1 ∙ live.kind

  -- the making of a member without an inode that has a change below the stamp
  makes_up : (birth : Birth) (own : RowChange) → IsOneOf (births_of first history) birth → IsChange first history own → own.directory ≡ birth.node
      → Member birth.node → inodes birth.node ≡ false → own.stamp < flush.stamp → birth.stamp < cut_of raised birth.directory
  makes_up birth own one own_is same member none lt =
      elim (below_or birth.stamp (cut_of cut birth.directory)) [
        | inl less ↦ up birth.stamp birth.directory less
        | inr le ↦
            member_up birth.stamp birth.directory
            (birth_place birth member one none (record { change = naming; is_change = naming_is; counted = refl; child = refl; unflushed = le }))
            (earlier birth.stamp own.stamp
            (born_before run birth.stamp birth.directory born.name birth.node born.kind born.adds born.made own.stamp own
            (made_at first history is legal own own_is) same)
            lt)
      ]
    where
      born : IsBornAt first history birth birth.stamp
      born = birth_at first history birth legal one

      naming : RowChange
      naming = added birth.stamp birth.directory born.name birth.node None

      naming_is : IsChange first history naming
      naming_is = change_in first history birth.stamp naming legal (rw born.adds (inl refl))

  births_raised : (birth : Birth) (own : RowChange) → IsOneOf (births_of first history) birth → IsChange first history own → own.directory ≡ birth.node
      → IsWithin raised own → birth.stamp < cut_of raised birth.directory
  births_raised birth own one own_is same within = elim (split own.stamp own.directory within) [
    | inl lt ↦ up birth.stamp birth.directory (kept.closed.births birth own one own_is same lt)
    | inr more ↦
        elim (inodes birth.node) as (λ b. inodes birth.node ≡ b → birth.stamp < cut_of raised birth.directory) [
          | true ↦ λ e. up birth.stamp birth.directory (kept.born birth one e (rw same at (kind_of_own own own_is)))
          | false ↦ λ e. makes_up birth own one own_is same (rw same at more.0) e more.2
        ] refl
  ]

  ancestors_raised : (change : RowChange) (above : List ℕ) (node holder : ℕ) (name : List ℕ) (last : RowChange) → IsMove first history change
      → IsWithin raised change → Above (tree_after first (take change.stamp history)) change.directory above → IsOneOf (change.directory ∷ above) node
      → row_of (tree_after first (take change.stamp history)) holder name ≡ Some node → IsLastPlacing first history node change.stamp last
      → last.stamp < cut_of raised holder
  ancestors_raised change above node holder name last move within way among row placing = elim (split change.stamp change.directory within) [
    | inl lt ↦ up last.stamp holder (kept.closed.ancestors change above node holder name last move lt way among row placing)
    | inr more ↦
        let live = live_at run change.stamp change (made_at first history is legal change move.is_change) in
        let sound = histories_keep_sound first history change.stamp is legal in
        let kind : is_directory (tree_after first (take change.stamp history)) change.directory ≡ true =
        rw (tree_at-after first history change.stamp) at live.kind in
        member_up last.stamp holder
        (ancestor change above holder more.0 (span change move.is_change more.1 more.2) move way
        (holder_above (tree_after first (take change.stamp history)) 0 0 sound.sound way kind node holder name among row))
        (earlier last.stamp change.stamp placing.below more.2)
  ]

  pub closed_raised : IsClosed first history raised
  closed_raised = record {
    renames = λ change other one two within. elim (split change.stamp change.directory within) [
      | inl lt ↦ up change.stamp other (kept.closed.renames change other one two lt)
      | inr more ↦ member_up change.stamp other (other_side change other more.0 (span change one more.1 more.2) two) more.2
    ];
    removals = λ change own one ends within own_is same. elim (split change.stamp change.directory within) [
      | inl lt ↦ up own.stamp own.directory (kept.closed.removals change own one ends lt own_is same)
      | inr more ↦
          let before =
          ended_before run change.stamp change own.stamp own (made_at first history is legal change one) ends
          (made_at first history is legal own own_is) same in
          member_up own.stamp own.directory (rw same (ended change more.0 (span change one more.1 more.2) ends)) (earlier own.stamp change.stamp before more.2)
    ];
    births = births_raised;
    ancestors = ancestors_raised;
  }

  -- a directory that a row at the raised cut names was made below its birth place's cut
  named_raised : (birth : Birth) → IsOneOf (births_of first history) birth → is_directory (tree_after first history) birth.node ≡ true → (d : ℕ) (n : List ℕ)
      → get (rows_at_cut first history raised) (d, n) ≡ Some birth.node → birth.stamp < cut_of raised birth.directory
  named_raised birth one kind d n row =
      let born = birth_at first history birth legal one in
      named_born run (cut_of raised) (seen_of first history is legal raised)
      (keeps_of first history is legal raised closed_raised) birth.node birth.stamp birth.directory born.name born.kind born.adds born.made
      (λ t some. sym (nodes_at first history t is legal birth.node some).1 ∙ kind) (length history) d n
      (ap (λ (rows : FinMap key_cmp ℕ). get rows (d, n)) (seen_end first history is legal raised) ∙ row)

  pub born_raised : (after : ℕ → Bool) → AreInodesAfter first history every_entry cut inodes flush raised after → AreBorn first history raised after
  born_raised after sets birth one has kind =
      elim (inodes birth.node) as (λ b. inodes birth.node ≡ b → birth.stamp < cut_of raised birth.directory) [
        | true ↦ λ e. up birth.stamp birth.directory (kept.born birth one e kind)
        | false ↦ λ e. elim ((sets.enters birth.node e).0 has).1 [
          | inl named ↦ named_raised birth one kind named.directory named.name named.row
          | inr file ↦ absurd (not_both kind file.1)
        ]
      ] refl

pub fsyncs_keep : FsyncsKeep
fsyncs_keep first history cut raised inodes after flush is legal kept raise sets = record {
  closed = closed_raised first history is legal cut inodes flush raised kept raise;
  born = born_raised first history is legal cut inodes flush raised kept raise after sets;
}
