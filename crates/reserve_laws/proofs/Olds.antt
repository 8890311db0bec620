-- What a core saw of a node is what memory keeps.
use Rattle.std.specs.Option.{option_or}
use Rattle.std.proofs.Common.{◌≡◌, ◌∷◌, if◌then◌else◌, ◌∙◌, ◌≤◌, ◌↔◌, ◌<◌, ◌++◌, ℕ, Bool, List, false, None, [], refl, ap, Some, inr, Option, inl, true, arith, subst, Contains, sym}
use Rattle.disk_nodes.specs.OldKept.{OldKept}
use Rattle.disk_change.specs.Directory.{is_among}
use Rattle.disk_change.specs.AllBuilt.{entry_keyed}
use Rattle.cut_laws.specs.Rules.{IsOneOf}
use Rattle.cut_laws.proofs.Basics.{in_either}
use Rattle.cut_laws.proofs.Listed.{to_map}
use Rattle.beside_laws.specs.Commits.{Share}
use Rattle.book_laws.specs.Imagined.{last_of, entries_by, entries_once}
use Rattle.book_laws.specs.Brings.{Bringing}
use Rattle.book_laws.proofs.Kept.{entries_are_left}
use Rattle.book_laws.specs.Pairs.{Pair, commit_under, bringing_under}
use Rattle.book_laws.specs.Walk.{brought_under}
use Rattle.reserve_laws.specs.Olds.{NumbersRise, DoneBeside, AreDoneBeside, IsKeptIn, SawLeftOf, by_none, by_last, OldsAreLeft, NumbersRiseOn}

module _ (pairs : ℕ → Pair) (node : ℕ) where
  abbrev Holds : ℕ → Bool → Type 0
  Holds stamp held = (commit_under pairs stamp).holds node ≡ held

  abbrev SameNodes : List ℕ → Type 0
  SameNodes done = (stamp : ℕ) → IsOneOf done stamp → is_among (bringing_under pairs stamp).nodes node ≡ (commit_under pairs stamp).holds node

  -- where none holds the node, none is the last of it
  none_last : (done : List ℕ) → SameNodes done → ((other : ℕ) → IsOneOf done other → Holds other false)
      → last_of node (brought_under pairs done) ≡ None
  none_last [] same none = refl
  none_last (stamp ∷ done) same none =
      ap (λ o. option_or o (if is_among (bringing_under pairs stamp).nodes node then Some (bringing_under pairs stamp) else None))
      (none_last done (λ other one. same other (inr one)) (λ other one. none other (inr one)))
      ∙ ap (λ b. option_or (let o : Option Bringing = None in o) (if b then Some (bringing_under pairs stamp) else None))
      (same stamp (inl refl) ∙ none stamp (inl refl))

  -- where numbers rise the one with the greatest number is the last
  greatest_last : (done : List ℕ) → SameNodes done → NumbersRise pairs done → (stamp : ℕ) → IsOneOf done stamp → Holds stamp true
      → ((other : ℕ) → IsOneOf done other → Holds other true → (commit_under pairs other).number ≤ (commit_under pairs stamp).number)
      → last_of node (brought_under pairs done) ≡ Some (bringing_under pairs stamp)
  greatest_last [] same rise stamp one held latest = absurd one
  greatest_last (first ∷ done) same rise stamp one held latest = elim one [
    | inl is_first ↦
        ap (λ o. option_or o (if is_among (bringing_under pairs first).nodes node then Some (bringing_under pairs first) else None))
        (none_last done (λ other more. same other (inr more)) (λ other more. no_later is_first other more ((commit_under pairs other).holds node) refl))
        ∙ ap (λ b. option_or (let o : Option Bringing = None in o) (if b then Some (bringing_under pairs first) else None))
        (same first (inl refl) ∙ ap (λ s. (commit_under pairs s).holds node) is_first ∙ held)
        ∙ ap (λ s. Some (bringing_under pairs s)) is_first
    | inr later ↦
        ap (λ o. option_or o (if is_among (bringing_under pairs first).nodes node then Some (bringing_under pairs first) else None))
        (greatest_last done (λ other more. same other (inr more)) rise.1 stamp later held (λ other more. latest other (inr more)))
  ]
    where
      no_later : first ≡ stamp → (other : ℕ) → IsOneOf done other → (b : Bool) → Holds other b → Holds other false
      no_later is_first other more true theirs =
          let above = rise.0 other more (record { node = node; one = ap (λ s. (commit_under pairs s).holds node) is_first ∙ held; two = theirs }) in
          let low = latest other (inr more) theirs in
          let number = ap (λ s. (commit_under pairs s).number) is_first in absurd (omega (arith, above, low, number))
      no_later is_first other more false theirs = theirs

module _ (beside : DoneBeside) (node : ℕ) (kept : Option OldKept) (are : AreDoneBeside beside) where
  abbrev brought : List Bringing
  brought = brought_under beside.pairs beside.done

  same_nodes : SameNodes beside.pairs node beside.done
  same_nodes stamp one = are.nodes stamp node one

  by_entries : (o : Option Bringing) → last_of node brought ≡ o → IsKeptIn (entries_by beside.entries o) node kept
      → IsKeptIn (entries_once brought beside.entries) node kept
  by_entries o last saw old =
      let left = entries_are_left beside.start beside.volume brought beside.entries (entry_keyed (node, old)) are.keeps are.imagines in
      let there = subst (λ (l : Option Bringing).
      Contains (entries_once brought beside.entries) (entry_keyed (node, old)) ↔ Contains (entries_by beside.entries l) (entry_keyed (node, old))) last left in
      (λ is. there.1 ((saw old).0 is), λ has. (saw old).1 (there.0 has))

  left_there : SawLeftOf beside node kept → IsKeptIn (entries_once brought beside.entries) node kept
  left_there (by_none none saw) = by_entries None (none_last beside.pairs node beside.done same_nodes none) saw
  left_there (by_last stamp last saw) =
      by_entries (Some (bringing_under beside.pairs stamp))
      (greatest_last beside.pairs node beside.done same_nodes are.rise stamp last.among last.held last.latest) saw

pub olds_are_left : OldsAreLeft
olds_are_left beside node kept are saw = left_there beside node kept are saw

rise_on : (pairs : ℕ → Pair) (done : List ℕ) (stamp : ℕ) → NumbersRise pairs done
    → ((other : ℕ) → IsOneOf done other → Share (commit_under pairs stamp) (commit_under pairs other)
    → (commit_under pairs other).number < (commit_under pairs stamp).number)
    → NumbersRise pairs (done ++ stamp ∷ [])
rise_on pairs [] stamp rise greater = (λ other none. absurd none, tt)
rise_on pairs (first ∷ done) stamp rise greater = (
  λ other one share. elim (in_either done (stamp ∷ []) other one) [
    | inl there ↦ rise.0 other there share
    | inr last ↦ elim last [
      | inl same ↦
          subst (λ s. (commit_under pairs first).number < (commit_under pairs s).number) same
          (greater first (inl refl) (subst (λ s. Share (commit_under pairs s) (commit_under pairs first)) (sym same)
          (record { node = share.node; one = share.two; two = share.one })))
      | inr never ↦ absurd never
    ]
  ],
  rise_on pairs done stamp rise.1 (λ other one. greater other (inr one)),
)

pub numbers_rise_on : NumbersRiseOn
numbers_rise_on pairs done stamp rise later =
    rise_on pairs done stamp rise (λ other one share. later.greater (commit_under pairs other) (to_map (commit_under pairs) done other one) share)
