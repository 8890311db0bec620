-- What a logged change brings in is told by the changes that stand behind it.
use Rattle.std.proofs.Common.{◌≡◌, ℕ, suc, ◌+◌, ◌*◌, ◌<◌, ◌≤◌, Bool, true, false, cond, not, List, [], ◌∷◌, ◌++◌, length, take, drop, get_or, map, filter, Some, None, inl, inr, refl, sym, ap, ◌∙◌, subst, arith, nat_eq}
use Rattle.std.specs.Prelude.{All, ◌&&◌, ◌||◌, bytes_eq, is_none}
use Rattle.std.specs.List.{list_any}
use Rattle.std.proofs.lemmas.Bool.{cond-true}
use Rattle.std.proofs.lemmas.List.{get_or-take, get_or_default, take-append-drop, length-take}
use borrow.Author.Tests.{eqb-true}
use Rattle.std.proofs.lemmas.List.Elements.{All-filter}
use Rattle.std.proofs.Math.Seq.{drop-cons}
use Rattle.sfs_base.specs.declared.numbers.NodeId.{NodeId}
use Rattle.sfs_base.proofs.BasicNumbers.{same_number, suc_is_one_more}
use Rattle.sfs_base.proofs.BasicOptions.{some_same, none_some}
use Rattle.tree_laws.specs.declared.changes.Change.{Change}
use Rattle.tree_laws.specs.Logged.{is_addition, is_end_of, is_logged_in, adds_any, adds_name}
use Rattle.tree_laws.specs.Tree.{is_directory_kind}
use Rattle.tree_laws.specs.NameRow.{node_number, number_of}
use Rattle.mem_cells.specs.Log.{IsInOrder, log_place}
use Rattle.cut_laws.specs.Rules.{IsOneOf}
use Rattle.cut_laws.specs.Elements.{OfSome}
use Rattle.cut_laws.proofs.Listed.{from_map, to_map}
use Rattle.dep_closure.specs.Brought.{ChangeBrings, LoggedBrings, AreOfOneDirectory}
use Rattle.dep_closure.specs.Gathered.{noted_as}
use Rattle.dep_closure.specs.Spans.{is_of_stamp}
use Rattle.dep_closure.proofs.Parts.{all_pass}

-- before a removal at its stamp stands no addition
no_addition : (s t : ℕ) (a b : Bool) → 2 * s + cond a 1 0 ≤ 2 * t + cond b 1 0 → s ≡ t → b ≡ false → a ≡ false
no_addition s t false b le same removes = refl
no_addition s t true true le same removes = absurd (cc)
no_addition s t true false le same removes = absurd (omega arith)

-- so what looks for additions of the stamp looks behind it
skip_before : (test : Change → Bool) → ((x : Change) → is_addition x.act ≡ false → test x ≡ false) → (change : Change) → is_addition change.act ≡ false
    → (before later : List Change) → All (λ x. log_place x ≤ log_place change) before
    → list_any test (filter (is_of_stamp change.stamp.0) (before ++ change ∷ later)) ≡ list_any test (filter (is_of_stamp change.stamp.0) later)
skip_before test adds change removes [] later low =
    ap (list_any test)
    (cond-true (nat_eq change.stamp.0 change.stamp.0) (change ∷ filter (is_of_stamp change.stamp.0) later) (filter (is_of_stamp change.stamp.0) later)
    (same_number change.stamp.0))
    ∙ ap (λ b. b || list_any test (filter (is_of_stamp change.stamp.0) later)) (adds change removes)
skip_before test adds change removes (x ∷ before) later low =
    let rest = filter (is_of_stamp change.stamp.0) (before ++ change ∷ later) in
    let behind = skip_before test adds change removes before later (λ k d within. low (suc k) d (omega arith)) in
    elim (nat_eq x.stamp.0 change.stamp.0) as (λ b. nat_eq x.stamp.0 change.stamp.0 ≡ b
    → list_any test (cond b (x ∷ rest) rest) ≡ list_any test (filter (is_of_stamp change.stamp.0) later)) [
      | true ↦
          λ same. ap (λ b. b || list_any test rest)
          (adds x
          (no_addition x.stamp.0 change.stamp.0 (is_addition x.act) (is_addition change.act) (low 0 x (omega arith))
          (eqb-true x.stamp.0 change.stamp.0 same) removes))
          ∙ behind
      | false ↦ λ other. behind
    ] refl

-- whether a change ends its child, by two lists with the same additions
ends_alike : (a k o n m x y : Bool) → (a ≡ false → n ≡ m) → (a ≡ false → x ≡ y) → (not a && k && (n || (o && not x))) ≡ (not a && k && (m || (o && not y)))
ends_alike true k o n m x y names any = refl
ends_alike false k o n m x y names any =
    ap (λ b. not false && k && (b || (o && not x))) (names refl) ∙ ap (λ b. not false && k && (m || (o && not b))) (any refl)

-- from a place on stands what is there, and then what is behind it
pub from_there : {X : Type 0} (xs : List X) (i : ℕ) (x : X) → i < length xs → x ≡ get_or xs i x → drop i xs ≡ x ∷ drop (i + 1) xs
from_there xs i x within is = drop-cons xs i x within ∙ ap (λ c. c ∷ drop (suc i) xs) (sym is) ∙ ap (λ n. x ∷ drop n xs) (suc_is_one_more i)

module _ (span : List Change) (order : IsInOrder span) (own : AreOfOneDirectory span) (i : ℕ) (change : Change) (within : i < length span)
    (is : change ≡ get_or span i change) where
  parted : span ≡ take i span ++ change ∷ drop (i + 1) span
  parted = sym (take-append-drop i span) ∙ ap (λ l. take i span ++ l) (from_there span i change within is)

  low : All (λ x. log_place x ≤ log_place change) (take i span)
  low k d less =
      let short = length-take i span in
      let below : k < i = omega arith in
      let rise = order.rises k i change (omega arith) within in
      let there : get_or (take i span) k d ≡ get_or span k change = get_or-take i span k d below ∙ get_or_default span k d change (omega arith) in
      omega (arith, ap log_place there, ap log_place is)

  -- all of them are of its directory
  all_own : filter (is_logged_in change.dir.0) (filter (is_of_stamp change.stamp.0) span) ≡ filter (is_of_stamp change.stamp.0) span
  all_own =
      all_pass (is_logged_in change.dir.0) (filter (is_of_stamp change.stamp.0) span)
      (All-filter (is_of_stamp change.stamp.0) (λ other. is_logged_in change.dir.0 other ≡ true) span
      (λ k d inside. subst (λ n. nat_eq (get_or span k d).dir.0 n ≡ true) (own i change within k d inside ∙ ap (λ (c : Change). c.dir.0) (sym is))
      (same_number (get_or span k d).dir.0)))

  looks_behind : (test : Change → Bool) → ((x : Change) → is_addition x.act ≡ false → test x ≡ false) → is_addition change.act ≡ false
      → list_any test (filter (is_of_stamp change.stamp.0) span) ≡ list_any test (filter (is_of_stamp change.stamp.0) (drop (i + 1) span))
  looks_behind test adds removes =
      ap (λ l. list_any test (filter (is_of_stamp change.stamp.0) l)) parted ∙ skip_before test adds change removes (take i span) (drop (i + 1) span) low

  ends_told : is_end_of (filter (is_logged_in change.dir.0) (filter (is_of_stamp change.stamp.0) span)) change
      ≡ is_end_of (filter (is_of_stamp change.stamp.0) (drop (i + 1) span)) change
  ends_told =
      ap (λ l. is_end_of l change) all_own
      ∙ ends_alike (is_addition change.act) (is_directory_kind change.kind) (is_none change.other) _ _ _ _
      (looks_behind (adds_name change.name) (λ x removes. ap (λ b. b && bytes_eq change.name x.name) removes)) (looks_behind adds_any (λ x removes. removes))

  ended : (b : Bool) (child : NodeId) (node : ℕ) → number_of (cond b (Some child) None) ≡ Some node → (b ≡ true) × (child.0 ≡ node)
  ended true child node e = (refl, some_same e)
  ended false child node e = absurd (none_some e)

  -- a change brings in the same by the whole span
  pub told : (node : ℕ) → LoggedBrings change (drop (i + 1) span) node → ChangeBrings (noted_as span change) node
  told node (inl other) = inl other
  told node (inr (inl ends)) = let e = ended (is_end_of (filter (is_of_stamp change.stamp.0) (drop (i + 1) span)) change) change.child node ends in
      inr (inl (ends_told ∙ e.0, e.1))
  told node (inr (inr above)) = inr (inr above)

  pub told_back : (node : ℕ) → ChangeBrings (noted_as span change) node → LoggedBrings change (drop (i + 1) span) node
  told_back node (inl other) = inl other
  told_back node (inr (inl (ends, child))) = inr (inl (ap (λ b. number_of (cond b (Some change.child) None)) (sym ends_told ∙ ends) ∙ ap Some child))
  told_back node (inr (inr above)) = inr (inr above)

-- nodes that come are those of a list of numbers
pub some_listed : (nodes : List NodeId) (numbers : List ℕ) → map node_number nodes ≡ numbers → (node : ℕ) → OfSome nodes (λ one other. one.0 ≡ other) node
    → IsOneOf numbers node
some_listed nodes numbers same node some =
    subst (λ l. IsOneOf l node) same (subst (IsOneOf (map node_number nodes)) some.2 (to_map node_number nodes some.0 some.1))

pub listed_some : (nodes : List NodeId) (numbers : List ℕ) → map node_number nodes ≡ numbers → (node : ℕ) → IsOneOf numbers node
    → OfSome nodes (λ one other. one.0 ≡ other) node
listed_some nodes numbers same node one = from_map node_number nodes node (subst (λ l. IsOneOf l node) (sym same) one)
