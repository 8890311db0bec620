-- The numbers of a commit's nodes are those that a commit gives.
use Rattle.std.proofs.Common.{◌≡◌, ◌≢◌, ℕ, zero, suc, ◌+◌, ◌<◌, false, cond, List, [], ◌∷◌, ◌++◌, length, map, drop, Option, Some, None, fold, inl, inr, refl, sym, ap, subst, ◌∙◌, arith, nat_eq, Contains, ◌≤◌, is_none, count_by}
use Rattle.std.specs.Prelude.{slice_get, ◌⊎◌}
use Rattle.std.specs.Ordering.{nat_cmp, is_eq}
use Rattle.std.specs.Cmp.{tied_itself, nat_cmp_total}
use Rattle.std.specs.FinMap.{nat_cmp-IsAntisymmetric}
use Rattle.std.proofs.lemmas.Bool.{cond-true, cond-false, cases_Bool}
use Rattle.std.proofs.lemmas.List.Sums.{fold-append}
use Rattle.sfs_base.proofs.BasicNumbers.{same_number, not_same}
use Rattle.sfs_base.specs.declared.numbers.Kind.{Kind}
use Rattle.sfs_base.specs.declared.numbers.Kind.TheVariants.{File, Directory}
use Rattle.sfs_base.proofs.BasicTruth.{false_not_true}
use Rattle.tree_laws.proofs.Joined.{is_equal, count-cons}
use Rattle.image_laws.specs.Numbers.{grant_for}
use Rattle.keyed_list.specs.Ascending.{AscendBy}
use Rattle.disk_change.specs.Nodes.{enter_node}
use Rattle.disk_nodes.specs.Nodes.{entry_node}
use Rattle.disk_change.specs.Numbered.{numbers_given, number_in, number_given, grant_left}
use Rattle.disk_change.specs.Planned.{seated_old, seated_entering, enters}
use Rattle.disk_change.specs.Seated.{CommitChanges, Begun, Seated, seated_as, begun_old, begun_entering}
use Rattle.disk_change.specs.declared.enter.Enter.{Enter}
use Rattle.disk_change.specs.declared.numbers.NodeNumber.{NodeNumber}
use Rattle.disk_nodes.specs.declared.old.OldEntry.{OldEntry}
use Rattle.keyed_list.proofs.Searched.{ascends_behind, first_is_least}

-- what is first in a list, and what is further in it
pub first_in : {X : Type 0} (x : X) (xs : List X) → Contains (x ∷ xs) x
first_in x xs = (0, omega arith, refl)

pub further_in : {X : Type 0} (y x : X) (xs : List X) → Contains xs x → Contains (y ∷ xs) x
further_in y x xs (k, within, is) = (suc k, omega arith, is)

-- a node that is planned keeps its number, and its own
pub planned_node : (changes : CommitChanges) (begun : Begun) (kind : Kind) → (seated_as kind changes begun).node ≡ begun.node
planned_node changes begun File = refl
planned_node changes begun Directory = refl

planned_number : (changes : CommitChanges) (begun : Begun) (kind : Kind) → (seated_as kind changes begun).number ≡ begun.number
planned_number changes begun File = refl
planned_number changes begun Directory = refl

-- nodes that stay with their numbers, and those that enter with those of a grant
unfoldable olds_numbered : List OldEntry → List NodeNumber
olds_numbered entries = map (λ entry. record { node = entry.node.0; number = Some entry.old.number }) entries

unfoldable enters_numbered : List Enter → List ℕ → List NodeNumber
enters_numbered [] grant = []
enters_numbered (one ∷ enter) grant = record { node = one.node.0; number = slice_get grant 0 } ∷ enters_numbered enter (drop 1 grant)

given_enters : (changes : CommitChanges) (enter : List Enter) (grant : List ℕ)
    → numbers_given (map (seated_entering changes) enter) grant ≡ enters_numbered enter grant
unfolding enters_numbered
given_enters changes [] grant = refl
given_enters changes (one ∷ enter) grant =
    let node = planned_node changes (begun_entering one) (begun_entering one).kind in
    let number = planned_number changes (begun_entering one) (begun_entering one).kind in
    (λ i. record { node = node i; number = number_given (number i) grant } ∷ numbers_given (map (seated_entering changes) enter) (grant_left (number i) grant))
    ∙ ap (λ rest. record { node = one.node.0; number = slice_get grant 0 } ∷ rest) (given_enters changes enter (drop 1 grant))

given_olds : (changes : CommitChanges) (entries : List OldEntry) (seats : List Seated) (grant : List ℕ)
    → numbers_given (map (seated_old changes) entries ++ seats) grant ≡ olds_numbered entries ++ numbers_given seats grant
unfolding olds_numbered
given_olds changes [] seats grant = refl
given_olds changes (entry ∷ entries) seats grant =
    let node = planned_node changes (begun_old entry) (begun_old entry).kind in
    let number = planned_number changes (begun_old entry) (begun_old entry).kind in
    (λ i. record { node = node i; number = number_given (number i) grant }
    ∷ numbers_given (map (seated_old changes) entries ++ seats) (grant_left (number i) grant))
    ∙ ap (λ rest. record { node = entry.node.0; number = Some entry.old.number } ∷ rest) (given_olds changes entries seats grant)

pub drop_zero : {X : Type 0} (xs : List X) → drop 0 xs ≡ xs
drop_zero [] = refl
drop_zero (x ∷ xs) = refl

module _ (node : ℕ) where
  abbrev step : Option ℕ → NodeNumber → Option ℕ
  step found one = cond (is_eq (nat_cmp one.node node)) one.number found

  found_here : (one : NodeNumber) (found : Option ℕ) → one.node ≡ node → step found one ≡ one.number
  found_here one found same =
      cond-true (is_eq (nat_cmp one.node node)) one.number found
      (ap (λ n. is_eq (nat_cmp n node)) same ∙ ap is_eq (is_equal _ (ap is_eq (tied_itself nat_cmp_total node))))

  not_here : (one : NodeNumber) (found : Option ℕ) → one.node ≢ node → step found one ≡ found
  not_here one found apart = elim (cases_Bool (is_eq (nat_cmp one.node node))) [
    | inl t ↦ absurd (apart (nat_cmp-IsAntisymmetric one.node node (is_equal _ t)))
    | inr f ↦ cond-false (is_eq (nat_cmp one.node node)) one.number found f
  ]

  olds_without : (entries : List OldEntry) (found : Option ℕ) → ((entry : OldEntry) → Contains entries entry → entry.node.0 ≢ node)
      → fold step found (olds_numbered entries) ≡ found
  unfolding olds_numbered
  olds_without [] found apart = refl
  olds_without (entry ∷ entries) found apart =
      ap (λ o. fold step o (olds_numbered entries))
      (not_here (record { node = entry.node.0; number = Some entry.old.number }) found (apart entry (first_in entry entries)))
      ∙ olds_without entries found (λ other is. apart other (further_in entry other entries is))

  enters_without : (enter : List Enter) (grant : List ℕ) (found : Option ℕ) → ((one : Enter) → Contains enter one → one.node.0 ≢ node)
      → fold step found (enters_numbered enter grant) ≡ found
  unfolding enters_numbered
  enters_without [] grant found apart = refl
  enters_without (one ∷ enter) grant found apart =
      ap (λ o. fold step o (enters_numbered enter (drop 1 grant)))
      (not_here (record { node = one.node.0; number = slice_get grant 0 }) found (apart one (first_in one enter)))
      ∙ enters_without enter (drop 1 grant) found (λ other is. apart other (further_in one other enter is))

  grant_of_none : (nodes : List ℕ) → grant_for nodes [] node ≡ None
  grant_of_none [] = refl
  grant_of_none (n ∷ nodes) = refl

-- a later item has a greater number than the first
later_is_greater : {X : Type 0} (key : X → ℕ) (first x : X) (xs : List X) → AscendBy key (first ∷ xs) → Contains xs x → key first < key x
later_is_greater key first x xs up (k, within, is) = subst (λ y. key first < key y) is (first_is_least key first xs up k x within)

old_found : (entries : List OldEntry) → AscendBy entry_node entries → (entry : OldEntry) → Contains entries entry → (found : Option ℕ)
    → fold (step entry.node.0) found (olds_numbered entries) ≡ Some entry.old.number
unfolding olds_numbered
old_found [] up entry (k, within, is) found = absurd (omega arith)
old_found (first ∷ entries) up entry (zero, within, is) found =
    olds_without entry.node.0 entries (step entry.node.0 found (record { node = first.node.0; number = Some first.old.number })) (λ other in_rest same.
    let less = later_is_greater entry_node first other entries up in_rest in
    let here = ap (λ (e : OldEntry). e.node.0) is in
    omega arith)
    ∙ found_here entry.node.0 (record { node = first.node.0; number = Some first.old.number }) found (ap (λ (e : OldEntry). e.node.0) is)
    ∙ ap (λ (e : OldEntry). Some e.old.number) is
old_found (first ∷ entries) up entry (suc k, within, is) found = old_found entries (ascends_behind entry_node first entries up) entry (k, omega arith, is) _

enter_found : (enter : List Enter) → AscendBy enter_node enter → (one : Enter) → Contains enter one → (grant : List ℕ) (found : Option ℕ)
    → fold (step one.node.0) found (enters_numbered enter grant) ≡ grant_for (map enter_node enter) grant one.node.0
unfolding enters_numbered
enter_found [] up one (k, within, is) grant found = absurd (omega arith)
enter_found (first ∷ enter) up one (zero, within, is) grant found =
    enters_without one.node.0 enter (drop 1 grant) (step one.node.0 found (record { node = first.node.0; number = slice_get grant 0 })) (λ other in_rest same.
    let less = later_is_greater enter_node first other enter up in_rest in
    let here = ap (λ (e : Enter). e.node.0) is in
    omega arith)
    ∙ found_here one.node.0 (record { node = first.node.0; number = slice_get grant 0 }) found (ap (λ (e : Enter). e.node.0) is) ∙ by grant
  where
    by : (grant : List ℕ) → slice_get grant 0 ≡ grant_for (first.node.0 ∷ map enter_node enter) grant one.node.0
    by [] = refl
    by (i ∷ grant) = sym (cond-true (nat_eq first.node.0 one.node.0) (Some i) _ (ap (λ (e : Enter). nat_eq e.node.0 one.node.0) is ∙ same_number one.node.0))
enter_found (first ∷ enter) up one (suc k, within, is) grant found =
    let rest : Contains enter one = (k, omega arith, is) in
    enter_found enter (ascends_behind enter_node first enter up) one rest (drop 1 grant) _
    ∙ by grant (not_same first.node.0 one.node.0 (λ same. let less = later_is_greater enter_node first one enter up rest in omega arith))
  where
    by : (grant : List ℕ) → nat_eq first.node.0 one.node.0 ≡ false
        → grant_for (map enter_node enter) (drop 1 grant) one.node.0 ≡ grant_for (first.node.0 ∷ map enter_node enter) grant one.node.0
    by [] apart = grant_of_none one.node.0 (map enter_node enter)
    by (i ∷ grant) apart =
        ap (λ those. grant_for (map enter_node enter) those one.node.0) (drop_zero grant) ∙ sym (cond-false (nat_eq first.node.0 one.node.0) (Some i) _ apart)

-- the numbers of all nodes of a commit
module _ (changes : CommitChanges) (entries : List OldEntry) (enter : List Enter) (grant : List ℕ) where
  abbrev pub numbered : ℕ → Option ℕ
  numbered = number_in (numbers_given (map (seated_old changes) entries ++ map (seated_entering changes) enter) grant)

  all : (node : ℕ) → numbered node ≡ fold (step node) (fold (step node) None (olds_numbered entries)) (enters_numbered enter grant)
  all node =
      ap (λ numbers. number_in numbers node)
      (given_olds changes entries (map (seated_entering changes) enter) grant
      ∙ ap (λ rest. olds_numbered entries ++ rest) (given_enters changes enter grant))
      ∙ fold-append (step node) None (olds_numbered entries) (enters_numbered enter grant)

  pub stays_numbered : AscendBy entry_node entries → (entry : OldEntry) → Contains entries entry
      → ((one : Enter) → Contains enter one → one.node.0 ≢ entry.node.0) → numbered entry.node.0 ≡ Some entry.old.number
  stays_numbered up entry is apart = all entry.node.0 ∙ enters_without entry.node.0 enter grant _ apart ∙ old_found entries up entry is None

  pub enters_granted : AscendBy enter_node enter → (one : Enter) → Contains enter one
      → ((entry : OldEntry) → Contains entries entry → entry.node.0 ≢ one.node.0)
      → numbered one.node.0 ≡ grant_for (map enter_node enter) grant one.node.0
  enters_granted up one is apart =
      all one.node.0 ∙ ap (λ o. fold (step one.node.0) o (enters_numbered enter grant)) (olds_without one.node.0 entries None apart)
      ∙ enter_found enter up one is grant None

  -- no other node has a number
  pub unnumbered : (node : ℕ) → ((entry : OldEntry) → Contains entries entry → entry.node.0 ≢ node) → ((one : Enter) → Contains enter one → one.node.0 ≢ node)
      → numbered node ≡ None
  unnumbered node olds enters = all node ∙ enters_without node enter grant _ enters ∙ olds_without node entries None olds

-- a number is a node's own, or one of a grant
abbrev pub IsOwnOrGranted : List Seated → List ℕ → ℕ → Type 0
IsOwnOrGranted seats grant n = ((seat : Seated) × Contains seats seat × (seat.number ≡ Some n)) ⊎ Contains grant n

-- some node of a list is this one
abbrev pub HasSeat : List Seated → ℕ → Type 0
HasSeat seats node = (seat : Seated) × Contains seats seat × (seat.node ≡ node)

-- each node has such a number, where a grant has one for each that enters
pub number_known : (Known : ℕ → Type 0) (node : ℕ) (seats : List Seated) (grant : List ℕ) → count_by enters seats ≤ length grant
    → ((n : ℕ) → IsOwnOrGranted seats grant n → Known n)
    → (found : Option ℕ) → ((n : ℕ) × (found ≡ Some n) × Known n) ⊎ HasSeat seats node
    → (n : ℕ) × (fold (step node) found (numbers_given seats grant) ≡ Some n) × Known n
number_known Known node [] grant enough known found (inl has) = has
number_known Known node [] grant enough known found (inr (seat, (k, within, is), same)) = absurd (omega arith)
number_known Known node (first ∷ seats) grant enough known found has =
    by first.number refl grant enough known (λ rest few knows before is. number_known Known node seats rest few knows before is)
  where
    Rest : List ℕ → Type 0
    Rest rest =
        count_by enters seats ≤ length rest → ((n : ℕ) → IsOwnOrGranted seats rest n → Known n) → (before : Option ℕ)
        → ((n : ℕ) × (before ≡ Some n) × Known n) ⊎ HasSeat seats node
        → (n : ℕ) × (fold (step node) before (numbers_given seats rest) ≡ Some n) × Known n

    moved : (one : NodeNumber) (m : ℕ) → one.node ≡ first.node → one.number ≡ Some m → Known m
        → ((n : ℕ) × (step node found one ≡ Some n) × Known n) ⊎ HasSeat seats node
    moved one m same is knows = elim (cases_Bool (is_eq (nat_cmp one.node node))) [
      | inl t ↦ inl (m, cond-true (is_eq (nat_cmp one.node node)) one.number found t ∙ is, knows)
      | inr f ↦ elim has [
        | inl before ↦ inl (before.0, cond-false (is_eq (nat_cmp one.node node)) one.number found f ∙ before.1, before.2)
        | inr (seat, (zero, within, here), own) ↦
            absurd
            (false_not_true
            (sym f ∙ ap (λ n. is_eq (nat_cmp n node)) (same ∙ ap (λ (s : Seated). s.node) here ∙ own)
            ∙ ap is_eq (is_equal _ (ap is_eq (tied_itself nat_cmp_total node)))))
        | inr (seat, (suc k, within, here), own) ↦ inr (seat, (k, omega arith, here), own)
      ]
    ]

    further : (rest all : List ℕ) → ((x : ℕ) → Contains rest x → Contains all x) → (n : ℕ) → IsOwnOrGranted seats rest n → IsOwnOrGranted (first ∷ seats) all n
    further rest all in_all n (inl (seat, is, own)) = inl (seat, further_in first seat seats is, own)
    further rest all in_all n (inr is) = inr (in_all n is)

    by : (o : Option ℕ) → first.number ≡ o → (grant : List ℕ) → count_by enters (first ∷ seats) ≤ length grant
        → ((n : ℕ) → IsOwnOrGranted (first ∷ seats) grant n → Known n) → ((rest : List ℕ) → Rest rest)
        → (n : ℕ)
        × (fold (step node) (step node found (record { node = first.node; number = number_given o grant })) (numbers_given seats (grant_left o grant))
        ≡ Some n)
        × Known n
    by (Some m) e grant enough known later =
        let counted = count-cons enters first seats in
        later grant (omega (arith, counted)) (λ n own. known n (further grant grant (λ x is. is) n own)) _
        (moved (record { node = first.node; number = Some m }) m refl refl (known m (inl (first, first_in first seats, e))))
    by None e [] enough known later =
        absurd (let counted = count-cons enters first seats ∙ ap (λ (o : Option ℕ). cond (is_none o) 1 0 + count_by enters seats) e in omega arith)
    by None e (i ∷ grant) enough known later =
        let counted = count-cons enters first seats ∙ ap (λ (o : Option ℕ). cond (is_none o) 1 0 + count_by enters seats) e in
        let whole = ap length (drop_zero grant) in
        later (drop 1 (i ∷ grant)) (omega (arith, counted, whole))
        (λ n own. known n
        (further (drop 1 (i ∷ grant)) (i ∷ grant) (λ x is. further_in i x grant (subst (λ xs. Contains xs x) (drop_zero grant) is)) n own))
        _
        (moved (record { node = first.node; number = Some i }) i refl refl (known i (inr (first_in i grant))))
