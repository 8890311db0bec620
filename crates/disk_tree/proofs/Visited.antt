-- How a walk from the root marks what it reaches.
use Rattle.std.proofs.Common.{◌≡◌, ◌⊎◌, ℕ, zero, suc, ◌+◌, ◌-◌, ◌<◌, Bool, true, false, eqb, List, [], ◌∷◌, ◌++◌, length, get_or, refl, sym, ap, subst, ◌∙◌, arith, inl, inr}
use Rattle.std.specs.Prelude.{slice_index, slice_set}
use Rattle.std.proofs.lemmas.Bool.{cases_lt, cases_Bool, eqb-true, eqb-false}
use Rattle.std.proofs.lemmas.List.{length-append, get_or_append_left, get_or-append_right, get_or-set_same, get_or-set_other, length-set, get_or_past}
use Rattle.sfs_base.proofs.BasicTruth.{not_both_of}
use Rattle.sfs_base.specs.Lists.{Roomy}
use Rattle.sfs_image.specs.Slot.{Row}
use Rattle.tree_laws.specs.Tree.{is_directory_kind}
use Rattle.disk_tree.specs.Apart.{is_marked}
use Rattle.disk_tree.specs.Reached.{row_at, IsReachedFromRoot, root, named, AreMarked, MarksReached, unmarked, IsPending, Visits, Frontier, Passes, Marks}
use Rattle.disk_tree.specs.Rows.{rows_of_inode}

pub unmarked-set : (reached : List Bool) (i : ℕ) → i < length reached → is_marked reached i ≡ false → unmarked (slice_set reached i true) + 1 ≡ unmarked reached
unmarked-set [] i within none = absurd (omega arith)
unmarked-set (true ∷ reached) zero within none = absurd (not_both_of true refl none)
unmarked-set (false ∷ reached) zero within none = omega arith
unmarked-set (true ∷ reached) (suc i) within none = unmarked-set reached i (omega arith) none
unmarked-set (false ∷ reached) (suc i) within none = (let h = unmarked-set reached i (omega arith) none in omega arith)

-- what has a mark is within
pub within_marks : (reached : List Bool) (i : ℕ) → is_marked reached i ≡ true → i < length reached
within_marks reached i marked = elim (cases_lt i (length reached)) [
  | inl less ↦ less
  | inr past ↦ absurd (not_both_of (is_marked reached i) marked (get_or_past reached i false past))
]

-- numbers that are pending, with one more behind them
pub pending_before : (pending : List ℕ) (x i : ℕ) → IsPending pending i → IsPending (pending ++ x ∷ []) i
pending_before pending x i one =
    (one.0, (let h = one.1 in omega (arith, length-append pending (x ∷ []))), get_or_append_left pending (x ∷ []) 0 one.0 one.1 ∙ one.2)

last_is : (pending : List ℕ) (x k : ℕ) → k ≡ length pending → slice_index (pending ++ x ∷ []) k ≡ x
last_is pending x k e =
    get_or-append_right pending (x ∷ []) (length pending) k 0 refl (omega arith)
    ∙ (let z : k - length pending ≡ 0 = omega arith in ap (λ (n : ℕ). get_or (x ∷ []) n 0) z)

pub pending_last : (pending : List ℕ) (x : ℕ) → IsPending (pending ++ x ∷ []) x
pending_last pending x = (length pending, omega (arith, length-append pending (x ∷ [])), last_is pending x (length pending) refl)

pub pending_split : (pending : List ℕ) (x i : ℕ) → IsPending (pending ++ x ∷ []) i → IsPending pending i ⊎ (i ≡ x)
pending_split pending x i one = elim (cases_lt one.0 (length pending)) [
  | inl less ↦ inl (one.0, less, sym (get_or_append_left pending (x ∷ []) 0 one.0 less) ∙ one.2)
  | inr last ↦ (let h = one.1 in
      let e : one.0 ≡ length pending = omega (arith, length-append pending (x ∷ [])) in
      inr (sym one.2 ∙ last_is pending x one.0 e))
]

-- no row was visited
pub none_visited : (rows : List Row) (old : List Bool) (pending : List ℕ) → Visits rows 0 old old pending pending
none_visited rows old pending = record {
  size = refl;
  keeps = λ i marked. marked;
  marks = λ k less. absurd (omega arith);
  only = λ i marked. inl marked;
  stay = λ i one. one;
  fresh = λ i marked. inl marked;
  from = λ i one. inl one;
  work = refl;
}

module _ (rows : List Row) (n : ℕ) (old new : List Bool) (pending now : List ℕ) (before : Visits rows n old new pending now) where
  more_only : (i : ℕ) → (is_marked old i ≡ true) ⊎ ((k : ℕ) × (k < n) × (is_directory_kind (row_at rows k).kind ≡ true) × ((row_at rows k).inode ≡ i)) →
      (is_marked old i ≡ true) ⊎ ((k : ℕ) × (k < n + 1) × (is_directory_kind (row_at rows k).kind ≡ true) × ((row_at rows k).inode ≡ i))
  more_only i (inl marked) = inl marked
  more_only i (inr one) = inr (one.0, (let h = one.1 in omega arith), one.2, one.3)

  more_marks : (is_directory_kind (row_at rows n).kind ≡ true → is_marked new (row_at rows n).inode ≡ true) → AreMarked new rows (n + 1)
  more_marks here k less kind = elim (cases_lt k n) [
    | inl below ↦ before.marks k below kind
    | inr last ↦ (let e : k ≡ n = omega arith in
        subst (λ (j : ℕ). is_marked new (row_at rows j).inode ≡ true) (sym e) (here (subst (λ (j : ℕ). is_directory_kind (row_at rows j).kind ≡ true) e kind)))
  ]

  -- a row that names no directory, or one with a mark
  pub pass_row : (is_directory_kind (row_at rows n).kind ≡ true → is_marked new (row_at rows n).inode ≡ true) → Visits rows (n + 1) old new pending now
  pass_row here = record {
    size = before.size;
    keeps = before.keeps;
    marks = more_marks here;
    only = λ i marked. more_only i (before.only i marked);
    stay = before.stay;
    fresh = before.fresh;
    from = before.from;
    work = before.work;
  }

-- a row that names a directory without a mark
module _ (rows : List Row) (n : ℕ) (old new : List Bool) (pending now : List ℕ) (before : Visits rows n old new pending now)
    (kind : is_directory_kind (row_at rows n).kind ≡ true) (fits : (row_at rows n).inode < length new)
    (none : is_marked new (row_at rows n).inode ≡ false) where
  x : ℕ
  x = (row_at rows n).inode

  abbrev next : List Bool
  next = slice_set new (row_at rows n).inode true

  here : is_marked next (row_at rows n).inode ≡ true
  here = get_or-set_same new (row_at rows n).inode true false fits

  still : (i : ℕ) → is_marked new i ≡ true → is_marked next i ≡ true
  still i marked = elim (cases_Bool (eqb i (row_at rows n).inode)) [
    | inl same ↦ subst (λ (j : ℕ). is_marked next j ≡ true) (sym (eqb-true _ _ same)) here
    | inr other ↦ get_or-set_other new (row_at rows n).inode i true false (eqb-false _ _ other) ∙ marked
  ]

  split : (i : ℕ) → is_marked next i ≡ true → (is_marked new i ≡ true) ⊎ (i ≡ (row_at rows n).inode)
  split i marked = elim (cases_Bool (eqb i (row_at rows n).inode)) [
    | inl same ↦ inr (eqb-true _ _ same)
    | inr other ↦ inl (sym (get_or-set_other new (row_at rows n).inode i true false (eqb-false _ _ other)) ∙ marked)
  ]

  pub visit_row : Visits rows (n + 1) old next pending (now ++ (row_at rows n).inode ∷ [])
  visit_row = record {
    size = length-set new (row_at rows n).inode true ∙ before.size;
    keeps = λ i marked. still i (before.keeps i marked);
    marks = λ k less is. elim (cases_lt k n) [
      | inl below ↦ still (row_at rows k).inode (before.marks k below is)
      | inr last ↦ (let e : n ≡ k = omega arith in subst (λ (j : ℕ). is_marked next (row_at rows j).inode ≡ true) e here)
    ];
    only = λ i marked. elim (split i marked) [
      | inl earlier ↦ more_only rows n old new pending now before i (before.only i earlier)
      | inr same ↦ inr (n, omega arith, kind, sym same)
    ];
    stay = λ i one. pending_before now (row_at rows n).inode i (before.stay i one);
    fresh = λ i marked. elim (split i marked) [
      | inl earlier ↦ elim (before.fresh i earlier) [ inl was ↦ inl was | inr one ↦ inr (pending_before now (row_at rows n).inode i one) ]
      | inr same ↦ inr (subst (IsPending (now ++ (row_at rows n).inode ∷ [])) (sym same) (pending_last now (row_at rows n).inode))
    ];
    from = λ i one. elim (pending_split now (row_at rows n).inode i one) [
      | inl earlier ↦ elim (before.from i earlier) [ inl was ↦ inl was | inr marked ↦ inr (still i marked) ]
      | inr same ↦ inr (subst (λ (j : ℕ). is_marked next j ≡ true) (sym same) here)
    ];
    work =
        (let w = before.work in
        let u = unmarked-set new (row_at rows n).inode fits none in
        let l = length-append now ((row_at rows n).inode ∷ []) in
        omega arith);
  }

-- one visit of a directory that was pending
module _ (rows : List (Roomy Row)) (count : ℕ) (reached new : List Bool) (pending rest now : List ℕ) (directory : ℕ)
    (before : Frontier rows count reached pending) (popped : pending ≡ rest ++ directory ∷ [])
    (visits : Visits (rows_of_inode rows directory) (length (rows_of_inode rows directory)) reached new rest now) where
  was_pending : IsPending pending directory
  was_pending = subst (λ (p : List ℕ). IsPending p directory) (sym popped) (pending_last rest directory)

  is_reached : IsReachedFromRoot rows directory
  is_reached = before.sound directory (before.marked directory was_pending)

  marks_grow : (own : List Row) (n : ℕ) → AreMarked reached own n → AreMarked new own n
  marks_grow own n marks k less kind = visits.keeps (row_at own k).inode (marks k less kind)

  pub next_frontier : Frontier rows count new now
  next_frontier = record {
    size = visits.size ∙ before.size;
    root = visits.keeps 0 before.root;
    sound = λ i marked. elim (visits.only i marked) [
      | inl earlier ↦ before.sound i earlier
      | inr one ↦ subst (IsReachedFromRoot rows) one.3 (named directory one.0 one.1 one.2 is_reached)
    ];
    visited = λ i marked. elim (visits.fresh i marked) [
      | inr one ↦ inl one
      | inl earlier ↦ elim (before.visited i earlier) [
        | inr marks ↦ inr (marks_grow (rows_of_inode rows i) (length (rows_of_inode rows i)) marks)
        | inl one ↦ elim (pending_split rest directory i (subst (λ (p : List ℕ). IsPending p i) popped one)) [
          | inl still ↦ inl (visits.stay i still)
          | inr same ↦ inr (subst (λ (j : ℕ). AreMarked new (rows_of_inode rows j) (length (rows_of_inode rows j))) (sym same) visits.marks)
        ]
      ]
    ];
    marked = λ i one. elim (visits.from i one) [
      | inr marks ↦ marks
      | inl earlier ↦ visits.keeps i (before.marked i (subst (λ (p : List ℕ). IsPending p i) (sym popped) (pending_before rest directory i earlier)))
    ];
  }

  pub less_work : unmarked new + length now < unmarked reached + length pending
  less_work = (let w = visits.work in omega (arith, ap length popped, length-append rest (directory ∷ [])))

-- nothing is pending
pub all_visited : (rows : List (Roomy Row)) (count : ℕ) (reached : List Bool) (pending : List ℕ) → Frontier rows count reached pending → pending ≡ []
    → MarksReached rows count reached
all_visited rows count reached pending before none = record {
  size = before.size;
  root = before.root;
  sound = before.sound;
  closed = λ i marked. elim (before.visited i marked) [
    | inr marks ↦ marks
    | inl one ↦ absurd (let h = one.1 in omega (arith, ap length none))
  ];
}

-- one more row, as it was visited
pub visited_more : (rows : List Row) (n : ℕ) (old mid new : List Bool) (pending between now : List ℕ) (row : Row) → Visits rows n old mid pending between
    → row ≡ row_at rows n → row.inode < length mid →
    Passes row mid new between now ⊎ Marks row mid new between now → Visits rows (n + 1) old new pending now
visited_more rows n old mid new pending between now row before is fits (inl passes) =
    subst (λ (reached : List Bool). Visits rows (n + 1) old reached pending now) (sym passes.marks)
    (subst (λ (p : List ℕ). Visits rows (n + 1) old mid pending p) (sym passes.pending_same)
    (pass_row rows n old mid pending between before (subst (λ (r : Row). is_directory_kind r.kind ≡ true → is_marked mid r.inode ≡ true) is passes.known)))
visited_more rows n old mid new pending between now row before is fits (inr marks) =
    subst (λ (reached : List Bool). Visits rows (n + 1) old reached pending now) (sym (marks.marks ∙ ap (λ (r : Row). slice_set mid r.inode true) is))
    (subst (λ (p : List ℕ). Visits rows (n + 1) old (slice_set mid (row_at rows n).inode true) pending p)
    (sym (marks.pending_more ∙ ap (λ (r : Row). between ++ r.inode ∷ []) is))
    (visit_row rows n old mid pending between before (subst (λ (r : Row). is_directory_kind r.kind ≡ true) is marks.kind)
    (subst (λ (r : Row). r.inode < length mid) is fits) (subst (λ (r : Row). is_marked mid r.inode ≡ false) is marks.fresh)))

-- the root alone
pub root_frontier : (rows : List (Roomy Row)) (count : ℕ) (reached : List Bool) (pending : List ℕ) → 0 < count → length reached ≡ count
    → ((i : ℕ) → is_marked reached i ≡ false) → pending ≡ 0 ∷ [] →
    Frontier rows count (slice_set reached 0 true) pending
root_frontier rows count reached pending some size none is = record {
  size = length-set reached 0 true ∙ size;
  root = here;
  sound = λ i marked. subst (IsReachedFromRoot rows) (sym (only i marked)) root;
  visited = λ i marked. inl (subst (IsPending pending) (sym (only i marked)) (subst (λ (p : List ℕ). IsPending p 0) (sym is) (0, omega arith, refl)));
  marked = λ i one. subst (λ (j : ℕ). is_marked (slice_set reached 0 true) j ≡ true) (root_only i (subst (λ (p : List ℕ). IsPending p i) is one)) here;
}
  where
    here : is_marked (slice_set reached 0 true) 0 ≡ true
    here = get_or-set_same reached 0 true false (omega arith)

    only : (i : ℕ) → is_marked (slice_set reached 0 true) i ≡ true → i ≡ 0
    only i marked = elim (cases_Bool (eqb i 0)) [
      | inl same ↦ eqb-true _ _ same
      | inr other ↦ absurd (not_both_of (is_marked reached i) (sym (get_or-set_other reached 0 i true false (eqb-false _ _ other)) ∙ marked) (none i))
    ]

    root_only : (i : ℕ) → IsPending (0 ∷ []) i → 0 ≡ i
    root_only i one = (let h = one.1 in let e : one.0 ≡ 0 = omega arith in sym (ap (λ (k : ℕ). slice_index (0 ∷ []) k) e) ∙ one.2)

-- what was pending has a mark, and lies within
pub popped_within : (rows : List (Roomy Row)) (count : ℕ) (reached : List Bool) (pending rest : List ℕ) (directory : ℕ) → Frontier rows count reached pending
    → pending ≡ rest ++ directory ∷ [] → directory < count
popped_within rows count reached pending rest directory before popped =
    let marked = before.marked directory (subst (λ (p : List ℕ). IsPending p directory) (sym popped) (pending_last rest directory)) in
    let h = within_marks reached directory marked in
    let size = before.size in
    omega arith
