-- What the fronts of worked records show.
use Rattle.std.proofs.Common.{◌≡◌, ◌++◌, ◌∷◌, ◌≤◌, ◌<◌, ◌∙◌, List, [], refl, ℕ, All, sym, ap, append-nil, subst, arith, not, Bool, cond}
use Rattle.std.proofs.lemmas.List.Elements.{All-tail, All-head, All-cons, All-nil}
use Rattle.sfs_base.proofs.BasicNumbers.{same_number}
use Rattle.tree_laws.specs.declared.turns.Turn.{Turn}
use Rattle.tree_laws.specs.declared.turns.TurnAct.{TurnAct}
use Rattle.tree_laws.specs.declared.turns.TurnAct.TheVariants as act
use Rattle.slot_image_laws.specs.Held.{FirstImagesHaveTheParts, DurableCommitsStand}
use Rattle.slot_image_laws.specs.Images.{Shows, first_books, disk_books, DiskBooks, books_from, book_act}
use Rattle.slot_image_laws.specs.Commits.{parts_over}

nothing_left : (front back : List Turn) → [] ≡ front ++ back → front ≡ []
nothing_left [] back is = refl
nothing_left (turn ∷ front) back is = absurd (cc)

-- where no turn is later than a moment, all are in the front
all_in_front : (moment : ℕ) (turns front back : List Turn) → turns ≡ front ++ back → All (λ (turn : Turn). turn.now ≤ moment) turns
    → All (λ (turn : Turn). moment < turn.now) back → front ≡ turns
all_in_front moment turns front back split early later = sym (split ∙ ap (λ (l : List Turn). front ++ l) (none back behind later) ∙ append-nil front)
  where
    right : (xs ys : List Turn) → All (λ (turn : Turn). turn.now ≤ moment) (xs ++ ys) → All (λ (turn : Turn). turn.now ≤ moment) ys
    right [] ys all = all
    right (x ∷ xs) ys all = right xs ys (All-tail (λ (turn : Turn). turn.now ≤ moment) x (xs ++ ys) all)

    behind : All (λ (turn : Turn). turn.now ≤ moment) back
    behind = right front back (subst (All (λ (turn : Turn). turn.now ≤ moment)) split early)

    none : (list : List Turn) → All (λ (turn : Turn). turn.now ≤ moment) list → All (λ (turn : Turn). moment < turn.now) list → list ≡ []
    none [] low high = refl
    none (turn ∷ list) low high =
        let below = All-head (λ (turn : Turn). turn.now ≤ moment) turn list low in
        let above = All-head (λ (turn : Turn). moment < turn.now) turn list high in
        absurd (omega arith)

pub first_images_have_the_parts : FirstImagesHaveTheParts
first_images_have_the_parts run moment image shown =
    let shows : Shows run.gives run.layout (first_books run) image =
    subst (λ (l : List Turn). Shows run.gives run.layout (disk_books run l) image) (nothing_left shown.front shown.back shown.split) shown.shows in
    record { table = shows.table; opened = shows.opened; stands = shows.stands; same = shows.parts }

pub durable_commits_stand : DurableCommitsStand
durable_commits_stand run opened durable moment image is shown =
    let whole : shown.front ≡ opened ∷ durable ∷ [] =
    all_in_front moment (opened ∷ durable ∷ []) shown.front shown.back shown.split
    (All-cons (λ (turn : Turn). turn.now ≤ moment) opened (durable ∷ []) is.opened_by
    (All-cons (λ (turn : Turn). turn.now ≤ moment) durable [] is.durable_by (All-nil (λ (turn : Turn). turn.now ≤ moment)))) shown.later in
    let shows : Shows run.gives run.layout landed image =
    subst (λ (b : DiskBooks). Shows run.gives run.layout b image) books_are
    (subst (λ (l : List Turn). Shows run.gives run.layout (disk_books run l) image) whole shown.shows) in
    record { table = shows.table; opened = shows.opened; stands = shows.stands; same = shows.parts }
  where
    landed : DiskBooks
    landed = record { base = parts_over (run.gives opened.commit) run.parts; flying = [] }

    books_are : disk_books run (opened ∷ durable ∷ []) ≡ landed
    books_are =
        ap (λ (did : TurnAct). books_from run.gives (durable ∷ []) (book_act run.gives did opened.commit (first_books run))) is.opened_is
        ∙ ap (λ (did : TurnAct). book_act run.gives did durable.commit (record { base = run.parts; flying = opened.commit ∷ [] })) is.durable_is
        ∙ ap (λ (commit : ℕ). book_act run.gives act.Durable commit (record { base = run.parts; flying = opened.commit ∷ [] })) is.same
        ∙ ap (λ (b : Bool). record { base = parts_over (run.gives opened.commit) run.parts; flying = cond (not b) (opened.commit ∷ []) [] })
        (same_number opened.commit)
