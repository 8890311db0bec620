-- What is drawn for the writes that are pending is what a crash may leave.
use Rattle.std.proofs.Common.{◌≡◌, ℕ, suc, ◌+◌, ◌-◌, ◌<◌, ◌≤◌, Bool, true, false, ◌&&◌, leb, List, [], ◌∷◌, ◌++◌, length, take, drop, reverse, refl, sym, ◌∙◌, ap, subst, arith, append_assoc, length-drop, cond}
use Rattle.std.specs.Prelude.{All, take_while}
use Rattle.std.specs.List.{list_all}
use Rattle.std.proofs.lemmas.List.Folds.{list_all-append}
use Rattle.std.proofs.lemmas.List.{length-take-le, take_at, drop_at, drop-append-le, take-append-drop, reverse-append, reverse-reverse, length-reverse, map-append, get_or-reverse}
use Rattle.std.proofs.lemmas.List.Sums.{take_while-cons}
use Rattle.std.proofs.lemmas.Bool.{and_parts, and_from}
use Rattle.std.proofs.lemmas.Bool.Decides.{nat_tests}
use Rattle.sfs_dev.specs.Ranges.{part, put, SameOutside}
use Rattle.sfs_dev.specs.RangeLaws.{SameOutside-put, length-put}
use Rattle.sfs_dev.specs.Log.{last_bytes, all_but_last, content_before, replaced_before, left_after, left_at, acts_of, newest_moment, fits}
use Rattle.sfs_dev.specs.LogLaws.{left_now, left_before}
use Rattle.sfs_dev.specs.Left.{Past, Drawn, past_of, undone, is_no_sync, is_pending, pending_count, torn_by, draw_write, draw_writes, next_draw, drawn_image, WereMade}
use Rattle.sfs_dev.proofs.Draws.{some_fits, fits_again, length-torn}
use Rattle.sfs_dev.specs.declared.call.Act.{Act}
use Rattle.sfs_dev.specs.declared.call.Act.TheVariants.{Read, Write, Sync}
use Rattle.sfs_dev.specs.declared.call.Call.{Call}

-- undoing one list of calls after another
pub undone-append : (a b : List Act) (past : Past) → undone (a ++ b) past ≡ undone b (undone a past)
undone-append [] b past = refl
undone-append (act ∷ a) b past = undone-append a b (past_of (content_before act past.content past.replaced) (replaced_before act past.replaced))

-- What is so of a past as long as the writes of these calls fit: the disk's size, and room for them.
pub record Fits (size : ℕ) (acts : List Act) (past : Past) : Type 0 where
  pub whole : length past.content ≡ size
  pub room : fits size acts (length past.replaced) ≡ true

-- how many bytes the writes of these calls replaced
abbrev pub wrote : List Act → ℕ
wrote [] = 0
wrote (Read at count ∷ later) = wrote later
wrote (Write at count ∷ later) = count + wrote later
wrote (Sync ∷ later) = wrote later

-- one call undone
undone_one : (size : ℕ) (act : Act) (later : List Act) (past : Past) → Fits size (act ∷ later) past
    → Fits size later (past_of (content_before act past.content past.replaced) (replaced_before act past.replaced))
    × (length past.replaced ≡ wrote (act ∷ []) + length (replaced_before act past.replaced))
undone_one size (Read at count) later past f = (record { whole = f.whole; room = f.room }, omega arith)
undone_one size (Sync) later past f = (record { whole = f.whole; room = f.room }, omega arith)
undone_one size (Write at count) later past f =
    let s = some_fits size at count (length past.replaced) later f.room in
    let kept : length (last_bytes count past.replaced) ≡ count = omega (arith, length-drop (length past.replaced - count) past.replaced, s.1) in
    let rest : length (all_but_last count past.replaced) ≡ length past.replaced - count =
    length-take-le (length past.replaced - count) past.replaced (omega arith) in (
      record {
        whole = length-put at (last_bytes count past.replaced) past.content (omega (arith, kept, s.0, f.whole)) ∙ f.whole;
        room = ap (λ (n : ℕ). fits size later n) rest ∙ s.2;
      },
      omega (arith, rest, s.1),
    )

wrote-cons : (act : Act) (later : List Act) → wrote (act ∷ later) ≡ wrote (act ∷ []) + wrote later
wrote-cons (Read at count) later = omega arith
wrote-cons (Write at count) later = omega arith
wrote-cons Sync later = omega arith

pub wrote-append : (a b : List Act) → wrote (a ++ b) ≡ wrote a + wrote b
wrote-append [] b = omega arith
wrote-append (act ∷ a) b = omega (arith, wrote-cons act (a ++ b), wrote-cons act a, wrote-append a b)

pub wrote-reverse : (a : List Act) → wrote (reverse a) ≡ wrote a
wrote-reverse [] = refl
wrote-reverse (act ∷ a) =
    ap wrote (reverse-append (act ∷ []) a) ∙ wrote-append (reverse a) (act ∷ []) ∙ (let h = wrote-reverse a in omega (arith, wrote-cons act a, h))

-- calls undone
pub undone_fits : (size : ℕ) (earlier later : List Act) (past : Past) → Fits size (earlier ++ later) past
    → Fits size later (undone earlier past) × (length past.replaced ≡ wrote earlier + length (undone earlier past).replaced)
undone_fits size [] later past f = (f, omega arith)
undone_fits size (act ∷ earlier) later past f =
    let one = undone_one size act (earlier ++ later) past f in
    let next = past_of (content_before act past.content past.replaced) (replaced_before act past.replaced) in
    let more = undone_fits size earlier later next one.0 in
    (more.0, omega (arith, one.1, more.1, wrote-cons act earlier))

-- no call is a sync
abbrev pub no_sync : List Act → Bool
no_sync acts = list_all is_no_sync acts

-- what is so of each is so of each in the other order
pub list_all-reverse : (p : Act → Bool) (a : List Act) → list_all p a ≡ true → list_all p (reverse a) ≡ true
list_all-reverse p [] is = refl
list_all-reverse p (act ∷ a) is =
    let parts = and_parts (p act) (list_all p a) is in
    ap (list_all p) (reverse-append (act ∷ []) a) ∙ list_all-append p (reverse a) (act ∷ [])
    ∙ and_from (list_all p (reverse a)) (p act && true) (list_all-reverse p a parts.1) (and_from (p act) true parts.0 refl)

-- What is so of the image so far: it is what a crash may leave after the calls that were drawn for.
pub record Leaves (size : ℕ) (done : List Act) (past : Past) (image : List ℕ) : Type 0 where
  pub whole : length image ≡ size
  pub left : left_after done past.content past.replaced image

-- a number drawn for one call more
drawn_one : (size : ℕ) (act : Act) (done : List Act) (past : Past) (written : List ℕ) (drawn : Drawn) → is_no_sync act ≡ true → Fits size (act ∷ done) past
    → Leaves size done (undone (act ∷ []) past) drawn.image → wrote (act ∷ []) ≤ length written
    → Leaves size (act ∷ done) past (draw_writes (act ∷ []) written drawn).image
drawn_one size (Read at count) done past written drawn is fit old long = record { whole = old.whole; left = old.left }
drawn_one size Sync done past written drawn is fit old long = absurd (let never : false ≡ true = is in cc)
drawn_one size (Write at count) done past written drawn is fit old long =
    let s = some_fits size at count (length past.replaced) done fit.room in
    let new = take count written in
    let kept : length new ≡ count = length-take-le count written (omega arith) in
    let was : length (part at (length new) drawn.image) ≡ length new =
    length-take-le (length new) (drop at drawn.image) (omega (arith, length-drop at drawn.image, old.whole, s.0, kept)) in
    let torn = torn_by (next_draw drawn.number) (part at (length new) drawn.image) new in
    let count_is : length torn ≡ count = length-torn (next_draw drawn.number) (part at (length new) drawn.image) new was ∙ kept in
    let within : at + length torn ≤ length drawn.image = omega (arith, count_is, old.whole, s.0) in
    record {
      whole = length-put at torn drawn.image within ∙ old.whole;
      left = (
        drawn.image,
        old.left,
        subst (λ (n : ℕ). SameOutside at n drawn.image (put at torn drawn.image)) count_is (SameOutside-put at torn drawn.image within),
      );
    }

-- one call more drawn for, and then the others
draw_writes-cons : (act : Act) (later : List Act) (written : List ℕ) (drawn : Drawn)
    → draw_writes (act ∷ later) written drawn ≡ draw_writes later (drop (wrote (act ∷ [])) written) (draw_writes (act ∷ []) written drawn)
draw_writes-cons (Read at count) later written drawn = refl
draw_writes-cons (Write at count) later written drawn =
    ap (λ (n : ℕ). draw_writes later (drop n written) (draw_write at (take count written) drawn)) (let e : count ≡ count + 0 = omega arith in e)
draw_writes-cons Sync later written drawn = refl

-- numbers drawn for all calls
pub drawn_all : (size : ℕ) (todo done : List Act) (past : Past) (written : List ℕ) (drawn : Drawn) → no_sync todo ≡ true → Fits size (reverse todo ++ done) past
    → Leaves size done (undone (reverse todo) past) drawn.image → wrote todo ≤ length written
    → Leaves size (reverse todo ++ done) past (draw_writes todo written drawn).image
drawn_all size [] done past written drawn is fit old long = old
drawn_all size (act ∷ later) done past written drawn is fit old long =
    let parts = and_parts (is_no_sync act) (list_all is_no_sync later) is in
    let turn : reverse (act ∷ later) ≡ reverse later ++ act ∷ [] = reverse-append (act ∷ []) later in
    let lists : reverse (act ∷ later) ++ done ≡ reverse later ++ act ∷ done =
    ap (λ (l : List Act). l ++ done) turn ∙ append_assoc (reverse later) (act ∷ []) done in
    let fit_there : Fits size (reverse later ++ act ∷ done) past = subst (λ (l : List Act). Fits size l past) lists fit in
    let before = undone (reverse later) past in
    let fit_one : Fits size (act ∷ done) before = (undone_fits size (reverse later) (act ∷ done) past fit_there).0 in
    let old_one : Leaves size done (undone (act ∷ []) before) drawn.image =
    subst (λ (p : Past). Leaves size done p drawn.image) (ap (λ (l : List Act). undone l past) turn ∙ undone-append (reverse later) (act ∷ []) past) old in
    let one : Leaves size (act ∷ done) before (draw_writes (act ∷ []) written drawn).image =
    drawn_one size act done before written drawn parts.0 fit_one old_one (omega (arith, wrote-cons act later, long)) in
    let rest = drawn_all size later (act ∷ done) past (drop (wrote (act ∷ [])) written) (draw_writes (act ∷ []) written drawn) parts.1 fit_there one
    (omega (arith, length-drop (wrote (act ∷ [])) written, wrote-cons act later, long)) in
    subst (λ (l : List Act). Leaves size l past (draw_writes (act ∷ later) written drawn).image) (sym lists)
    (subst (λ (d : Drawn). Leaves size (reverse later ++ act ∷ done) past d.image) (sym (draw_writes-cons act later written drawn)) rest)

-- a write lies within a disk of so many bytes
abbrev pub lies_in : ℕ → Act → Bool
lies_in size (Read at count) = true
lies_in size (Write at count) = leb (at + count) size
lies_in size Sync = true

-- what the test on a list of calls says, whatever their order
pub fits_says : (size : ℕ) (acts : List Act) (kept : ℕ) → fits size acts kept ≡ true → (list_all (lies_in size) acts ≡ true) × (wrote acts ≤ kept)
fits_says size [] kept is = (refl, omega arith)
fits_says size (Read at count ∷ acts) kept is = fits_says size acts kept is
fits_says size (Sync ∷ acts) kept is = fits_says size acts kept is
fits_says size (Write at count ∷ acts) kept is =
    let s = some_fits size at count kept acts is in
    let more = fits_says size acts (kept - count) s.2 in
    (and_from (leb (at + count) size) (list_all (lies_in size) acts) (grind (arith, nat_tests, s.0)) more.0, omega (arith, more.1, s.1))

pub fits_where : (size : ℕ) (acts : List Act) (kept : ℕ) → list_all (lies_in size) acts ≡ true → wrote acts ≤ kept → fits size acts kept ≡ true
fits_where size [] kept is le = refl
fits_where size (Read at count ∷ acts) kept is le = fits_where size acts kept is le
fits_where size (Sync ∷ acts) kept is le = fits_where size acts kept is le
fits_where size (Write at count ∷ acts) kept is le =
    let parts = and_parts (leb (at + count) size) (list_all (lies_in size) acts) is in
    fits_again size at count kept acts (grind (arith, nat_tests, parts.0)) (omega (arith, le)) (fits_where size acts (kept - count) parts.1 (omega (arith, le)))

-- the newest of calls that fit do
pub fits_front : (size : ℕ) (a b : List Act) (kept : ℕ) → fits size (a ++ b) kept ≡ true → fits size a kept ≡ true
fits_front size a b kept is =
    let s = fits_says size (a ++ b) kept is in
    let parts = and_parts (list_all (lies_in size) a) (list_all (lies_in size) b) (sym (list_all-append (lies_in size) a b) ∙ s.0) in
    fits_where size a kept parts.0 (omega (arith, wrote-append a b, s.1))

-- after the last sync what a read gives is there
only_sync : (act : Act) (earlier : List Act) (content replaced : List ℕ) → is_no_sync act ≡ false → left_after (act ∷ earlier) content replaced content
only_sync (Read at count) earlier content replaced is = absurd (let never : true ≡ false = is in cc)
only_sync (Write at count) earlier content replaced is = absurd (let never : true ≡ false = is in cc)
only_sync Sync earlier content replaced is = refl

pub settles : (calls : List Call) (content replaced : List ℕ) → left_after (acts_of (drop (pending_count calls) calls)) content replaced content
settles [] content replaced = refl
settles (call ∷ calls) content replaced =
    subst (λ (l : List Call). left_after (acts_of (drop (length l) (call ∷ calls))) content replaced content) (sym (take_while-cons is_pending call calls))
    (by (settles calls content replaced) (is_pending call) refl)
  where
    by : left_after (acts_of (drop (pending_count calls) calls)) content replaced content → (b : Bool) → is_pending call ≡ b
        → left_after (acts_of (drop (length (cond (is_pending call) (call ∷ take_while is_pending calls) [])) (call ∷ calls))) content replaced content
    by rest true is =
        subst (λ (b : Bool). left_after (acts_of (drop (length (cond b (call ∷ take_while is_pending calls) [])) (call ∷ calls))) content replaced content)
        (sym is)
        rest
    by rest false is =
        subst (λ (b : Bool). left_after (acts_of (drop (length (cond b (call ∷ take_while is_pending calls) [])) (call ∷ calls))) content replaced content)
        (sym is)
        (only_sync call.act (acts_of calls) content replaced is)

-- those after the last sync are none
pub pending_no_sync : (calls : List Call) → no_sync (acts_of (take (pending_count calls) calls)) ≡ true
pending_no_sync [] = refl
pending_no_sync (call ∷ calls) =
    subst (λ (l : List Call). no_sync (acts_of (take (length l) (call ∷ calls))) ≡ true) (sym (take_while-cons is_pending call calls))
    (by (pending_no_sync calls) (is_pending call) refl)
  where
    by : no_sync (acts_of (take (pending_count calls) calls)) ≡ true → (b : Bool) → is_pending call ≡ b
        → no_sync (acts_of (take (length (cond (is_pending call) (call ∷ take_while is_pending calls) [])) (call ∷ calls))) ≡ true
    by rest true is =
        subst (λ (b : Bool). no_sync (acts_of (take (length (cond b (call ∷ take_while is_pending calls) [])) (call ∷ calls))) ≡ true) (sym is)
        (and_from (is_pending call) (no_sync (acts_of (take (pending_count calls) calls))) is rest)
    by rest false is =
        subst (λ (b : Bool). no_sync (acts_of (take (length (cond b (call ∷ take_while is_pending calls) [])) (call ∷ calls))) ≡ true) (sym is) refl

pub pending_within : (calls : List Call) → pending_count calls ≤ length calls
pending_within [] = omega arith
pending_within (call ∷ calls) =
    subst (λ (l : List Call). length l ≤ length (call ∷ calls)) (sym (take_while-cons is_pending call calls))
    (by (pending_within calls) (is_pending call) refl)
  where
    by : pending_count calls ≤ length calls → (b : Bool) → is_pending call ≡ b
        → length (cond (is_pending call) (call ∷ take_while is_pending calls) []) ≤ length (call ∷ calls)
    by rest true is = subst (λ (b : Bool). length (cond b (call ∷ take_while is_pending calls) []) ≤ length (call ∷ calls)) (sym is) (omega (arith, rest))
    by rest false is = subst (λ (b : Bool). length (cond b (call ∷ take_while is_pending calls) []) ≤ length (call ∷ calls)) (sym is) (omega arith)

-- the calls after a moment are undone
undo_later : (k : ℕ) (later earlier : List Call) (content replaced image : List ℕ) → All (λ (call : Call). k < call.moment) later
    → left_at k (later ++ earlier) content replaced image
    ≡ left_at k earlier (undone (acts_of later) (past_of content replaced)).content (undone (acts_of later) (past_of content replaced)).replaced image
undo_later k [] earlier content replaced image after = refl
undo_later k (call ∷ later) earlier content replaced image after =
    left_before k call (later ++ earlier) content replaced image (after 0 call (omega arith))
    ∙ undo_later k later earlier (content_before call.act content replaced) (replaced_before call.act replaced) image (λ i d lt. after (suc i) d (omega arith))

newest_of : (k : ℕ) (calls : List Call) → All (λ (call : Call). call.moment ≤ k) calls → newest_moment calls ≤ k
newest_of k [] all = omega arith
newest_of k (call ∷ calls) all = all 0 call (omega arith)

All-reverse : (P : Call → Type 0) (calls : List Call) → All P calls → All P (reverse calls)
All-reverse P calls all i d lt =
    let within : i < length calls = omega (arith, length-reverse calls) in
    subst P (sym (get_or-reverse calls i d within)) (all (length calls - 1 - i) d (omega arith))

acts-reverse : (calls : List Call) → acts_of (reverse calls) ≡ reverse (acts_of calls)
acts-reverse [] = refl
acts-reverse (call ∷ calls) =
    ap acts_of (reverse-append (call ∷ []) calls) ∙ map-append (λ (c : Call). c.act) (reverse calls) (call ∷ [])
    ∙ ap (λ (l : List Act). l ++ call.act ∷ []) (acts-reverse calls) ∙ sym (reverse-append (call.act ∷ []) (acts_of calls))

-- A list of calls, cut behind the calls that were made, and those before the last sync among them.
module _ (size made : ℕ) (calls : List Call) (content replaced written : List ℕ) (whole : length content ≡ size) (few : made ≤ length calls)
    (logged : fits size (acts_of (reverse calls)) (length replaced) ≡ true) (kept : length written ≡ length replaced) where
  abbrev pub first_calls : List Call
  first_calls = take made calls

  abbrev pub settled : ℕ
  settled = made - pending_count (reverse first_calls)

  abbrev pub waiting : List Call
  waiting = drop settled first_calls

  abbrev pub later : List Call
  later = drop made calls

  abbrev pub past : Past
  past = undone (acts_of (reverse (drop settled calls))) (past_of content replaced)

  made_is : length first_calls ≡ made
  made_is = length-take-le made calls few

  pub settled_before : settled + pending_count (reverse first_calls) ≡ made
  settled_before = omega (arith, pending_within (reverse first_calls), length-reverse first_calls, made_is)

  cut : reverse first_calls ≡ reverse waiting ++ reverse (take settled first_calls)
  cut = ap reverse (sym (take-append-drop settled first_calls)) ∙ reverse-append (take settled first_calls) waiting

  count_is : length (reverse waiting) ≡ pending_count (reverse first_calls)
  count_is = omega (arith, length-reverse waiting, length-drop settled first_calls, made_is, settled_before)

  waiting_is : take (pending_count (reverse first_calls)) (reverse first_calls) ≡ reverse waiting
  waiting_is =
      ap (λ (l : List Call). take (pending_count (reverse first_calls)) l) cut
      ∙ take_at (reverse waiting) (reverse (take settled first_calls)) (pending_count (reverse first_calls)) count_is

  early_is : drop (pending_count (reverse first_calls)) (reverse first_calls) ≡ reverse (take settled first_calls)
  early_is =
      ap (λ (l : List Call). drop (pending_count (reverse first_calls)) l) cut
      ∙ drop_at (reverse waiting) (reverse (take settled first_calls)) (pending_count (reverse first_calls)) count_is

  undone_are : drop settled calls ≡ waiting ++ later
  undone_are =
      ap (λ (l : List Call). drop settled l) (sym (take-append-drop made calls))
      ∙ drop-append-le settled first_calls later (omega (arith, made_is, settled_before))

  turned : reverse (drop settled calls) ≡ reverse later ++ reverse waiting
  turned = ap reverse undone_are ∙ reverse-append waiting later

  all_turned : reverse calls ≡ reverse later ++ reverse first_calls
  all_turned = ap reverse (sym (take-append-drop made calls)) ∙ reverse-append first_calls later

  -- what was before the calls after those that were made
  now : Past
  now = undone (acts_of (reverse later)) (past_of content replaced)

  acts_cut : acts_of (reverse calls) ≡ acts_of (reverse later) ++ acts_of (reverse first_calls)
  acts_cut = ap acts_of all_turned ∙ map-append (λ (c : Call). c.act) (reverse later) (reverse first_calls)

  first_cut : acts_of (reverse first_calls) ≡ reverse (acts_of waiting) ++ acts_of (reverse (take settled first_calls))
  first_cut =
      ap acts_of cut ∙ map-append (λ (c : Call). c.act) (reverse waiting) (reverse (take settled first_calls))
      ∙ ap (λ (l : List Act). l ++ acts_of (reverse (take settled first_calls))) (acts-reverse waiting)

  past_is : past ≡ undone (reverse (acts_of waiting)) now
  unfolding now
  past_is =
      ap (λ (l : List Act). undone l (past_of content replaced)) (ap acts_of turned ∙ map-append (λ (c : Call). c.act) (reverse later) (reverse waiting))
      ∙ undone-append (acts_of (reverse later)) (acts_of (reverse waiting)) (past_of content replaced)
      ∙ ap (λ (l : List Act). undone l (undone (acts_of (reverse later)) (past_of content replaced))) (acts-reverse waiting)

  before : Fits size (acts_of (reverse first_calls)) now × (length replaced ≡ wrote (acts_of (reverse later)) + length now.replaced)
  unfolding now
  before =
      undone_fits size (acts_of (reverse later)) (acts_of (reverse first_calls)) (past_of content replaced)
      (record { whole = whole; room = ap (λ (l : List Act). fits size l (length replaced)) (sym acts_cut) ∙ logged })

  fit_waiting : Fits size (reverse (acts_of waiting) ++ acts_of (reverse (take settled first_calls))) now
  fit_waiting = subst (λ (l : List Act). Fits size l now) first_cut before.0

  long_past : Fits size (acts_of (reverse (take settled first_calls))) past × (length now.replaced ≡ wrote (reverse (acts_of waiting)) + length past.replaced)
  long_past =
      subst (λ (p : Past). Fits size (acts_of (reverse (take settled first_calls))) p
      × (length now.replaced ≡ wrote (reverse (acts_of waiting)) + length p.replaced))
      (sym past_is)
      (undone_fits size (reverse (acts_of waiting)) (acts_of (reverse (take settled first_calls))) now fit_waiting)

  -- the bytes of the writes that wait are there
  pub written_there : wrote (acts_of waiting) ≤ length (drop (length past.replaced) written)
  written_there = omega (arith, length-drop (length past.replaced) written, kept, before.1, long_past.1, wrote-reverse (acts_of waiting))

  pub past_within : length past.replaced ≤ length written
  past_within = omega (arith, kept, before.1, long_past.1)

  -- the newest calls can be undone
  pub undo_fits : fits size (acts_of (reverse (drop settled calls))) (length replaced) ≡ true
  undo_fits =
      let whole_list : acts_of (reverse calls) ≡ acts_of (reverse (drop settled calls)) ++ acts_of (reverse (take settled calls)) =
      ap (λ (l : List Call). acts_of (reverse l)) (sym (take-append-drop settled calls))
      ∙ ap acts_of (reverse-append (take settled calls) (drop settled calls))
      ∙ map-append (λ (c : Call). c.act) (reverse (drop settled calls)) (reverse (take settled calls)) in
      fits_front size (acts_of (reverse (drop settled calls))) (acts_of (reverse (take settled calls))) (length replaced)
      (ap (λ (l : List Act). fits size l (length replaced)) (sym whole_list) ∙ logged)

  -- and those that wait drawn for
  pub draw_fits : fits size (acts_of waiting) (length (drop (length past.replaced) written)) ≡ true
  draw_fits =
      let says =
      fits_says size (reverse (acts_of waiting)) (length now.replaced)
      (fits_front size (reverse (acts_of waiting)) (acts_of (reverse (take settled first_calls))) (length now.replaced) fit_waiting.room) in
      let turned_back = list_all-reverse (lies_in size) (reverse (acts_of waiting)) says.0 in
      fits_where size (acts_of waiting) (length (drop (length past.replaced) written))
      (ap (list_all (lies_in size)) (sym (reverse-reverse (acts_of waiting))) ∙ turned_back) written_there

  pub whole_past : length past.content ≡ size
  whole_past = long_past.0.whole

  -- what is drawn is what the calls that were made may leave
  drawn : (pick : ℕ) → Leaves size (acts_of (reverse first_calls)) now (drawn_image made pick calls written (past_of content replaced))
  unfolding now
  drawn pick =
      let none : no_sync (acts_of waiting) ≡ true =
      ap (list_all is_no_sync) (sym (reverse-reverse (acts_of waiting)))
      ∙ list_all-reverse is_no_sync (reverse (acts_of waiting))
      (ap (list_all is_no_sync) (sym (acts-reverse waiting) ∙ ap acts_of (sym waiting_is)) ∙ pending_no_sync (reverse first_calls)) in
      let there : left_after (acts_of (reverse (take settled first_calls))) past.content past.replaced past.content =
      subst (λ (l : List Call). left_after (acts_of l) past.content past.replaced past.content) early_is
      (settles (reverse first_calls) past.content past.replaced) in
      let start : Leaves size (acts_of (reverse (take settled first_calls))) (undone (reverse (acts_of waiting)) now) past.content =
      subst (λ (p : Past). Leaves size (acts_of (reverse (take settled first_calls))) p past.content) past_is (record { whole = whole_past; left = there }) in
      let all = drawn_all size (acts_of waiting) (acts_of (reverse (take settled first_calls))) now (drop (length past.replaced) written)
      (record { number = pick; image = past.content }) none fit_waiting start written_there in
      subst (λ (l : List Act). Leaves size l now (drawn_image made pick calls written (past_of content replaced))) (sym first_cut) all

  pub drawn_whole : (pick : ℕ) → length (drawn_image made pick calls written (past_of content replaced)) ≡ size
  drawn_whole pick = (drawn pick).whole

  -- and so what a crash may leave
  pub drawn_is_left : (k pick : ℕ) → WereMade k made calls
      → left_at k (reverse calls) content replaced (drawn_image made pick calls written (past_of content replaced))
  unfolding now
  drawn_is_left k pick were =
      let image = drawn_image made pick calls written (past_of content replaced) in
      let at_k : left_at k (reverse first_calls) now.content now.replaced image =
      subst (λ (T : Type 0). T) (sym (left_now k (reverse first_calls) now.content now.replaced image
      (newest_of k (reverse first_calls) (All-reverse (λ (call : Call). call.moment ≤ k) first_calls were.by_then)))) (drawn pick).left in
      subst (λ (l : List Call). left_at k l content replaced image) (sym all_turned)
      (subst (λ (T : Type 0). T)
      (sym (undo_later k (reverse later) (reverse first_calls) content replaced image (All-reverse (λ (call : Call). k < call.moment) later were.after)))
      at_k)

  -- the same of the lists as the code cuts them
  module _ (count pend front : ℕ) (first waits newest : List Call) (bytes old shown : List ℕ)
      (count_made : count ≡ made) (first_is : first ≡ take count calls) (pend_is : pend ≡ pending_count (reverse first))
      (newest_is : newest ≡ drop (count - pend) calls) (bytes_are : bytes ≡ content) (old_are : old ≡ replaced) where
    first_cut_is : first ≡ take made calls
    first_cut_is = first_is ∙ ap (λ (n : ℕ). take n calls) count_made

    cut_at : count - pend ≡ settled
    cut_at = ap (λ (n : ℕ). n - pend) count_made ∙ ap (λ (n : ℕ). made - n) (pend_is ∙ ap (λ (l : List Call). pending_count (reverse l)) first_cut_is)

    newest_cut : newest ≡ drop settled calls
    newest_cut = newest_is ∙ ap (λ (n : ℕ). drop n calls) cut_at

    pub undo_can : fits (length bytes) (acts_of (reverse newest)) (length old) ≡ true
    undo_can =
        ap (λ (l : List ℕ). fits (length l) (acts_of (reverse newest)) (length old)) bytes_are
        ∙ ap (λ (n : ℕ). fits n (acts_of (reverse newest)) (length old)) whole
        ∙ ap (λ (l : List Call). fits size (acts_of (reverse l)) (length old)) newest_cut
        ∙ ap (λ (l : List ℕ). fits size (acts_of (reverse (drop settled calls))) (length l)) old_are
        ∙ undo_fits

    undone_is : undone (acts_of (reverse newest)) (past_of bytes old) ≡ past
    undone_is =
        ap (λ (l : List Call). undone (acts_of (reverse l)) (past_of bytes old)) newest_cut
        ∙ ap (λ (l : List ℕ). undone (acts_of (reverse (drop settled calls))) (past_of l old)) bytes_are
        ∙ ap (λ (l : List ℕ). undone (acts_of (reverse (drop settled calls))) (past_of content l)) old_are

    pub kept_within : front ≡ length (undone (acts_of (reverse newest)) (past_of bytes old)).replaced → shown ≡ written → front ≤ length shown
    kept_within is same =
        let k : front ≡ length past.replaced = is ∙ ap (λ (p : Past). length p.replaced) undone_is in
        omega (arith, k, ap length same, past_within)

    module _ (back image new : List ℕ) (pick : ℕ) (waits_are : waits ≡ drop (count - pend) first)
        (kept_is : front ≡ length (undone (acts_of (reverse newest)) (past_of bytes old)).replaced)
        (back_is : back ≡ (undone (acts_of (reverse newest)) (past_of bytes old)).content)
        (shown_is : shown ≡ written) (new_is : new ≡ drop front shown) where
      waits_cut : waits ≡ waiting
      waits_cut = waits_are ∙ ap (λ (n : ℕ). drop n first) cut_at ∙ ap (λ (l : List Call). drop settled l) first_cut_is

      back_cut : back ≡ past.content
      back_cut = back_is ∙ ap (λ (p : Past). p.content) undone_is

      new_cut : new ≡ drop (length past.replaced) written
      new_cut =
          new_is ∙ ap (λ (n : ℕ). drop n shown) (kept_is ∙ ap (λ (p : Past). length p.replaced) undone_is)
          ∙ ap (λ (l : List ℕ). drop (length past.replaced) l) shown_is

      pub draw_can : fits (length back) (acts_of waits) (length new) ≡ true
      draw_can =
          ap (λ (l : List ℕ). fits (length l) (acts_of waits) (length new)) back_cut
          ∙ ap (λ (n : ℕ). fits n (acts_of waits) (length new)) whole_past
          ∙ ap (λ (l : List Call). fits size (acts_of l) (length new)) waits_cut
          ∙ ap (λ (l : List ℕ). fits size (acts_of waiting) (length l)) new_cut
          ∙ draw_fits

      pub drawn_is : image ≡ (draw_writes (acts_of waits) new (record { number = pick; image = back })).image
          → image ≡ drawn_image made pick calls written (past_of content replaced)
      drawn_is is =
          is ∙ ap (λ (l : List Call). (draw_writes (acts_of l) new (record { number = pick; image = back })).image) waits_cut
          ∙ ap (λ (l : List ℕ). (draw_writes (acts_of waiting) l (record { number = pick; image = back })).image) new_cut
          ∙ ap (λ (l : List ℕ). (draw_writes (acts_of waiting) (drop (length past.replaced) written) (record { number = pick; image = l })).image) back_cut
