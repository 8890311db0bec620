-- What workers made of a phase, in the history that is to come.
use Rattle.std.proofs.Common.{◌≡◌, ◌<◌, ◌≤◌, ◌+◌, ◌∷◌, ◌++◌, ◌∙◌, ℕ, zero, suc, List, [], Bool, true, false, Option, Some, None, length, map, get_or, take, drop, refl, sym, ap, subst, arith, append-nil, inl, inr, cond, ◌||◌, ◌==◌}
use Rattle.std.specs.Prelude.{slice_get, is_some}
use Rattle.std.specs.List.{AllByRecursion, filter}
use Rattle.std.proofs.Math.Seq.{drop-cons}
use Rattle.std.proofs.lemmas.Bool.Decides.{eqb_tells}
use Rattle.std.proofs.lemmas.List.{take_all, take_more, take-append-drop}
use Rattle.std.proofs.lemmas.Option.{get_or_from_slice_get, slice_get-get_or, slice_get_cases, slice_get_past, slice_get_within}
use Rattle.tree_laws.specs.Tree.{TreeState}
use Rattle.tree_laws.specs.declared.history.Entry.{Entry}
use Rattle.script.specs.declared.commands.Line.{Line}
use Rattle.script.specs.Walks.{commands_of, next_call}
use Rattle.script.specs.Follows.{Makes, replies_of}
use Rattle.stamp_table.specs.Hand.{Desk}
use Rattle.stamp_table.specs.Table.{AreIdleFrom}
use Rattle.mem_values.specs.Start.{FileHand}
use Rattle.disk_box.specs.Pens.{PenHand}
use Rattle.workers.specs.Phases.{AreBefore, AreFrom, EndsPhase, HasMadePhases, HasMadeSoFar, RanPhase, RunsPhase}
use Rattle.workers.specs.Works.{WorksEach, any_refused}
use Rattle.workers.specs.declared.worker.Worker.{Worker}
use Rattle.workers.proofs.Phases.{made_more, made_nothing, made_part}
use Rattle.mount.specs.Phases.{HaveWorkers, entries_of, own_of}
use Rattle.mount.specs.Workers.{AreWorkers, HaveMadeNothing, PairAgrees, core_of}
use Rattle.mount.specs.declared.volume.Volume.{Volume}
use Rattle.mount.proofs.Teams.{all_there, there_too, workers_count}

-- the number of an idle core at a place
number_at : (table : Desk Rattle.mem_values.specs.Start.GivenDisk) (cores number : ℕ) (hands : List FileHand) (k : ℕ) (hand : FileHand)
    → AreIdleFrom table cores number hands → slice_get hands k ≡ Some hand → hand.view.core ≡ number + k
number_at table cores number [] k hand idle there = absurd (let low = slice_get_within [] k hand there in omega (arith, low))
number_at table cores number (h ∷ hands) zero hand idle there =
    let same : h ≡ hand = cc (there) in
    let is = idle.0.number_is in
    ap (λ (x : FileHand). x.view.core) (sym same) ∙ (is ∙ omega arith)
number_at table cores number (h ∷ hands) (suc k) hand idle there =
    number_at table cores (number + 1) hands k hand idle.1 there ∙ omega arith

-- neither of two is so where not any is
or_false : (a b : Bool) → (a || b) ≡ false → (a ≡ false) × (b ≡ false)
or_false true b is = absurd (true_is_not_false is)
  where
    true_is_not_false : true ≡ false → ⊥
    true_is_not_false is = cc (is)
or_false false b is = (refl, is)

-- none of some workers is refused where not any is
each_not_refused : {P : Type 0} (workers : List (Worker P)) (k : ℕ) (worker : Worker P) → any_refused workers ≡ false → slice_get workers k ≡ Some worker
    → worker.refused ≡ false
each_not_refused [] k worker none there = absurd (let low = slice_get_within [] k worker there in omega (arith, low))
each_not_refused (w ∷ workers) zero worker none there =
    let same : w ≡ worker = cc (there) in
    ap (λ (x : Worker _). x.refused) (sym same) ∙ (or_false w.refused (any_refused workers) none).0
each_not_refused (w ∷ workers) (suc k) worker none there =
    each_not_refused workers k worker (or_false w.refused (any_refused workers) none).1 there

-- a phase has no commands of a worker that none of its lines has
no_commands : (cores core : ℕ) (phase : List Line) → HaveWorkers cores phase → cores ≤ core → commands_of core phase ≡ []
no_commands cores core [] have past = refl
no_commands cores core (line ∷ phase) have past = elim (eqb_tells line.worker core) [
  | inl is ↦ absurd (let low = have.0 in let same = is.1 in omega (arith, low, same, past))
  | inr is ↦ ap (λ b. map (λ (l : Line). l.command) (cond b (line ∷ filter (λ l. l.worker == core) phase) (filter (λ l. l.worker == core) phase))) is.0
      ∙ no_commands cores core phase have.1 past
]

-- what is not some is none
none_is : {A : Type 0} (o : Option A) → is_some o ≡ false → o ≡ None
none_is None is = refl
none_is (Some x) is = cc (is)

-- A phase was run by the workers of a volume.
pub record HasRun {D : Type 0} (volume : Volume D) (phase : List Line) (from : ℕ) (before after : List (Worker (PenHand D))) : Type 0 where
  pub were : AreWorkers volume before
  pub count : length after ≡ length before
  pub each : WorksEach volume.table (PairAgrees volume) phase from before after
  pub within : HaveWorkers volume.cores phase
  pub cores : volume.table.cores ≡ volume.cores

-- what the worker at a place made
record MadeAt {D : Type 0} (volume : Volume D) (phase : List Line) (from core : ℕ) (before after : List (Worker (PenHand D))) : Type 0 where
  pub made : List Entry
  pub grown : own_of after core ≡ own_of before core ++ made
  pub past : AreBefore from (own_of before core)
  pub late : AreFrom from made
  pub makes : Makes (commands_of core phase) made
  pub ends : any_refused after ≡ false → next_call (commands_of core phase) (replies_of made) ≡ None

module _ {D : Type 0} (volume : Volume D) (phase : List Line) (from : ℕ) (before after : List (Worker (PenHand D)))
    (run : HasRun volume phase from before after) where
  -- it made calls of its commands
  made_there : (core : ℕ) (worker : Worker (PenHand D)) → slice_get before core ≡ Some worker → MadeAt volume phase from core before after
  made_there core worker there =
      let low = slice_get_within before core worker there in
      let count = run.count in
      let works = run.each core worker low in
      let was = get_or_from_slice_get before core worker worker there in
      let now : slice_get after core ≡ Some (get_or after core worker) = slice_get-get_or after core worker (omega (arith, low, count)) in
      let number : worker.core.view.core ≡ core =
      number_at volume.table.table volume.table.cores 0 (map core_of before) core worker.core run.were.all.ready (there_too before core worker there)
      ∙ omega arith
      in
      let commands : commands_of (get_or before core worker).core.view.core phase ≡ commands_of core phase =
      ap (λ (w : Worker (PenHand D)). commands_of w.core.view.core phase) was ∙ ap (λ n. commands_of n phase) number
      in
      let own_was : own_of before core ≡ (get_or before core worker).core.entries =
      ap entries_of there ∙ ap (λ (w : Worker (PenHand D)). w.core.entries) (sym was)
      in
      record {
        made = works.made;
        grown = ap entries_of now ∙ (works.grown ∙ ap (λ l. l ++ works.made) (sym own_was));
        past = subst (AreBefore from) (sym own_was) works.past;
        late = works.late;
        makes = subst (λ c. Makes c works.made) commands works.makes;
        ends = λ none.
            none_is (next_call (commands_of core phase) (replies_of works.made))
            (ap (λ c. is_some (next_call c (replies_of works.made))) (sym commands)
            ∙ (sym works.refused ∙ each_not_refused after core (get_or after core worker) none now));
      }

  -- a core without a worker made none
  made_past : (core : ℕ) → length before ≤ core → MadeAt volume phase from core before after
  made_past core past =
      let count = run.count in
      let same = workers_count volume before run.were in
      let cores = run.cores in
      let none = no_commands volume.cores core phase run.within (omega (arith, past, same, cores)) in
      let was : own_of before core ≡ [] = ap entries_of (slice_get_past before core past) in
      let now : own_of after core ≡ [] = ap entries_of (slice_get_past after core (omega (arith, past, count))) in
      record {
        made = [];
        grown = now ∙ sym (append-nil (own_of before core) ∙ was);
        past = subst (AreBefore from) (sym was) tt;
        late = tt;
        makes = tt;
        ends = λ _. ap (λ c. next_call c []) none;
      }

  made_at : (core : ℕ) → MadeAt volume phase from core before after
  made_at core = elim (slice_get_cases before core).1 [ inl found ↦ made_there core found.0 found.2 | inr past ↦ made_past core past.0 ]

  -- so the cores have run on
  ran : RanPhase (RunsPhase phase) (own_of before) (own_of after)
  ran = record {
    from = from;
    made = λ core. (made_at core).made;
    grown = λ core. (made_at core).grown;
    past = λ core. (made_at core).past;
    late = λ core. (made_at core).late;
    holds = λ core. (made_at core).makes;
  }

  -- and to their ends, where none was refused
  ended : any_refused after ≡ false → RanPhase (EndsPhase phase) (own_of before) (own_of after)
  ended none = record {
    from = from;
    made = λ core. (made_at core).made;
    grown = λ core. (made_at core).grown;
    past = λ core. (made_at core).past;
    late = λ core. (made_at core).late;
    holds = λ core. record { makes = (made_at core).makes; ended = (made_at core).ends none };
  }

  -- it is one phase more that was made
  pub phase_made : (first : TreeState) (phases : List (List Line)) → any_refused after ≡ false → HasMadePhases first (own_of before) phases
      → HasMadePhases first (own_of after) (phases ++ phase ∷ [])
  phase_made first phases none made = made_more first (own_of before) (own_of after) phases phase (ended none) made

  -- or the last that was begun
  pub phase_begun : (first : TreeState) (phases later : List (List Line)) → HasMadePhases first (own_of before) phases
      → HasMadeSoFar first (own_of after) (phases ++ phase ∷ later)
  phase_begun first phases later made = made_part first (own_of before) (own_of after) phases later phase ran made

-- before any entry no phase was made
pub no_phase_made : {P : Type 0} (first : TreeState) (workers : List (Worker P)) → HaveMadeNothing workers → HasMadePhases first (own_of workers) []
no_phase_made first workers none = made_nothing first (own_of workers) (λ core. elim (slice_get_cases workers core).1 [
  | inl found ↦ ap entries_of found.2 ∙ all_there (λ w. w.core.entries ≡ []) workers core found.0 none found.2
  | inr past ↦ ap entries_of (slice_get_past workers core past.0)
])

-- what is so of each phase is so of the one at a place
all_phases : (P : List Line → Type 0) (phases : List (List Line)) (k : ℕ) (phase : List Line) → AllByRecursion P phases → slice_get phases k ≡ Some phase → P phase
all_phases P [] k phase all there = absurd (let low = slice_get_within [] k phase there in omega (arith, low))
all_phases P (one ∷ phases) zero phase all there = (let same : one ≡ phase = cc (there) in subst P same all.0)
all_phases P (one ∷ phases) (suc k) phase all there = all_phases P phases k phase all.1 there

-- The workers of a volume have made a front of the phases.
pub record MadeFront {D : Type 0} (volume : Volume D) (phases : List (List Line)) (begun now : List (Worker (PenHand D))) (k : ℕ) : Type 0 where
  pub count : length now ≡ length begun
  pub workers : AreWorkers volume now
  pub made : HasMadePhases volume.table.first (own_of now) (take k phases)

-- A phase behind a front of them was run by the workers that made this.
pub record RunsOne {D : Type 0} (volume : Volume D) (phases : List (List Line)) (begun before after : List (Worker (PenHand D))) (k : ℕ) (phase : List Line)
    (from : ℕ) : Type 0 where
  pub front : MadeFront volume phases begun before k
  pub low : k < length phases
  pub there : phase ≡ get_or phases k phase
  pub within : AllByRecursion (HaveWorkers volume.cores) phases
  pub cores : volume.table.cores ≡ volume.cores
  pub workers : AreWorkers volume after
  pub count : length after ≡ length before
  pub each : WorksEach volume.table (PairAgrees volume) phase from before after

module _ {D : Type 0} (volume : Volume D) (phases : List (List Line)) (begun before after : List (Worker (PenHand D))) (k : ℕ) (phase : List Line)
    (from : ℕ) (run : RunsOne volume phases begun before after k phase from) where
  has_run : HasRun volume phase from before after
  has_run = record {
    were = run.front.workers;
    count = run.count;
    each = run.each;
    within = all_phases (HaveWorkers volume.cores) phases k phase run.within (slice_get-get_or phases k phase run.low ∙ ap Some (sym run.there));
    cores = run.cores;
  }

  -- where none is refused the front is one phase longer
  pub front_more : any_refused after ≡ false → MadeFront volume phases begun after (k + 1)
  front_more none = record {
    count = run.count ∙ run.front.count;
    workers = run.workers;
    made = subst (HasMadePhases volume.table.first (own_of after)) (sym (take_more phases k phase run.low ∙ ap (λ p. take k phases ++ p ∷ []) (sym run.there)))
        (phase_made volume phase from before after has_run volume.table.first (take k phases) none run.front.made);
  }

  -- and else they have made all phases so far
  pub front_part : HasMadeSoFar volume.table.first (own_of after) phases
  front_part =
      let whole : phases ≡ take k phases ++ phase ∷ drop (suc k) phases =
      sym (take-append-drop k phases)
      ∙ ap (λ l. take k phases ++ l) (drop-cons phases k phase run.low ∙ ap (λ p. p ∷ drop (suc k) phases) (sym run.there))
      in
      subst (HasMadeSoFar volume.table.first (own_of after)) (sym whole)
      (phase_begun volume phase from before after has_run volume.table.first (take k phases) (drop (suc k) phases) run.front.made)

-- a front of as many as there are is all of them
pub front_all : {D : Type 0} (volume : Volume D) (phases : List (List Line)) (begun now : List (Worker (PenHand D))) (k : ℕ) → length phases ≤ k
    → MadeFront volume phases begun now k → HasMadePhases volume.table.first (own_of now) phases
front_all volume phases begun now k past front = subst (HasMadePhases volume.table.first (own_of now)) (take_all k phases past) front.made
