-- The workers with which a volume is mounted.
use Rattle.std.proofs.Common.{◌≡◌, ◌+◌, ◌∷◌, ◌∙◌, ℕ, zero, suc, List, [], Some, inr, length, map, true, refl, sym, ap, subst, arith}
use Rattle.std.specs.Prelude.{All, slice_get}
use Rattle.tree_laws.specs.Tree.{TreeState}
use Rattle.stamp_table.specs.Table.{AreAllCores, AreIdleFrom, AreNew, IsBetweenCalls, TableState, first_leads}
use Rattle.mem_values.specs.Start.{FileHand}
use Rattle.slot_laws.specs.Labels.{nothing_told, own_from}
use Rattle.disk_box.specs.declared.key.BoxKey.{BoxKey}
use Rattle.disk_box.specs.Pens.{PenHand}
use Rattle.journal_set.specs.Making.{AreNewPens, IsNewPen}
use Rattle.journal_set.specs.Ready.{IsReady}
use Rattle.flush_agrees.proofs.Growing.{new_pairs_agree}
use Rattle.workers.specs.Phases.{AreBefore}
use Rattle.workers.specs.Works.{Rests}
use Rattle.mount.specs.Workers.{AreWorkers, HaveMadeNothing, PairAgrees, core_of, workers_begun}
use Rattle.mount.specs.declared.volume.Volume.{Volume}

-- a pen that begins may begin anew
new_ready : {D : Type 0} (t : TableState (BoxKey D)) (core : ℕ) (pen : PenHand D) → IsNewPen t core pen → IsReady t pen
new_ready t core pen new = record {
  outside = new.outside;
  room = new.room;
  rests = inr (
    ap (λ l. (own_from l nothing_told).reserved) new.none_told,
    ap (λ l. (own_from l nothing_told).flight) new.none_told,
  );
}

-- Cores and pens from a number on, with which a volume begins.
record BeginFrom {D : Type 0} (volume : Volume D) (number : ℕ) (cores : List FileHand) (pens : List (PenHand D)) : Type 0 where
  pub idle : AreIdleFrom volume.table.table volume.table.cores number cores
  pub new : AreNew volume.table.first cores
  pub between : All (IsBetweenCalls volume.table) cores
  pub pens_idle : AreIdleFrom volume.set.table volume.set.cores number pens
  pub pens_new : (k : ℕ) (pen : PenHand D) → slice_get pens k ≡ Some pen → IsNewPen volume.set (number + k) pen
  pub leads : number ≡ 0 → first_leads pens ≡ true

-- those behind the first
rest_begin : {D : Type 0} (volume : Volume D) (number : ℕ) (core : FileHand) (cores : List FileHand) (pen : PenHand D) (pens : List (PenHand D))
    → BeginFrom volume number (core ∷ cores) (pen ∷ pens) → BeginFrom volume (number + 1) cores pens
rest_begin volume number core cores pen pens begin = record {
  idle = begin.idle.1;
  new = begin.new.1;
  between = λ k d within. begin.between (suc k) d (omega (arith, within));
  pens_idle = begin.pens_idle.1;
  pens_new = λ k other there. subst (λ n. IsNewPen volume.set n other) (omega arith) (begin.pens_new (suc k) other there);
  leads = λ none. absurd (omega (arith, none));
}

-- the first core and its pen agree on no fsync
first_agrees : {D : Type 0} (volume : Volume D) (number : ℕ) (core : FileHand) (cores : List FileHand) (pen : PenHand D) (pens : List (PenHand D))
    → BeginFrom volume number (core ∷ cores) (pen ∷ pens) → PairAgrees volume core pen
first_agrees {D = D} volume number core cores pen pens begin =
    let new : IsNewPen volume.set core.view.core pen =
    subst (λ n. IsNewPen volume.set n pen) (omega arith ∙ sym begin.idle.0.number_is) (begin.pens_new 0 pen refl)
    in
    record {
      ready = new_ready volume.set core.view.core pen new;
      cores = begin.pens_idle.0.cores_are;
      leads = λ first. begin.leads (sym begin.idle.0.number_is ∙ first);
      fsyncs = [];
      agree = new_pairs_agree D volume.table volume.set core pen begin.new.0.none_entered begin.new.0.none_mine new;
    }

-- workers that begin rest
begun_rest : {D : Type 0} (volume : Volume D) (number : ℕ) (cores : List FileHand) (pens : List (PenHand D)) → BeginFrom volume number cores pens
    → All (Rests volume.table (PairAgrees volume)) (workers_begun cores pens)
begun_rest volume number [] pens begin k d within = absurd (omega (arith, within))
begun_rest volume number (core ∷ cores) [] begin k d within = absurd (omega (arith, within))
begun_rest volume number (core ∷ cores) (pen ∷ pens) begin zero d within = record {
  between = begin.between 0 core (omega arith);
  agree = first_agrees volume number core cores pen pens begin;
  past = subst (λ l. AreBefore 0 l) (sym begin.new.0.none_entered) tt;
}
begun_rest volume number (core ∷ cores) (pen ∷ pens) begin (suc k) d within =
    begun_rest volume (number + 1) cores pens (rest_begin volume number core cores pen pens begin) k d (omega (arith, within))

-- their cores have made no call
begun_none : {D : Type 0} (first : TreeState) (cores : List FileHand) (pens : List (PenHand D)) → AreNew first cores
    → HaveMadeNothing (workers_begun cores pens)
begun_none first [] pens new k d within = absurd (omega (arith, within))
begun_none first (core ∷ cores) [] new k d within = absurd (omega (arith, within))
begun_none first (core ∷ cores) (pen ∷ pens) new zero d within = new.0.none_entered
begun_none first (core ∷ cores) (pen ∷ pens) new (suc k) d within = begun_none first cores pens new.1 k d (omega (arith, within))

-- they have these cores, where there are as many pens
cores_begun : {P : Type 0} (cores : List FileHand) (pens : List P) → length pens ≡ length cores → map core_of (workers_begun cores pens) ≡ cores
cores_begun [] pens same = refl
cores_begun (core ∷ cores) [] same = absurd (omega (arith, same))
cores_begun (core ∷ cores) (pen ∷ pens) same = ap (λ l. core ∷ l) (cores_begun cores pens (omega (arith, same)))

-- What the cores and the pens are with which a volume begins.
pub record BeginsWith {D : Type 0} (volume : Volume D) (cores : List FileHand) (pens : List (PenHand D)) : Type 0 where
  pub all : AreAllCores volume.table cores
  pub new : AreNew volume.table.first cores
  pub between : All (IsBetweenCalls volume.table) cores
  pub pens_new : AreNewPens volume.set pens
  pub same : length pens ≡ length cores

-- they are all of its workers
pub workers_are : {D : Type 0} (volume : Volume D) (cores : List FileHand) (pens : List (PenHand D)) → BeginsWith volume cores pens
    → AreWorkers volume (workers_begun cores pens)
workers_are volume cores pens begins = record {
  all = subst (AreAllCores volume.table) (sym (cores_begun cores pens begins.same)) begins.all;
  rest = begun_rest volume 0 cores pens (record {
    idle = begins.all.ready;
    new = begins.new;
    between = begins.between;
    pens_idle = begins.pens_new.all.ready;
    pens_new = λ k pen there. subst (λ n. IsNewPen volume.set n pen) (omega arith) (begins.pens_new.each k pen there);
    leads = λ none. begins.pens_new.all.leads;
  });
}

pub none_made : {D : Type 0} (volume : Volume D) (cores : List FileHand) (pens : List (PenHand D)) → BeginsWith volume cores pens
    → HaveMadeNothing (workers_begun cores pens)
none_made volume cores pens begins = begun_none volume.table.first cores pens begins.new
