-- A core of a volume and its pen go on agreeing.
use Rattle.std.proofs.Common.{◌∙◌, ◌≤◌, ◌-◌, ◌^◌, ℕ, List, inl, inr, sym, ap, subst}
use Rattle.tree_laws.specs.declared.reply.Reply.{Reply}
use Rattle.stamp_table.specs.Hand.{Desk}
use Rattle.stamp_table.specs.Table.{TableState}
use Rattle.mem_values.specs.Start.{FileState}
use Rattle.mem_calls.specs.Table.{nodes_of}
use Rattle.disk_box.specs.declared.key.BoxKey.{BoxKey}
use Rattle.disk_box.specs.Pens.{PenGoes, PenHand}
use Rattle.journal_set.specs.Ready.{IsReady}
use Rattle.fsync_stamp.specs.Stamping.{AnswersFsync}
use Rattle.fsync_dir.specs.Flush.{FlushComes}
use Rattle.fsync_dir.specs.Site.{IsSite}
use Rattle.flush_agrees.specs.Agreement.{CoresAgree, FlushTold}
use Rattle.flush_agrees.specs.Laws.{FlushPlace, MakesFlush}
use Rattle.flush_agrees.proofs.Flushed.{flushes_agree}
use Rattle.mount.specs.Serving.{ServesAt}
use Rattle.mount.specs.Workers.{AgreeAt}

-- an fsync was served: its core, its pen and the reply before and behind it
pub record ServesOne {D : Type 0} (set : TableState (BoxKey D)) (at : FlushPlace D) (given : Reply) : Type 0 where
  pub answers : AnswersFsync at.t at.node given at.before at.after
  pub ready : IsReady set at.done
  pub goes : PenGoes at.pen at.done
  pub comes : FlushComes at.t at.nodes at.node at.before at.after at.pen at.done given

-- where fsyncs are served by a pen of the journals
pub site_at : {D : Type 0} (shared : FileState) (set : TableState (BoxKey D)) (cores : ℕ) (pen : PenHand D) → ServesAt shared set cores
    → IsReady set pen → IsSite shared (nodes_of shared) cores pen.table.given
site_at shared set cores pen serves ready =
    subst (λ (k : BoxKey _). IsSite shared (nodes_of shared) cores k) (sym (ap (λ (d : Desk (BoxKey _)). d.given) ready.outside.table_is)) serves.site

-- it leaves them in agreement
pub served_agrees : {D : Type 0} (set : TableState (BoxKey D)) (at : FlushPlace D) (given : Reply) → IsSite at.t at.nodes at.cores at.pen.table.given
    → at.nodes ≤ 2 ^ 32 - 1 → AgreeAt at.t set at.before at.pen → ServesOne set at given → AgreeAt at.t set at.after at.done
served_agrees {D = D} set at given site few agrees served =
    let makes : MakesFlush at given = record {
      site = site;
      few = few;
      goes = served.goes;
      comes = served.comes;
    } in
    let behind : (fsyncs : List FlushTold) × CoresAgree at.t at.after at.done fsyncs =
    elim (flushes_agree D at given agrees.fsyncs makes agrees.agree) [ inl same ↦ (agrees.fsyncs, same) | inr more ↦ (_, more.1) ]
    in
    record {
      ready = served.ready;
      cores = ap (λ (h : PenHand D). h.cores) served.goes.frame ∙ agrees.cores;
      leads = λ first. ap (λ (h : PenHand D). h.leads) served.goes.frame ∙ agrees.leads (sym served.answers.same.number ∙ first);
      fsyncs = behind.0;
      agree = behind.1;
    }
