-- What a core that knows enough brings, and that its pair may be open.
use Rattle.std.proofs.Common.{◌≡◌, ◌≤◌, ◌∙◌, ◌↔◌, List, subst, sym, ap, length, ℕ, inl, inr, map, true}
use Rattle.sfs_base.proofs.BasicTruth.{true_or_false, not_both}
use Rattle.tree_laws.specs.Laws.{IsSoundTree}
use Rattle.tree_laws.specs.History.{IsLegal}
use Rattle.tree_laws.specs.NameRow.{node_number}
use Rattle.disk_change.specs.Directory.{is_among}
use Rattle.commit_laws.specs.CommitOfPlan.{CommitPlan}
use Rattle.cut_laws.specs.Closure.{Flush, HasLiveNode, IsRaised, every_entry, IsConcerned}
use Rattle.cut_laws.specs.Laws.{KeepsAll}
use Rattle.cut_laws.proofs.Lists.{lists_keep}
use Rattle.look_laws.specs.Beside.{Knows}
use Rattle.look_laws.specs.Look.{Look, Touches}
use Rattle.look_laws.specs.Fit.{FindsRight}
use Rattle.look_laws.proofs.Knowing.{looks_know}
use Rattle.beside_laws.specs.Commits.{CoreCommit, commit_fsync, observed_by}
use Rattle.beside_laws.specs.Progress.{Progress}
use Rattle.beside_laws.specs.Laws.{KnowsRun, FindsAlways}
use Rattle.beside_laws.proofs.Finding.{found_once}
use Rattle.beside_laws.proofs.Ruled.{ruled_know}
use Rattle.dep_closure.specs.Gathered.{look_of}
use Rattle.flush_laws.specs.Volume.{Volume}
use Rattle.space_laws.specs.Laws.{ServesAt}
use Rattle.plan_laws.specs.Plans.{Sources, planned_flush, PlansFsync, beside}
use Rattle.plan_laws.specs.Leads.{found_from}
use Rattle.plan_laws.proofs.Leads.{plans_lead_to_cuts}
use Rattle.book_laws.specs.Brings.{Bringing, Brings}
use Rattle.book_laws.specs.Pairs.{run_with, Pair, IsOpenBeside}
use Rattle.reserve_laws.specs.Looks.{MayPlan, IsGatheredFor, LookBrings, LooksBring, CoreTells, CoresOpen, ServesPair}
use Rattle.reserve_laws.proofs.Plans.{brings_made}

module _ (volume : Volume) (done : List CoreCommit) (commit : CoreCommit) (from : Sources) (may : MayPlan volume done commit)
    (gathered : IsGatheredFor volume commit from) where
  abbrev run : Progress
  run = run_with volume done

  pub knows : KnowsRun run commit
  knows = ruled_know run commit may.standing may.known

  knows_gathered : Knows (record {
    first = volume.first;
    history = volume.history;
    counts = commit.counts;
    late = commit.late;
    look = look_of from.start from.below from.gathered;
  }) volume.cut volume.inodes
  knows_gathered =
      subst
      (λ (look : Look). Knows
      (record { first = volume.first; history = volume.history; counts = commit.counts; late = commit.late; look = look }) volume.cut volume.inodes)
      (sym gathered.look) knows

  flush_is : planned_flush from.start from.below ≡ commit_fsync commit
  flush_is = ap (λ (look : Look). look.flush) gathered.look

  abbrev planned : PlansFsync volume from
  planned = record {
    ready = may.stands.between;
    keeps = gathered.keeps;
    short = may.short;
    orderly = gathered.orderly;
    gathers = beside (record { late = commit.late; counts = commit.counts; logs = gathered.logs; knows = knows_gathered });
    concern_is = gathered.concern_is;
    old_is = gathered.old_is;
    file_is = gathered.file_is;
    plans = gathered.plans;
  }

  pub look_brings : LookBrings volume from gathered.plans
  look_brings = record {
    led = plans_lead_to_cuts volume from planned;
    brings = λ grant serves. brings_made volume from grant (record {
      stands = may.stands;
      planned = planned;
      low = subst (λ (flush : Flush). flush.stamp ≤ length volume.history) (sym flush_is) may.low;
      live = subst (HasLiveNode volume.first volume.history) (sym flush_is) may.known.notes.live;
      serves = serves;
    });
  }

pub looks_bring : LooksBring
looks_bring = look_brings

module _ (volume : Volume) (done : List CoreCommit) (pair : Pair) (from : Sources) (tells : CoreTells volume done pair from)
    (serves : ServesPair volume pair) where
  abbrev commit : CoreCommit
  commit = pair.commit

  abbrev brought : LookBrings volume from tells.gathered.plans
  brought = look_brings volume done commit from tells.may tells.gathered

  known : KnowsRun (run_with volume done) commit
  known = knows volume done commit from tells.may tells.gathered

  sound : IsSoundTree volume.first
  sound = tells.may.stands.between.history_is.sound

  legal : IsLegal volume.first volume.history
  legal = tells.may.stands.between.history_is.legal

  flush_same : commit_fsync commit ≡ pair.one.flush
  flush_same = sym (flush_is volume done commit from tells.may tells.gathered) ∙ sym (ap (λ (one : Bringing). one.flush) tells.one)

  finds : FindsAlways volume.first volume.history commit
  finds =
      found_once (run_with volume done) commit sound legal tells.may.standing known (record {
        raised = brought.led.leads.raised;
        raises =
            subst (λ (flush : Flush). IsRaised volume.first volume.history every_entry volume.cut volume.inodes flush brought.led.leads.raised)
            (flush_is volume done commit from tells.may tells.gathered) brought.led.leads.raises;
        finds =
            subst (FindsRight volume.first volume.history every_entry brought.led.leads.raised commit.look) (sym tells.found)
            (subst (λ (look : Look). FindsRight volume.first volume.history every_entry brought.led.leads.raised look (found_from from)) tells.gathered.look
            brought.led.finds);
      })

  keeps_all : KeepsAll volume.first volume.history volume.cut volume.inodes
  keeps_all = lists_keep volume.first volume.history volume.flushes volume.cut volume.inodes sound legal tells.may.stands.between.flushed

  -- the nodes that the pair brings are those that the commit holds
  concerned : (node : ℕ) → Touches commit.look node ↔ IsConcerned volume.first volume.history every_entry volume.cut volume.inodes (commit_fsync commit) node
  concerned =
      (looks_know (observed_by volume.first volume.history commit) volume.cut volume.inodes sound legal
      (λ node touches named. keeps_all.named node named) known).fits.concerned

  held_same : (node : ℕ) → is_among pair.one.nodes node ≡ commit.holds node
  held_same node = elim (true_or_false (commit.holds node)) [
    | inl held ↦ among held ∙ sym held
    | inr free ↦ elim (true_or_false (is_among pair.one.nodes node)) [
      | inl there ↦ absurd (not_both (held_by there) free)
      | inr none ↦ none ∙ sym free
    ]
  ]
    where
      nodes_are : pair.one.nodes ≡ map node_number from.plan.nodes.items
      nodes_are = ap (λ (one : Bringing). one.nodes) tells.one

      among : commit.holds node ≡ true → is_among pair.one.nodes node ≡ true
      among held =
          ap (λ (nodes : List ℕ). is_among nodes node) nodes_are
          ∙ (brought.led.leads.leads.concerns node).1
          (subst (λ (flush : Flush). IsConcerned volume.first volume.history every_entry volume.cut volume.inodes flush node)
          (sym (flush_is volume done commit from tells.may tells.gathered))
          ((concerned node).0 ((tells.may.known.made.holds node).0 held)))

      held_by : is_among pair.one.nodes node ≡ true → commit.holds node ≡ true
      held_by there =
          (tells.may.known.made.holds node).1
          ((concerned node).1
          (subst (λ (flush : Flush). IsConcerned volume.first volume.history every_entry volume.cut volume.inodes flush node)
          (flush_is volume done commit from tells.may tells.gathered)
          ((brought.led.leads.leads.concerns node).0 (sym (ap (λ (nodes : List ℕ). is_among nodes node) nodes_are) ∙ there))))

  pub opens_beside : IsOpenBeside volume done pair
  opens_beside = record {
    flush = flush_same;
    nodes = held_same;
    made = tells.may.known.made;
    knows = known;
    finds = finds;
    later = tells.later;
    brings =
        subst (Brings volume) (sym tells.one)
        (brought.brings pair.one.grant
        (subst (λ (plan : CommitPlan). ServesAt volume.layout volume.parts plan pair.one.grant) (ap (λ (one : Bringing). one.plan) tells.one) serves));
  }

pub cores_open : CoresOpen
cores_open = opens_beside
