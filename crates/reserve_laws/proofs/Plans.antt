-- What an fsync brings by its plan.
use Rattle.std.proofs.Common.{◌≡◌, ◌∙◌, map, subst, sym, Contains, true, ap, Bool, Option, false, arith, length, option_to_list, None, Some, zero, suc, refl}
use Rattle.sfs_base.specs.declared.numbers.NodeId.{NodeId}
use Rattle.space_map.specs.Space.{GrantedNumbers}
use Rattle.tree_laws.specs.NameRow.{node_number}
use Rattle.disk_change.specs.Directory.{is_among}
use Rattle.disk_change.specs.declared.files.FileChange.{FileChange}
use Rattle.cut_laws.specs.Closure.{member, itself}
use Rattle.commit_laws.specs.CommitOfPlan.{CommitPlan}
use Rattle.flush_laws.specs.Volume.{Volume, OneFsync}
use Rattle.flush_laws.specs.Planned.{IsPlannedFsync}
use Rattle.space_laws.specs.Laws.{ServesAt}
use Rattle.space_laws.proofs.Filled.{plans_fill_slots}
use Rattle.flush_plan.specs.Plan.{is_written, files_written}
use Rattle.plan_laws.specs.Plans.{Sources, planned_flush, HasFileOf}
use Rattle.plan_laws.specs.Leads.{LeadsWith}
use Rattle.plan_laws.proofs.Leads.{plans_lead_to_cuts}
use Rattle.turn_ties.specs.Led.{LeadsVolume, IsTied, planning_led}
use Rattle.turn_ties.proofs.Led.{led_plans_are_tied}
use Rattle.book_laws.specs.Brings.{Brings}
use Rattle.reserve_laws.specs.Plans.{MayBring, parts_given, bringing_made, PlansBring}

module _ (volume : Volume) (from : Sources) (grant : GrantedNumbers) (may : MayBring volume from grant) where
  led : LeadsWith volume.first volume.history volume.cut volume.inodes from may.planned.plans
  led = plans_lead_to_cuts volume from may.planned

  abbrev leads : LeadsVolume volume from
  leads = led.leads

  -- the fsync
  abbrev one : OneFsync
  one = record {
    flush = planned_flush from.start from.below;
    raised = leads.raised;
    after = leads.after;
    nodes = map node_number from.plan.nodes.items;
    entries = from.entries;
    plan = leads.commit;
    grant = grant;
  }

  serves : ServesAt volume.layout volume.parts leads.commit grant
  serves = subst (λ (plan : CommitPlan). ServesAt volume.layout volume.parts plan grant) (sym led.commit_is) may.serves

  planned : IsPlannedFsync volume one
  planned = record {
    ready = may.stands.between;
    keeps = may.planned.keeps;
    raises = leads.raises;
    inodes_after = leads.inodes_after;
    plans = leads.leads;
    grants = record {
      serves = serves.serves;
      lies = serves.lies;
      slots = plans_fill_slots volume one may.stands.between may.planned.keeps leads.leads leads.names serves.serves;
    };
  }

  -- of files it changes its own one alone
  own_files : (change : FileChange) → Contains leads.commit.files change → is_among (map node_number from.plan.nodes.items) change.node.0 ≡ true
  own_files change there =
      by (is_written from.gathered may.planned.plans.enter from.start.0 from.below.0) from.is_file from.change may.planned.file_is
      (subst (λ (plan : CommitPlan). Contains plan.files change) led.commit_is there)
    where
      own : change.node ≡ from.start → is_among (map node_number from.plan.nodes.items) change.node.0 ≡ true
      own same =
          ap (λ (node : NodeId). is_among (map node_number from.plan.nodes.items) node.0) same
          ∙ (leads.leads.concerns from.start.0).1 (member from.start.0 itself)

      by : (written is_one : Bool) (o : Option FileChange) → HasFileOf volume.first volume.history volume.cut from.start from.below is_one o
          → Contains (files_written written o) change → is_among (map node_number from.plan.nodes.items) change.node.0 ≡ true
      by false is_one o has (k, within, is) = absurd (omega (arith, within))
      by true false o has (k, within, is) =
          let none = ap (λ (other : Option FileChange). length (option_to_list other)) has.1 in absurd (omega (arith, within, none))
      by true true None has (k, within, is) = absurd (omega (arith, within))
      by true true (Some only) has (zero, within, is) = own (ap (λ (c : FileChange). c.node) (sym is) ∙ has.1.2.own)
      by true true (Some only) has (suc k, within, is) = absurd (omega (arith, within))

  tied : IsTied volume (planning_led volume from leads)
  tied = led_plans_are_tied volume from may.stands may.planned led

  brings_led : Brings volume (record {
    flush = planned_flush from.start from.below;
    nodes = map node_number from.plan.nodes.items;
    plan = leads.commit;
    grant = grant;
    parts = parts_given volume leads.commit grant;
  })
  brings_led = record {
    raised = leads.raised;
    after = leads.after;
    entries = from.entries;
    planned = planned;
    comes = record { low = may.low; live = may.live };
    files = own_files;
    touched = tied.touched;
    parts = refl;
  }

  pub brings_made : Brings volume (bringing_made volume from may.planned.plans grant)
  brings_made =
      subst (λ (plan : CommitPlan). Brings volume (record {
        flush = planned_flush from.start from.below;
        nodes = map node_number from.plan.nodes.items;
        plan = plan;
        grant = grant;
        parts = parts_given volume plan grant;
      })) led.commit_is brings_led

pub plans_bring : PlansBring
plans_bring = brings_made
