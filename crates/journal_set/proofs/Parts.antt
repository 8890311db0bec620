-- A label by which a commit reserves has one number, one list of nodes and one grant.
use Rattle.std.proofs.Common.{◌≡◌, ◌++◌, ◌∷◌, ◌∙◌, ℕ, List, [], Option, Some, None, sym, ap, subst, append_assoc}
use Rattle.sfs_base.specs.Lists.{Roomy}
use Rattle.space_map.specs.Space.{GrantedNumbers}
use Rattle.stamp_table.specs.declared.event.Event.{Event}
use Rattle.stamp_table.specs.declared.event.Event.TheVariants.{Called, Told}
use Rattle.slot_laws.specs.declared.label.Label.{Label}
use Rattle.slot_laws.specs.declared.label.Label.TheVariants as label
use Rattle.slot_laws.specs.declared.label.Seen.{Seen}
use Rattle.space_map.specs.declared.grant.Need.{Need}
use Rattle.slot_laws.specs.Labels.{first_past}
use Rattle.slot_laws.specs.Grants.{SpaceGoes}
use Rattle.disk_box.specs.declared.key.BoxKey.{BoxKey}
use Rattle.disk_box.specs.Pens.{PenHand, PenGoes}
use Rattle.journal_set.specs.Grants.{grant_after, grant_from}
use Rattle.journal_set.specs.Numbering.{WasReserved}

abbrev nodes_in : Label → Option (Roomy Seen)
nodes_in (label.Reserved number nodes grant) = Some nodes
nodes_in _ = None

abbrev grant_in : Label → Option GrantedNumbers
grant_in (label.Reserved number nodes grant) = Some grant
grant_in _ = None

pub same_nodes : (number other : ℕ) (nodes others : Roomy Seen) (grant theirs : GrantedNumbers)
    → ◌≡◌ {A = Label} (label.Reserved number nodes grant) (label.Reserved other others theirs) → nodes ≡ others
same_nodes number other nodes others grant theirs same = Rattle.sfs_base.proofs.BasicOptions.some_same (ap nodes_in same)

pub same_grant : (number other : ℕ) (nodes others : Roomy Seen) (grant theirs : GrantedNumbers)
    → ◌≡◌ {A = Label} (label.Reserved number nodes grant) (label.Reserved other others theirs) → grant ≡ theirs
same_grant number other nodes others grant theirs same = Rattle.sfs_base.proofs.BasicOptions.some_same (ap grant_in same)

-- the grant that a core has once it has told one label more
pub grant_more : (log : List (Event Label)) (fact : Label) (core : ℕ) (had : Option GrantedNumbers)
    → grant_from (log ++ Told (record { 0 = core }) fact ∷ []) had ≡ grant_after fact (grant_from log had)
grant_more [] fact core had = Rattle.std.proofs.Common.refl
grant_more (Called entry ∷ log) fact core had = grant_more log fact core had
grant_more (Told other one ∷ log) fact core had = grant_more log fact core (grant_after one had)

-- what was reserved in a history was reserved in each that goes on from there
pub reserved_later : {D : Type 0} (before after : PenHand D) (core other : ℕ) {number : ℕ} {seen : List Seen} {need : Need} {grant : GrantedNumbers}
    → core ≡ other → PenGoes before after → WasReserved before.table.given before.view.seen core number seen need grant
    → WasReserved after.table.given after.view.seen other number seen need grant
reserved_later {D = D} before after core other {number = number} {grant = grant} same goes was =
    let key : after.table.given ≡ before.table.given = ap (λ (h : PenHand D). h.table.given) goes.frame in
    record {
      front = was.front;
      back = was.back ++ goes.seen.0;
      told = was.told;
      seen_is = was.seen_is;
      whole = sym goes.seen.1
          ∙ (ap (λ l. l ++ goes.seen.0) was.whole
          ∙ (append_assoc was.front (Told (record { 0 = core }) (label.Reserved number was.told grant) ∷ was.back) goes.seen.0
          ∙ (λ i. was.front ++ ((Told (record { 0 = same i }) (label.Reserved number was.told grant) ∷ was.back) ++ goes.seen.0))));
      space = was.space;
      goes = subst (λ (k : BoxKey D). SpaceGoes k.layout was.front (first_past k.start) k.space was.space) (sym key) was.goes;
      enough = was.enough;
      next = was.next;
      took = was.took;
      numbered = was.numbered;
      above = was.above;
      inodes = was.inodes;
      blocks = was.blocks;
    }
