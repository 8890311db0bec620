-- What cores and pens agree on of turns that tell shortages is what the record of turns asks of them.
use Rattle.std.proofs.Common.{◌≡◌, ◌∙◌, ℕ, sym, subst, arith}
use Rattle.sfs_image.specs.Super.{Layout}
use Rattle.space_map.specs.Space.{Space}
use Rattle.tree_laws.specs.declared.turns.Turn.{Turn}
use Rattle.tree_laws.specs.declared.turns.TurnAct.TheVariants as act
use Rattle.cut_laws.specs.Rules.{IsOneOf}
use Rattle.book_laws.specs.Along.{LackTold}
use Rattle.slot_laws.specs.Telling.{turns_in}
use Rattle.slot_laws.specs.Grants.{SpaceGoes}
use Rattle.slot_laws.specs.Labels.{first_past, past_from}
use Rattle.slot_laws.specs.Nodes.{LastCommit}
use Rattle.flush_agrees.specs.Agreement.{FlushTold}
use Rattle.flush_agrees.specs.Closing.{LacksAtEnd}
use Rattle.end_laws.specs.Mount.{MountEnd, MountEnds, IsFsyncAt, CoreEnds, run_at}
use Rattle.end_laws.proofs.Named.{mounts_are_named}
use Rattle.end_laws.proofs.Landed.{turn_of}
use Rattle.end_laws.specs.Lacks.{LackMade, LacksAreAgreed, AgreedMountsAreRecorded}
use Rattle.end_laws.proofs.Recorded.{mounts_are_recorded}
use Rattle.end_laws.proofs.Lacking.{made_lacks_are_told}

module _ (D : Type 0) (at : MountEnd) (ends : MountEnds D at) (one : FlushTold) (there : IsFsyncAt at one) (turn : Turn) (told : LackTold)
    (among : IsOneOf (turns_in one.turns) turn) (did : turn.act ≡ act.Short told.kind told.asked told.have) where
  abbrev core : CoreEnds D at there.core there.fsyncs
  core = ends.each there.core there.fsyncs there.there

  -- what the core and its pen agree on of the turn
  abbrev lack : LacksAtEnd (run_at at) core.pen.table.given at.logs.labels one.flush turn told
  lack = core.agree.lacked one turn told there.among among did

  -- the labels up to the turn come to the same for the pen's box and for the mount
  abbrev lasts : Layout → ℕ → ℕ → LastCommit
  lasts layout start node = (past_from layout lack.front (first_past start)).lasts node

  abbrev Goes : Layout → ℕ → Space → Type 0
  Goes layout start first = SpaceGoes layout lack.front (first_past start) first lack.space

  pub lack_made : LackMade at turn told
  lack_made = record {
    making = lack.making;
    made_in = lack.made_in;
    flush_is = lack.flush_is ∙ sym (core.agree.of_flush one turn there.among among);
    seen = lack.seen;
    sees = lack.sees;
    front = lack.front;
    core = lack.core;
    back = lack.back;
    whole = ends.labels_are ∙ lack.whole;
    unmoved = λ node last seen. (λ i. lasts (sym core.layout_is i) (sym core.start_is i) node) ∙ lack.unmoved node last seen;
    space = lack.space;
    goes = subst (λ (p : Layout × ℕ × Space). Goes p.0 p.1 p.2) (λ i. (core.layout_is i, core.start_is i, core.space_is i)) lack.goes;
    inodes = let few = lack.few in omega (arith, few);
    short = lack.short;
  }

pub lacks_are_agreed : (D : Type 0) → LacksAreAgreed D
lacks_are_agreed D at ends turn told among did =
    let given = mounts_are_named D at ends in
    let of_one = turn_of D at given.0 ends given.1 turn among in
    lack_made D at ends of_one.one of_one.there turn told of_one.among did

pub agreed_mounts_are_recorded : (D : Type 0) → AgreedMountsAreRecorded D
agreed_mounts_are_recorded D at entry_faults most ends since few =
    let given = mounts_are_named D at ends in
    mounts_are_recorded D at given.0 entry_faults most ends given.1 (made_lacks_are_told D at given.0 most ends given.1 few (lacks_are_agreed D at ends)) since
    few
