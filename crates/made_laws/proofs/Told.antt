-- What a core told of what it made stays told of it.
use Rattle.std.proofs.Common.{◌≡◌, ◌++◌, ◌∙◌, ℕ, List, map, refl, sym}
use Rattle.cut_laws.specs.Rules.{IsOneOf}
use Rattle.cut_laws.proofs.Listed.{listed_one}
use Rattle.look_laws.specs.Look.{member}
use Rattle.tree_laws.specs.NameRow.{node_number}
use Rattle.tree_laws.specs.Tree.{is_directory}
use Rattle.tree_laws.specs.History.{tree_after}
use Rattle.stamp_table.specs.declared.event.Event.{Event}
use Rattle.stamp_table.specs.Events.{calls_in}
use Rattle.mem_values.specs.declared.fact.Fact.{Fact}
use Rattle.mem_values.specs.Account.{Commitment}
use Rattle.note_laws.specs.Run.{TableRun, IsTableRun, calls_of}
use Rattle.note_laws.specs.Notes.{calls_noted}
use Rattle.note_laws.proofs.Along.{tells_on, calls_begin}
use Rattle.made_laws.specs.Made.{CoreMaking, run_on}
use Rattle.made_laws.specs.Tells.{ToldMade, ToldMadesGoOn}
use Rattle.made_laws.proofs.There.{touched_there}
use Rattle.made_laws.proofs.Later.{begins_later, legal_then, kinds_on, goes_on}

module _ (run : TableRun) (more : List (Event Fact)) (making : CoreMaking) (told : Commitment) (is : IsTableRun (run_on run more))
    (was : ToldMade run making told) where
  abbrev longer : TableRun
  longer = run_on run more

  -- a member is a directory of the longer run where it was one
  kind_same : (node : ℕ) → IsOneOf (map node_number making.concern.members.items) node
      → is_directory (tree_after run.first (calls_of longer)) node ≡ is_directory (tree_after run.first (calls_of run)) node
  kind_same node one =
      let gathers = (was.made.concern_is.members.each node).0 ((listed_one (map node_number making.concern.members.items) node).1 one) in
      let there = touched_there longer making is (goes_on run more making is was.made) node (member node gathers) in
      let part = was.made.notes.each there.part there.known in
      let at = (making.noted.notes there.part).at in
      let now = kinds_on run more is node (calls_noted making.noted there.part) (calls_in part.rest) (calls_of run)
      (calls_begin at part.rest run.log part.whole) (legal_then run more is) there.there in
      let later = kinds_on run more is node (calls_noted making.noted there.part) (calls_in (part.rest ++ more)) (calls_of longer)
      (calls_begin at (part.rest ++ more) longer.log (begins_later run more is at part.rest part.whole)) is.legal there.there in
      later ∙ sym now

  still_told : ToldMade longer making told
  still_told = record {
    made = record (goes_on run more making is was.made) { plans = was.made.plans };
    tells = record {
      there = tells_on run.log more longer.log told refl was.tells.there;
      number = was.tells.number;
      stamp = was.tells.stamp;
      members = λ node one directory. was.tells.members node one (sym (kind_same node one) ∙ directory);
      holds = was.tells.holds;
      wrote = λ node held holds. let one = was.tells.wrote node held holds in record { saw = one.saw; lifted = one.lifted; inode = one.inode };
    };
  }

pub told_mades_go_on : ToldMadesGoOn
told_mades_go_on run more making told is was = still_told run more making told is was
