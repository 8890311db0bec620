-- The commit of a file that has an inode follows from the look that its fsync would have had, and stays told.
use Rattle.std.proofs.Common.{◌≡◌, ◌∙◌, ◌∷◌, ◌≤◌, ◌⊎◌, List, ℕ, false, true, subst, ap, sym, eqb-true, nat_eq, refl, cond, [], inl, max, arith, inr}
use Rattle.sfs_base.proofs.BasicTruth.{not_both, and_first, true_not_false, or_second}
use Rattle.tree_laws.specs.Tree.{TreeState, is_directory}
use Rattle.tree_laws.specs.declared.history.Entry.{Entry}
use Rattle.tree_laws.specs.Laws.{IsSoundTree}
use Rattle.tree_laws.specs.History.{IsLegal, tree_after}
use Rattle.tree_laws.specs.Changes.{RowChange, changes_of}
use Rattle.cut_laws.specs.Rules.{IsChange, IsOneOf}
use Rattle.cut_laws.proofs.MemberKinds.{own_directory}
use Rattle.cut_laws.proofs.Along.{made_at}
use Rattle.cut_laws.proofs.Listed.{from_map, to_map}
use Rattle.cut_laws.proofs.RunFacts.{in_filter}
use Rattle.look_laws.specs.Look.{Look, Noted, Gathers, Touches, member}
use Rattle.look_laws.specs.Made.{SeesDead}
use Rattle.beside_laws.specs.Commits.{CoreCommit, IsByItsLook}
use Rattle.beside_laws.specs.OwnFile.{noted_alone}
use Rattle.stamp_table.specs.declared.event.Event.{Event}
use Rattle.mem_values.specs.declared.fact.Fact.{Fact}
use Rattle.mem_values.specs.Account.{Commitment}
use Rattle.note_laws.specs.Run.{TableRun, IsTableRun, calls_of}
use Rattle.note_laws.proofs.Along.{tells_on}
use Rattle.made_laws.specs.Made.{OwnFileMaking, CoreMaking, run_on, OwnMade}
use Rattle.made_laws.specs.Own.{look_of_own, commit_of_own, namings_past, names_past, are_none, is_named_below, OwnsFollowLooks, ToldOwn, TellingsGoOn, told_notes, told_file}
use Rattle.made_laws.proofs.Later.{alone_goes_on}
use Rattle.made_laws.proofs.Told.{told_mades_go_on}
use Rattle.sfs_base.proofs.BasicNumbers.{same_number, not_same}
use Rattle.look_laws.specs.Look.{ancestor, birth_place, named, itself, other_side, ended}

module _ (first : TreeState) (history : List Entry) (cuts : ℕ → ℕ) (own : OwnFileMaking) (number : ℕ) (sound : IsSoundTree first)
    (legal : IsLegal first history)
    (file : is_directory (tree_after first history) own.node ≡ false) where
  abbrev look : Look
  look = look_of_own first history cuts own

  abbrev commit : CoreCommit
  commit = commit_of_own first history cuts own number

  -- what is noted is a change of the history that names the file
  noted_is : (noted : Noted) → IsOneOf look.noted noted → IsChange first history noted.change × (noted.change.child ≡ own.node)
  noted_is noted one =
      let from = from_map noted_alone (namings_past first history cuts own.node) noted one in
      let passes = in_filter (names_past cuts own.node) (changes_of first history) from.0 from.1 in
      let same = ap (λ (n : Noted). n.change) from.2 in (
        subst (IsChange first history) same passes.0,
        ap (λ (c : RowChange). c.child) (sym same) ∙ eqb-true _ _ (and_first (nat_eq from.0.child own.node) _ passes.1),
      )

  -- whose directory is another node
  not_own : (noted : Noted) → IsOneOf look.noted noted → noted.change.directory ≡ own.node → ⊥
  not_own noted one same =
      let change = noted.change in
      let kind = own_directory first history sound legal change.stamp change (made_at first history sound legal change (noted_is noted one).0) in
      not_both (subst (λ n. is_directory (tree_after first history) n ≡ true) same kind) file

  -- so it gathers the file alone, and touches no other node
  gathers_own : {node : ℕ} → Gathers look node → node ≡ own.node
  gathers_own itself = refl
  gathers_own (other_side noted other from sight two) = absurd (not_own noted sight.is_noted (gathers_own from))
  gathers_own (ended noted from sight ends) = absurd (not_own noted sight.is_noted (gathers_own from))
  gathers_own (ancestor noted node from sight among) = absurd (not_own noted sight.is_noted (gathers_own from))
  gathers_own (birth_place born from one lacks sees) =
      absurd (not_both (ap (λ n. nat_eq n own.node) (gathers_own from) ∙ same_number own.node) lacks)

  touches_own : (node : ℕ) → Touches look node → node ≡ own.node
  touches_own node (member _ gathered) = gathers_own gathered
  touches_own _ (named noted from sight) = absurd (not_own noted sight.is_noted (gathers_own from))

  own_gathered : (node : ℕ) → node ≡ own.node → Gathers look node
  own_gathered node same = subst (Gathers look) (sym same) itself

  -- its stamp
  own_stamp : (node stamp : ℕ) → node ≡ own.node → cond (nat_eq node own.node) stamp 0 ≡ stamp
  own_stamp node stamp same = ap (λ b. cond b stamp 0) (ap (λ n. nat_eq n own.node) same ∙ same_number own.node)

  -- where no row names it there is a change that does and is not flushed
  naming : (changes : List RowChange) → are_none changes ≡ false → (change : RowChange) × IsOneOf changes change
  naming [] some = absurd (true_not_false some)
  naming (change ∷ changes) some = (change, inl refl)

  not_dead : SeesDead look commit.makes.lifted commit.makes.found own.node → ⊥
  not_dead dead =
      let first_one = naming (namings_past first history cuts own.node)
      (or_second (is_named_below first history cuts own.node) (are_none (namings_past first history cuts own.node)) dead.unnamed) in
      let noted = noted_alone first_one.0 in
      let among = to_map noted_alone (namings_past first history cuts own.node) first_one.0 first_one.1 in
      let is = noted_is noted among in
      dead.flushed (record {
        noted = noted;
        is_noted = among;
        child = is.1;
        unflushed = subst (λ n. n ≤ noted.change.stamp)
            (sym (ap (λ b. cond b (max own.value.cut.0 own.stamp) 0) (not_same noted.change.directory own.node (not_own noted among))))
            (omega arith);
      })

  pub follows_look : IsByItsLook commit
  follows_look = record {
    members = λ node. (
      λ one. elim one [ inl same ↦ own_gathered node (sym same) | inr never ↦ absurd never ],
      λ gathered. inl (sym (gathers_own gathered)),
    );
    holds = λ node. (
      λ held. member node (own_gathered node (eqb-true _ _ held)),
      λ touched. ap (λ n. nat_eq n own.node) (touches_own node touched) ∙ same_number own.node,
    );
    makes = record {
      lifts = record {
        members = λ node gathered.
            let same = gathers_own gathered in
            own_stamp node (max own.value.cut.0 own.stamp) same ∙ ap (λ n. max n own.stamp) (sym (own_stamp node own.value.cut.0 same));
        others = λ node. elim (nat_eq node own.node) as (λ b. nat_eq node own.node ≡ b
            → Gathers look node ⊎ (cond b (max own.value.cut.0 own.stamp) 0 ≡ cond b own.value.cut.0 0)) [
              | true ↦ λ same. inl (own_gathered node (eqb-true _ _ same))
              | false ↦ λ _. inr refl
            ] refl;
      };
      moved = record {
        enters = λ node. (
          λ never. cc,
          λ all. absurd (not_both (ap (λ n. nat_eq n own.node) (touches_own node all.1) ∙ same_number own.node) all.0),
        );
        leaves = λ node. (
          λ never. cc,
          λ all. absurd (not_dead (subst (SeesDead look commit.makes.lifted commit.makes.found) (touches_own node all.1) all.2)),
        );
      };
    };
    blank = λ node free. ap (λ b. cond b own.value.cut.0 0) free;
  }

pub owns_follow_looks : OwnsFollowLooks
owns_follow_looks first history cuts own number sound legal file = follows_look first history cuts own number sound legal file

-- What was told of a file goes on being told of it.
module _ (run : TableRun) (more : List (Event Fact)) (making : CoreMaking) (told : Commitment) (is : IsTableRun (run_on run more))
    (was : ToldOwn run making told) where
  abbrev longer : TableRun
  longer = run_on run more

  abbrev stays : OwnMade longer making
  stays = alone_goes_on run more making is was.one

  file_told : ToldOwn longer making told
  file_told = record {
    one = stays;
    tells = λ first history cuts.
        let tells = was.tells first history cuts in record {
          there = tells_on run.log more longer.log told refl tells.there;
          number = tells.number;
          stamp = tells.stamp;
          members = λ node one kind. absurd (not_both (subst (λ n. is_directory (tree_after run.first (calls_of longer)) n ≡ true)
              (elim one [ inl same ↦ sym same | inr never ↦ absurd never ]) kind) stays.made.is_file);
          holds = tells.holds;
          wrote = λ node held holds. let one = tells.wrote node held holds in record { saw = one.saw; lifted = one.lifted; inode = one.inode };
        };
  }

pub tellings_go_on : TellingsGoOn
tellings_go_on run more making told is (told_notes was) = told_notes (told_mades_go_on run more making told is was)
tellings_go_on run more making told is (told_file was) = told_file (file_told run more making told is was)
