-- What a core saw of a node is what the last commit that is done and holds it left.
use Rattle.std.specs.List.{cons_option}
use Rattle.std.specs.Option.{option_or}
use Rattle.std.specs.FinMap.{get}
use Rattle.std.proofs.Common.{◌++◌, ◌≡◌, ◌∷◌, ◌∙◌, ◌<◌, List, subst, sym, filter_map, Some, Option, inl, refl, ℕ, [], ap, inr, None, arith, is_some, true, false}
use Rattle.std.proofs.lemmas.List.Elements.{filter_map-append}
use Rattle.sfs_base.proofs.BasicOptions.{some_same}
use Rattle.tree_laws.specs.Tree.{TreeState}
use Rattle.disk_nodes.specs.OldKept.{OldKept}
use Rattle.cut_laws.specs.Rules.{IsOneOf}
use Rattle.cut_laws.proofs.Basics.{in_left, in_right, none_some}
use Rattle.beside_laws.specs.Commits.{CoreCommit}
use Rattle.beside_laws.specs.Progress.{HasLeft}
use Rattle.beside_laws.specs.Box.{KnewLast}
use Rattle.stamp_table.specs.declared.event.Event.{Event}
use Rattle.mem_values.specs.declared.fact.Fact.{Fact}
use Rattle.mem_values.specs.Account.{Commitment, account_of, commit_told, last_writer, held_by, writes_by, Account}
use Rattle.mem_values.specs.declared.fact.HeldNode.{HeldNode}
use Rattle.mem_values.specs.Facts.{IsLawfulLog}
use Rattle.mem_values.specs.Writers.{Writes}
use Rattle.mem_values.specs.Stands.{Flushed, flushed_by}
use Rattle.mem_values.proofs.Committed.{came}
use Rattle.mem_values.proofs.Told.{found_of}
use Rattle.mem_values.proofs.Basics.{is_value}
use Rattle.mem_values.proofs.Writers.{numbers_name_writers}
use Rattle.note_laws.specs.Run.{IsToldIn, TableRun, IsTableRun, SawNode, LeftSeen, TellsCommit, SawsAreLeft}

-- the commits of a beginning of a log are commits of the log
pub commits_grow : (at rest log : List (Event Fact)) (commit : Commitment) → at ++ rest ≡ log → IsOneOf (account_of at).commits commit
    → IsOneOf (account_of log).commits commit
commits_grow at rest log commit whole one =
    subst (λ l. IsOneOf (account_of l).commits commit) whole
    (subst (λ l. IsOneOf l commit) (sym (filter_map-append commit_told at rest))
    (in_left (account_of at).commits (filter_map commit_told rest) commit one))

first_told : (event : Event Fact) (rest : List (Event Fact)) (told : Commitment) → commit_told event ≡ Some told
    → IsOneOf (filter_map commit_told (event ∷ rest)) told
first_told event rest told is = subst (λ (o : Option Commitment). IsOneOf (cons_option o (filter_map commit_told rest)) told) (sym is) (inl refl)

-- a commit that a log tells is one of its commits
pub told_one : (log : List (Event Fact)) (told : Commitment) → IsToldIn log told → IsOneOf (account_of log).commits told
told_one log told there =
    subst (λ l. IsOneOf (account_of l).commits told) there.whole
    (subst (λ l. IsOneOf l told) (sym (filter_map-append commit_told there.before (there.event ∷ there.rest)))
    (in_right (account_of there.before).commits (filter_map commit_told (there.event ∷ there.rest)) told
    (first_told there.event there.rest told there.tells)))

-- the last one that holds a node is one of the commits and holds it
pub last_is_one : (node : ℕ) (commits : List Commitment) (writer : Commitment × HeldNode) → last_writer node commits ≡ Some writer
    → IsOneOf commits writer.0 × (held_by writer.0 node ≡ Some writer.1)
last_is_one node [] writer is = absurd (cc is)
last_is_one node (commit ∷ commits) writer is =
    by (last_writer node commits) refl (held_by commit node) refl (λ there. last_is_one node commits writer there)
  where
    by : (later : Option (Commitment × HeldNode)) → last_writer node commits ≡ later → (own : Option HeldNode) → held_by commit node ≡ own
        → (last_writer node commits ≡ Some writer → IsOneOf commits writer.0 × (held_by writer.0 node ≡ Some writer.1))
        → IsOneOf (commit ∷ commits) writer.0 × (held_by writer.0 node ≡ Some writer.1)
    by (Some other) there own holds again =
        let same : other ≡ writer = some_same (ap (λ o. option_or o (writes_by commit (held_by commit node))) (sym there) ∙ is) in
        let rest = again (there ∙ ap Some same) in
        (inr rest.0, rest.1)
    by None there (Some held) holds again =
        let same : (commit, held) ≡ writer =
        some_same (ap (λ (h : Option HeldNode). option_or (let o : Option (Commitment × HeldNode) = None in o) (writes_by commit h)) (sym holds)
        ∙ ap (λ (o : Option (Commitment × HeldNode)). option_or o (writes_by commit (held_by commit node))) (sym there) ∙ is) in (
          inl (ap (λ (w : Commitment × HeldNode). w.0) same),
          subst (λ (w : Commitment × HeldNode). held_by w.0 node ≡ Some w.1) same holds,
        )
    by None there None holds again =
        absurd (none_some (ap (λ (h : Option HeldNode). option_or (let o : Option (Commitment × HeldNode) = None in o) (writes_by commit h)) (sym holds)
        ∙ ap (λ (o : Option (Commitment × HeldNode)). option_or o (writes_by commit (held_by commit node))) (sym there) ∙ is))

-- each commit that holds a node has a number, which is not 0
pub positive : (given : ℕ → Option OldKept) (first : TreeState) (log : List (Event Fact)) (node : ℕ) (commit : Commitment) (held : HeldNode)
    → IsLawfulLog given first log → Writes (account_of log) node commit held → 0 < commit.number
positive given first log node commit held lawful writes =
    let c = came given first log commit lawful writes.among in
    let later = (c.may.holds held (found_of node commit.held held writes.holds).0).later in omega (arith, later)

module _ (run : TableRun) (done : List CoreCommit) (node : ℕ) (seen : Flushed) (is : IsTableRun run) (saw : SawNode run done node seen) where
  abbrev Known : Type 0
  Known = LeftSeen run done node seen × HasLeft done node (is_some (get run.first.nodes node)) (record { stamp = seen.cut; inode = is_some seen.old })

  abbrev account : Account
  account = account_of run.log

  -- what a told commit holds of a node that its core's commit holds
  holding : (commit : CoreCommit) (told : Commitment) → TellsCommit run commit told → commit.holds node ≡ true
      → (held : HeldNode) × Writes account node told held
  holding commit told tells holds =
      let held = is_value (held_by told node) ((tells.holds node).0 holds) in
      (held.0, record { among = told_one run.log told tells.there; holds = held.1 })

  by_nobody : ((other : CoreCommit) → IsOneOf done other → other.holds node ≡ false) → seen ≡ record { cut = 0; last = 0; old = run.given node } → Known
  by_nobody none is_given = (
    LeftSeen.nobody none (ap (λ (f : Flushed). f.cut) is_given) (ap (λ (f : Flushed). f.old) is_given),
    HasLeft.nobody none (ap (λ (f : Flushed). f.cut) is_given) (ap (λ (f : Flushed). is_some f.old) is_given ∙ is.disk node),
  )

  by_writer : (writer : Commitment × HeldNode) → last_writer node (account_of saw.at).commits ≡ Some writer
      → seen ≡ record { cut = writer.1.new_cut.0; last = writer.0.number; old = writer.1.new } → KnewLast done node seen.last → Known
  by_writer writer there is_last (KnewLast.nobody none none_before) =
      let one = last_is_one node (account_of saw.at).commits writer there in
      let writes : Writes account node writer.0 writer.1 =
      record { among = commits_grow saw.at saw.rest run.log writer.0 saw.whole one.0; holds = one.1 } in
      let above = positive run.given run.first run.log node writer.0 writer.1 is.lawful writes in
      let same = ap (λ (f : Flushed). f.last) is_last in absurd (omega (arith, above, same, none_before))
  by_writer writer there is_last (KnewLast.somebody commit last number) =
      let one = last_is_one node (account_of saw.at).commits writer there in
      let writes : Writes account node writer.0 writer.1 =
      record { among = commits_grow saw.at saw.rest run.log writer.0 saw.whole one.0; holds = one.1 } in
      let told = saw.told commit last.among in
      let held = holding commit told.0 told.1 last.held in
      let same : writer.0 ≡ told.0 =
      numbers_name_writers run.given run.first run.log node writer.0 told.0 writer.1 held.0 is.lawful writes held.1
      (sym (ap (λ (f : Flushed). f.last) is_last) ∙ number ∙ sym told.1.number) in
      let same_held : writer.1 ≡ held.0 = some_same (sym one.1 ∙ ap (λ c. held_by c node) same ∙ held.1.holds) in
      let wrote = told.1.wrote node held.0 held.1.holds in
      let cut_is = ap (λ (f : Flushed). f.cut) is_last ∙ ap (λ (h : HeldNode). h.new_cut.0) same_held in
      let old_is = ap (λ (f : Flushed). f.old) is_last ∙ ap (λ (h : HeldNode). h.new) same_held in (
        LeftSeen.somebody commit told.0 held.0 last told.1 held.1.holds cut_is old_is,
        HasLeft.somebody commit last (cut_is ∙ wrote.lifted) (ap (λ (o : Option OldKept). is_some o) old_is ∙ wrote.inode),
      )

  by_last : (o : Option (Commitment × HeldNode)) → last_writer node (account_of saw.at).commits ≡ o → seen ≡ flushed_by run.given node o → Known
  by_last None there is_given = by_knew saw.knew
    where
      by_knew : KnewLast done node seen.last → Known
      by_knew (KnewLast.nobody none none_before) = by_nobody none is_given
      by_knew (KnewLast.somebody commit last number) =
          let told = saw.told commit last.among in
          let held = holding commit told.0 told.1 last.held in
          let above = positive run.given run.first run.log node told.0 held.0 is.lawful held.1 in
          let none_before = ap (λ (f : Flushed). f.last) is_given in
          let same = told.1.number in absurd (omega (arith, above, none_before, same, number))
  by_last (Some writer) there is_last = by_writer writer there is_last saw.knew

  left_there : Known
  left_there =
      by_last (last_writer node (account_of saw.at).commits) refl saw.saw

pub saws_are_left : SawsAreLeft
saws_are_left run done node seen is saw = left_there run done node seen is saw
