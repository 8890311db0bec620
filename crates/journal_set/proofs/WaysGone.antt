-- That the turns of an fsync go one of the ways, by what its calls answered.
use Rattle.std.proofs.Common.{◌≡◌, ◌<◌, ◌∷◌, ◌++◌, ◌∙◌, ◌⊎◌, ℕ, List, [], refl, sym, ap, subst, inl, inr, map, Some, Result, Ok, Err, arith, append_assoc, append-nil}
use Rattle.sfs_base.proofs.BasicOptions.{some_same}
use Rattle.space_map.specs.Space.{GrantedNumbers}
use Rattle.tree_laws.specs.declared.turns.Turn.{Turn}
use Rattle.tree_laws.specs.declared.turns.TurnAct.TheVariants as act
use Rattle.tree_laws.specs.declared.turns.TurnAct.{TurnAct}
use Rattle.tree_laws.specs.declared.reply.Reply.{Reply}
use Rattle.tree_laws.specs.declared.reply.Reply.TheVariants as reply
use Rattle.cut_laws.specs.Closure.{Flush}
use Rattle.cut_laws.specs.Rules.{IsOneOf}
use Rattle.turn_laws.specs.Ways.{committed, HasCommit, Way, acts_of_way, answer_of, GoesWay, lacked, halted, no_turn, doubted, opened_doubted, granted_halted, opened_halted, returned, at_once}
use Rattle.slot_laws.specs.Rules.{IsTurnBy}
use Rattle.slot_laws.specs.Labels.{OwnTold}
use Rattle.disk_box.specs.Pens.{own_at, PenHand}
use Rattle.journal_set.specs.Ways.{RefusalsGoWays, TakesWay, IsAnsweredBy, CommitsGoWays, ReturnsGoWays, EmptyCommitsGoWays}
use Rattle.journal_set.specs.Reserving.{ReserveRequest, Reserves}
use Rattle.journal_set.specs.Committing.{not_begun, in_slot, IsShut, FailsCommit, HaltsCommit, Commits}
use Rattle.journal_set.specs.Returning.{ReturnsNumber}
use Rattle.journal_set.specs.declared.fault.Ack.{Ack}
use Rattle.journal_set.specs.declared.fault.CommitFault.{CommitFault}
use Rattle.journal_set.specs.Emptying.{EndsAtOnce}
use Rattle.journal_set.specs.declared.fault.CommitFault.TheVariants as fault

-- turns of one commit, or of none
halted_number : (number : ℕ) (turn : Turn) (core commit : ℕ) (flush : Flush) → IsTurnBy turn act.Halted core commit flush → (commit ≡ number) ⊎ (commit ≡ 0)
    → HasCommit number turn.act turn.commit
halted_number number turn core commit flush by which =
    subst (λ (z : TurnAct × ℕ). HasCommit number z.0 z.1) (λ i. (sym by.did_is i, sym by.commit_is i)) which

numbered_by : (did : TurnAct) (number : ℕ) (turn : Turn) (core : ℕ) (flush : Flush) → IsTurnBy turn did core number flush → HasCommit number did number
    → HasCommit number turn.act turn.commit
numbered_by did number turn core flush by has =
    subst (λ (z : TurnAct × ℕ). HasCommit number z.0 z.1) (λ i. (sym by.did_is i, sym by.commit_is i)) has

-- each of some turns has its number
abbrev Numbered : ℕ → List Turn → Type 0
Numbered number [] = Unit {0}
Numbered number (turn ∷ turns) = HasCommit number turn.act turn.commit × Numbered number turns

numbered_each : (number : ℕ) (turns : List Turn) → Numbered number turns → (turn : Turn) → IsOneOf turns turn → HasCommit number turn.act turn.commit
numbered_each number [] all turn among = absurd among
numbered_each number (one ∷ turns) all turn (inl same) = subst (λ (t : Turn). HasCommit number t.act t.commit) same all.0
numbered_each number (one ∷ turns) all turn (inr among) = numbered_each number turns all.1 turn among

-- some turns have these acts
abbrev HaveActs : List Turn → List TurnAct → Type 0
HaveActs [] [] = Unit {0}
HaveActs (turn ∷ turns) (did ∷ acts) = (turn.act ≡ did) × HaveActs turns acts
HaveActs _ _ = ⊥

acts_are : (turns : List Turn) (acts : List TurnAct) → HaveActs turns acts → map (λ (turn : Turn). turn.act) turns ≡ acts
acts_are [] [] have = refl
acts_are [] (did ∷ acts) have = absurd have
acts_are (turn ∷ turns) [] have = absurd have
acts_are (turn ∷ turns) (did ∷ acts) have = λ i. have.0 i ∷ acts_are turns acts have.1 i

goes_way : (turns : List Turn) (given : Reply) (way : Way) (number : ℕ) → 0 < number → HaveActs turns (acts_of_way way) → given ≡ answer_of way
    → Numbered number turns → GoesWay turns given
goes_way turns given way number some acts answered numbers = record {
  way = way;
  acts = acts_are turns (acts_of_way way) acts;
  answered = answered;
  number = number;
  numbered = some;
  commits = numbered_each number turns numbers;
}

pub refusals_go_ways : RefusalsGoWays
refusals_go_ways D asked before after (fault.DiskFailed faults) given comes is = absurd comes
refusals_go_ways D asked before after (fault.NoSpace kind need free) given comes is = record {
  turns = comes.turn ∷ [];
  told_is = ap (λ (o : OwnTold). o.told) comes.own;
  way = goes_way (comes.turn ∷ []) given (lacked kind need free) 1 (omega arith) (comes.by.did_is, tt) is
      (subst (λ (z : TurnAct × ℕ). HasCommit 1 z.0 z.1) (λ i. (sym comes.by.did_is i, sym comes.by.commit_is i)) (inr refl), tt);
}
refusals_go_ways D asked before after (fault.Stopped faults) given comes is = record {
  turns = comes.halts.turn ∷ [];
  told_is = ap (λ (o : OwnTold). o.told) comes.halts.after_is;
  way = goes_way (comes.halts.turn ∷ []) given (halted faults) 1 (omega arith) (comes.halts.by.did_is, tt) is
      (halted_number 1 comes.halts.turn before.view.core 0 asked.flush comes.halts.by (inr refl), tt);
}
refusals_go_ways D asked before after (fault.Moved node last) given comes is = absurd is
refusals_go_ways D asked before after fault.NoMemory given comes is = record {
  turns = [];
  told_is = ap (λ (o : OwnTold). o.told) comes ∙ sym (append-nil (own_at before).told);
  way = goes_way [] given no_turn 1 (omega arith) tt is tt;
}

module _ {D : Type 0} (asked : ReserveRequest) (before middle : PenHand D) (grant : GrantedNumbers) (reserves : Reserves asked before middle (Ok grant))
    (some : 0 < reserves.number) where
  abbrev core : ℕ
  core = before.view.core

  abbrev granted : Turn
  granted = reserves.turn

  -- turns behind that of the grant
  told_behind : (after : OwnTold) (more : List Turn) → after.told ≡ (own_at middle).told ++ more → after.told ≡ (own_at before).told ++ reserves.turn ∷ more
  told_behind after more told =
      told ∙ (ap (λ (o : OwnTold). o.told ++ more) reserves.own ∙ append_assoc (own_at before).told (reserves.turn ∷ []) more)

  grant_number : HasCommit reserves.number reserves.turn.act reserves.turn.commit
  grant_number = numbered_by act.Granted reserves.number reserves.turn before.view.core asked.flush reserves.by (inl refl)

  way_behind : (after : OwnTold) (more : List Turn) (given : Reply) (way : Way) (acts : List TurnAct) → acts_of_way way ≡ act.Granted ∷ acts
      → after.told ≡ (own_at middle).told ++ more → HaveActs more acts → given ≡ answer_of way → Numbered reserves.number more
      → TakesWay given (own_at before) after
  way_behind after more given way acts whole told have answered numbers = record {
    turns = reserves.turn ∷ more;
    told_is = told_behind after more told;
    way = goes_way (reserves.turn ∷ more) given way reserves.number some
        (subst (HaveActs (reserves.turn ∷ more)) (sym whole) (reserves.by.did_is, have)) answered (grant_number, numbers);
  }

  -- the number that was reserved is the commit's
  its_number : (number : ℕ) → (own_at middle).reserved ≡ Some number → number ≡ reserves.number
  its_number number had =
      let is : Some reserves.number ≡ Some number = sym (ap (λ (o : OwnTold). o.reserved) reserves.own) ∙ had in sym (some_same is)

  abbrev By : TurnAct → ℕ → Turn → Type 0
  By did number turn = IsTurnBy turn did before.view.core number asked.flush

  numbered_as : (did : TurnAct) (number : ℕ) (turn : Turn) → (own_at middle).reserved ≡ Some number → By did number turn
      → HasCommit reserves.number did reserves.number → HasCommit reserves.number turn.act turn.commit
  numbered_as did number turn had by has =
      numbered_by did reserves.number turn before.view.core asked.flush
      (subst (λ n. IsTurnBy turn did before.view.core n asked.flush) (its_number number had) by) has

  -- a commit that has not begun, or whose gate was not written, told nothing of it
  shut_told : (number : ℕ) (own : OwnTold) → IsShut before.view.core asked.flush (own_at middle) number own → own.told ≡ (own_at middle).told
  shut_told number own (not_begun same) = ap (λ (o : OwnTold). o.told) same
  shut_told number own (in_slot k is) = ap (λ (o : OwnTold). o.told) is

  fails_way : (faults : ℕ) (after : OwnTold) (given : Reply) → FailsCommit before.view.core asked.flush (own_at middle) faults after
      → given ≡ reply.DiskFailed → TakesWay given (own_at before) after
  fails_way faults after given fails is = elim fails.fails [
    | inl shut ↦
        let cut = shut.1.cut in
        let fail = shut.1.fails.turn in
        let told = ap (λ (o : OwnTold). o.told) shut.1.fails.after_is
        ∙ (append_assoc fails.middle.told (cut ∷ []) (fail ∷ []) ∙ ap (λ l. l ++ cut ∷ fail ∷ []) (shut_told fails.number fails.middle shut.0)) in
        way_behind after (cut ∷ fail ∷ []) given doubted (act.CutAt ∷ act.Fail ∷ []) refl told (shut.1.cut_by.did_is, (shut.1.fails.by.did_is, tt)) is
        (numbered_as act.CutAt fails.number cut fails.had shut.1.cut_by refl, (numbered_as act.Fail fails.number fail fails.had shut.1.fails.by refl, tt))
    | inr begun ↦
        let cut = begun.0.cut in
        let opened = begun.0.opened in
        let fail = begun.1.turn in
        let told = ap (λ (o : OwnTold). o.told) begun.1.after_is
        ∙ (ap (λ (o : OwnTold). o.told ++ fail ∷ []) begun.0.own_is ∙ append_assoc (own_at middle).told (cut ∷ opened ∷ []) (fail ∷ [])) in
        way_behind after (cut ∷ opened ∷ fail ∷ []) given opened_doubted (act.CutAt ∷ act.Opened ∷ act.Fail ∷ []) refl told
        (begun.0.cut_by.did_is, (begun.0.opened_by.did_is, (begun.1.by.did_is, tt))) is (
          numbered_as act.CutAt fails.number cut fails.had begun.0.cut_by refl,
          (numbered_as act.Opened fails.number opened fails.had begun.0.opened_by refl, (numbered_as act.Fail fails.number fail fails.had begun.1.by refl, tt)),
        )
  ]

  halts_way : (faults : ℕ) (after : OwnTold) (given : Reply) → HaltsCommit before.view.core asked.flush (own_at middle) after
      → given ≡ reply.Stopped faults → TakesWay given (own_at before) after
  halts_way faults after given halts is = elim halts.far [
    | inl shut ↦
        let turn = halts.halts.turn in
        let told = ap (λ (o : OwnTold). o.told) halts.halts.after_is ∙ ap (λ l. l ++ turn ∷ []) (shut_told halts.number halts.middle shut) in
        way_behind after (turn ∷ []) given (granted_halted faults) (act.Halted ∷ []) refl told (halts.halts.by.did_is, tt) is
        (numbered_as act.Halted halts.number turn halts.had halts.halts.by (inl refl), tt)
    | inr begun ↦
        let cut = begun.cut in
        let opened = begun.opened in
        let turn = halts.halts.turn in
        let told = ap (λ (o : OwnTold). o.told) halts.halts.after_is
        ∙ (ap (λ (o : OwnTold). o.told ++ turn ∷ []) begun.own_is ∙ append_assoc (own_at middle).told (cut ∷ opened ∷ []) (turn ∷ [])) in
        way_behind after (cut ∷ opened ∷ turn ∷ []) given (opened_halted faults) (act.CutAt ∷ act.Opened ∷ act.Halted ∷ []) refl told
        (begun.cut_by.did_is, (begun.opened_by.did_is, (halts.halts.by.did_is, tt))) is (
          numbered_as act.CutAt halts.number cut halts.had begun.cut_by refl,
          (
            numbered_as act.Opened halts.number opened halts.had begun.opened_by refl,
            (numbered_as act.Halted halts.number turn halts.had halts.halts.by (inl refl), tt),
          ),
        )
  ]

  returns_way : (after : OwnTold) (given : Reply) → ReturnsNumber before.view.core asked.flush (own_at middle) after → given ≡ reply.NoMemory
      → TakesWay given (own_at before) after
  returns_way after given returns is =
      way_behind after (returns.turn ∷ []) given returned (act.GivenBack ∷ []) refl (ap (λ (o : OwnTold). o.told) returns.after_is) (returns.by.did_is, tt) is
      (numbered_as act.GivenBack returns.number returns.turn returns.had returns.by (inl refl), tt)

  commit_way : (after : OwnTold) (result : Result Ack CommitFault) (given : Reply) → Commits before.view.core asked.flush (own_at middle) after result
      → IsAnsweredBy result given → TakesWay given (own_at before) after
  commit_way after (Ok ack) given comes is =
      way_behind after (comes.cut ∷ comes.opened ∷ comes.durable ∷ []) given committed (act.CutAt ∷ act.Opened ∷ act.Durable ∷ []) refl
      (ap (λ (o : OwnTold). o.told) comes.after_is) (comes.cut_by.did_is, (comes.opened_by.did_is, (comes.durable_by.did_is, tt))) is (
        numbered_as act.CutAt ack.commit comes.cut comes.had comes.cut_by refl,
        (
          numbered_as act.Opened ack.commit comes.opened comes.had comes.opened_by refl,
          (numbered_as act.Durable ack.commit comes.durable comes.had comes.durable_by refl, tt),
        ),
      )
  commit_way after (Err (fault.DiskFailed faults)) given comes is = fails_way faults after given comes is
  commit_way after (Err (fault.NoSpace kind need free)) given comes is = absurd comes
  commit_way after (Err (fault.Stopped faults)) given comes is = halts_way faults after given comes is
  commit_way after (Err (fault.Moved node last)) given comes is = absurd comes
  commit_way after (Err fault.NoMemory) given comes is = returns_way after given comes is

pub commits_go_ways : CommitsGoWays
commits_go_ways D asked before middle grant after result given reserves some comes is =
    commit_way asked before middle grant reserves some after result given comes is

pub returns_go_ways : ReturnsGoWays
returns_go_ways D asked before middle grant after reserves some returns =
    returns_way asked before middle grant reserves some after reply.NoMemory returns refl

-- a commit that wrote nothing
empty_way : {D : Type 0} (asked : ReserveRequest) (before after : PenHand D) (ack : Ack) (given : Reply) → EndsAtOnce asked before after ack → 0 < ack.commit
    → given ≡ reply.Ok → TakesWay given (own_at before) (own_at after)
empty_way asked before after ack given comes some is =
    let ends = comes.ends in
    record {
      turns = ends.cut ∷ ends.opened ∷ ends.durable ∷ [];
      told_is = ap (λ (o : OwnTold). o.told) ends.after_is;
      way = goes_way (ends.cut ∷ ends.opened ∷ ends.durable ∷ []) given at_once ack.commit some
          (ends.cut_by.did_is, (ends.opened_by.did_is, (ends.durable_by.did_is, tt))) is (
            numbered_by act.CutAt ack.commit ends.cut before.view.core asked.flush ends.cut_by refl,
            (
              numbered_by act.Opened ack.commit ends.opened before.view.core asked.flush ends.opened_by refl,
              (numbered_by act.Durable ack.commit ends.durable before.view.core asked.flush ends.durable_by refl, tt),
            ),
          );
    }

pub empty_commits_go_ways : EmptyCommitsGoWays
empty_commits_go_ways D asked before after (Ok ack) given comes some is = empty_way asked before after ack given comes (some ack refl) is
empty_commits_go_ways D asked before after (Err (fault.DiskFailed faults)) given comes some is = absurd comes
empty_commits_go_ways D asked before after (Err (fault.NoSpace kind need free)) given comes some is = absurd comes
empty_commits_go_ways D asked before after (Err (fault.Stopped faults)) given comes some is =
    refusals_go_ways D asked before after (fault.Stopped faults) given comes is
empty_commits_go_ways D asked before after (Err (fault.Moved node last)) given comes some is = absurd is
empty_commits_go_ways D asked before after (Err fault.NoMemory) given comes some is = refusals_go_ways D asked before after fault.NoMemory given comes is
