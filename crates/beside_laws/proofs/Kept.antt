-- Commits that are ready raise the cut, one after another.
use Rattle.std.proofs.Common.{◌≡◌, ℕ, Bool, List, [], ◌∷◌, ◌++◌, map, inl, inr, refl, sym, subst}
use Rattle.std.proofs.lemmas.List.{append-nil, append_assoc}
use Rattle.tree_laws.specs.declared.history.Entry.{Entry}
use Rattle.tree_laws.specs.Tree.{TreeState}
use Rattle.tree_laws.specs.History.{IsLegal}
use Rattle.tree_laws.specs.Laws.{IsSoundTree}
use Rattle.cut_laws.specs.Closure.{every_entry, Flush, IsRaised, AreInodesAfter, AreRaised, none, one_more}
use Rattle.cut_laws.specs.Cut.{Cut}
use Rattle.cut_laws.specs.Rules.{IsOneOf}
use Rattle.beside_laws.specs.Commits.{CoreCommit, commit_fsync, Share}
use Rattle.beside_laws.specs.Progress.{Progress, Standing, IsLater}
use Rattle.beside_laws.specs.Laws.{IsReadyToEnd, IsDoneWith, with_done, AreReady, RaiseAll, ReadyRaise}
use Rattle.beside_laws.proofs.Boxes.{last_or}
use Rattle.beside_laws.proofs.Raising.{knowing_raise}

-- a node that two share the other shares with the one
turned : {commit other : CoreCommit} → Share commit other → Share other commit
turned share = record { node = share.node; one = share.two; two = share.one }

module _ (run : Progress) (commit : CoreCommit) (rest : List CoreCommit) (ready : AreReady run (commit ∷ rest)) where
  pub first_ready : Standing run → IsReadyToEnd run commit
  first_ready stands = record {
    made = ready.made commit (inl refl);
    knows = ready.knows commit (inl refl);
    finds = ready.finds commit (inl refl) run.done run.cut run.inodes stands (ready.knows commit (inl refl));
    later = ready.later commit (inl refl);
  }

  -- the others are apart from it
  others_apart : (other : CoreCommit) → IsOneOf rest other → Share commit other → ⊥
  others_apart other one = ready.apart commit other (inl refl) (inr one) (λ same. ready.once.0 other one (sym same))

  rest_later : (other : CoreCommit) → IsOneOf rest other → IsLater (run.done ++ commit ∷ []) other
  rest_later other one = record {
    other_number = λ third among same. elim (last_or run.done commit third among) [
      | inl before ↦ (ready.later other (inr one)).other_number third before same
      | inr own ↦ ready.once.0 other one (sym (subst (λ (c : CoreCommit). c.number ≡ other.number) own same))
    ];
    greater = λ third among share. elim (last_or run.done commit third among) [
      | inl before ↦ (ready.later other (inr one)).greater third before share
      | inr own ↦ absurd (others_apart other one (turned (subst (Share other) own share)))
    ];
  }

  pub rest_ready : (raised : Cut) (after : ℕ → Bool) → IsDoneWith run commit raised after → AreReady (with_done run commit raised after) rest
  rest_ready raised after done = record {
    made = λ other one. ready.made other (inr one);
    knows = λ other one. done.others other (ready.made other (inr one)) (others_apart other one) (ready.knows other (inr one));
    finds = λ other one. ready.finds other (inr one);
    later = rest_later;
    apart = λ one two first second. ready.apart one two (inr first) (inr second);
    once = ready.once.1;
  }

-- fsyncs after a first one are a list with it in front
raised_behind : {first : TreeState} {history : List Entry} (cut middle : Cut) (inodes between : ℕ → Bool) (flush : Flush) (flushes : List Flush) (raised : Cut)
    (after : ℕ → Bool) → IsRaised first history every_entry cut inodes flush middle → AreInodesAfter first history every_entry cut inodes flush middle between
    → AreRaised first history every_entry middle between flushes raised after → AreRaised first history every_entry cut inodes (flush ∷ flushes) raised after
raised_behind cut middle inodes between flush flushes raised after is sets none = one_more [] flush cut middle inodes between none is sets
raised_behind cut middle inodes between flush flushes raised after is sets (one_more earlier last before above inodes_before behind are last_is last_sets) =
    one_more (flush ∷ earlier) last before above inodes_before behind
    (raised_behind cut middle inodes between flush earlier before inodes_before is sets are) last_is last_sets

raise_all : (kept : List CoreCommit) (run : Progress) → IsSoundTree run.first → IsLegal run.first run.history → Standing run → AreReady run kept
    → RaiseAll run kept
raise_all [] run is legal stands ready = record {
  cut = run.cut;
  inodes = run.inodes;
  raised = none;
  stands = subst (λ l. Standing (record { first = run.first; history = run.history; done = l; cut = run.cut; inodes = run.inodes })) (sym (append-nil run.done))
      stands;
}
raise_all (commit ∷ rest) run is legal stands ready =
    let raises = knowing_raise run commit is legal stands (first_ready run commit rest ready stands) in
    let done = raises.done raises.raised raises.after raises.raises in
    let all =
    raise_all rest (with_done run commit raises.raised raises.after) is legal done.stands (rest_ready run commit rest ready raises.raised raises.after done) in
    record {
      cut = all.cut;
      inodes = all.inodes;
      raised =
          raised_behind run.cut raises.raised run.inodes raises.after (commit_fsync commit) (map commit_fsync rest) all.cut all.inodes
          raises.raises.raises raises.raises.inodes_after all.raised;
      stands =
          subst (λ l. Standing (record { first = run.first; history = run.history; done = l; cut = all.cut; inodes = all.inodes }))
          (append_assoc run.done (commit ∷ []) rest) all.stands;
    }

pub ready_raise : ReadyRaise
ready_raise run kept is legal stands ready = raise_all kept run is legal stands ready
