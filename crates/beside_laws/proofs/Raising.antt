-- A commit that knows enough raises the cut as its look says.
use Rattle.std.proofs.Common.{◌≡◌, ◌⊎◌, ℕ, ◌<◌, ◌≤◌, Bool, true, false, cond, max, List, [], ◌∷◌, ◌++◌, map, inl, inr, refl, sym, ap, subst, ◌∙◌, arith}
use Rattle.std.proofs.lemmas.List.{map-append}
use Rattle.sfs_base.proofs.BasicTruth.{not_both, true_or_false}
use Rattle.tree_laws.specs.Changes.{RowChange}
use Rattle.tree_laws.specs.History.{IsLegal}
use Rattle.tree_laws.specs.Laws.{IsSoundTree}
use Rattle.cut_laws.specs.Cut.{Cut, cut_of, IsWithin}
use Rattle.cut_laws.specs.Closure.{every_entry, Flush, IsRaised, AreInodesAfter, AreFlushed, one_more}
use Rattle.cut_laws.specs.Rules.{IsOneOf, IsChange}
use Rattle.cut_laws.proofs.Basics.{below_or, in_left, in_right, in_either}
use Rattle.cut_laws.proofs.KeptInodes.{others_stay}
use Rattle.cut_laws.proofs.Lists.{lists_keep}
use Rattle.cut_laws.proofs.Raises.{cuts_rise}
use Rattle.cut_laws.proofs.RaisedCut.{raised_cut, stamp_raised}
use Rattle.cut_laws.proofs.Listed.{listed_one}
use Rattle.sfs_base.specs.Listed.{is_listed}
use Rattle.sfs_base.proofs.BasicTruth.{true_not_false}
use Rattle.look_laws.specs.Look.{Look, Gathers, Touches, member, named}
use Rattle.look_laws.specs.Beside.{Lifting, NamedHaveInodes, AreInodesBehind, IsLiftedBy, IsOfTheWhole}
use Rattle.look_laws.proofs.Fitting.{sight_of}
use Rattle.look_laws.proofs.Knowing.{looks_know}
use Rattle.beside_laws.specs.Commits.{CoreCommit, commit_fsync, observed_by, has_inode_behind, IsByItsLook, Share}
use Rattle.beside_laws.specs.Progress.{Progress, IsLastOf, Left, HasLeft, nobody, somebody, HasPassed, Standing}
use Rattle.beside_laws.specs.Laws.{KnowsRun, IsReadyToEnd, RaisesTo, BecomesDurable, KnowingRaise, AreTheSame, with_done}
use Rattle.beside_laws.proofs.OneCut.{fsyncs_raise_one_cut}

-- a node is one of them, and raised, or it is none, and its stamp is as it was
pub raised_or : (cut : Cut) (nodes : List ℕ) (stamp x : ℕ)
    → (IsOneOf nodes x × (cut_of (raised_cut cut nodes stamp) x ≡ max (cut_of cut x) stamp))
    ⊎ ((IsOneOf nodes x → ⊥) × (cut_of (raised_cut cut nodes stamp) x ≡ cut_of cut x))
raised_or cut nodes stamp x =
    elim (is_listed nodes x) as (λ b. is_listed nodes x ≡ b → (IsOneOf nodes x × (cut_of (raised_cut cut nodes stamp) x ≡ max (cut_of cut x) stamp))
    ⊎ ((IsOneOf nodes x → ⊥) × (cut_of (raised_cut cut nodes stamp) x ≡ cut_of cut x))) [
      | true ↦ λ listed. inl ((listed_one nodes x).0 listed, here ∙ ap (λ b. cond b (max (cut_of cut x) stamp) (cut_of cut x)) listed)
      | false ↦ λ other.
          inr (
            (λ one. true_not_false (sym ((listed_one nodes x).1 one) ∙ other)),
            here ∙ ap (λ b. cond b (max (cut_of cut x) stamp) (cut_of cut x)) other,
          )
    ] refl
  where
    here : cut_of (raised_cut cut nodes stamp) x ≡ cond (is_listed nodes x) (max (cut_of cut x) stamp) (cut_of cut x)
    here = stamp_raised cut nodes stamp x

-- what was left of a node that one more commit does not hold is left of it
left_more : (done : List CoreCommit) (commit : CoreCommit) (node : ℕ) (at_first : Bool) (left next : Left) → commit.holds node ≡ false
    → next.stamp ≡ left.stamp → next.inode ≡ left.inode → HasLeft done node at_first left → HasLeft (done ++ commit ∷ []) node at_first next
left_more done commit node at_first left next free stamp inode (nobody none zero first) =
    nobody
    (λ other one. elim (in_either done (commit ∷ []) other one) [
      | inl before ↦ none other before
      | inr last ↦ elim last [ inl same ↦ subst (λ (c : CoreCommit). c.holds node ≡ false) same free | inr never ↦ absurd never ]
    ])
    (stamp ∙ zero) (inode ∙ first)
left_more done commit node at_first left next free stamp inode (somebody other last lifted made) =
    somebody other
    (record {
      among = in_left done (commit ∷ []) other last.among;
      held = last.held;
      latest = λ third one holds. elim (in_either done (commit ∷ []) third one) [
        | inl before ↦ last.latest third before holds
        | inr new ↦ elim new [
          | inl same ↦ absurd (not_both (subst (λ (c : CoreCommit). c.holds node ≡ true) (sym same) holds) free)
          | inr never ↦ absurd never
        ]
      ];
    })
    (stamp ∙ lifted) (inode ∙ made)

-- the nodes with an inode behind a commit that makes this
abbrev pub inodes_made : Lifting → (ℕ → Bool) → ℕ → Bool
inodes_made makes inodes node = cond (makes.gets node) true (cond (makes.loses node) false (inodes node))

module _ (run : Progress) (is : IsSoundTree run.first) (legal : IsLegal run.first run.history) (stands : Standing run) where
  -- each node that a row at the cut names has an inode
  named_have : (commit : CoreCommit) → NamedHaveInodes (observed_by run.first run.history commit) run.cut run.inodes
  named_have commit node touched row =
      (lists_keep run.first run.history (map commit_fsync run.done) run.cut run.inodes is legal stands.flushed).named node row

  pub of_the_whole : (commit : CoreCommit) → KnowsRun run commit → IsOfTheWhole (observed_by run.first run.history commit) run.cut run.inodes
  of_the_whole commit knows = looks_know (observed_by run.first run.history commit) run.cut run.inodes is legal (named_have commit) knows

  module _ (commit : CoreCommit) (ready : IsReadyToEnd run commit) where
    abbrev look : Look
    look = commit.look

    abbrev flush : Flush
    flush = commit_fsync commit

    whole : IsOfTheWhole (observed_by run.first run.history commit) run.cut run.inodes
    whole = of_the_whole commit ready.knows

    raised : Cut
    raised = raised_cut run.cut commit.members flush.stamp

    lifted_node : (node : ℕ) → (Gathers look node × (cut_of raised node ≡ max (cut_of run.cut node) flush.stamp))
        ⊎ ((Gathers look node → ⊥) × (cut_of raised node ≡ cut_of run.cut node))
    unfolding raised
    lifted_node node = elim (raised_or run.cut commit.members flush.stamp node) [
      | inl one ↦ inl ((ready.made.members node).0 one.0, one.1)
      | inr none ↦ inr ((λ own. none.0 ((ready.made.members node).1 own)), none.1)
    ]

    lifted_by : IsLiftedBy look run.cut raised
    lifted_by = record {
      gathered = λ node own. elim (lifted_node node) [ inl one ↦ one.1 | inr none ↦ absurd (none.0 own) ];
      others = λ node. elim (lifted_node node) [ inl one ↦ inl one.0 | inr none ↦ inr none.1 ];
    }

    raise : IsRaised run.first run.history every_entry run.cut run.inodes flush raised
    raise = whole.raises raised lifted_by

    -- what gets an inode had none, and what loses one had it
    gets_none : (node : ℕ) → commit.makes.loses node ≡ true → commit.makes.gets node ≡ false
    gets_none node loses = elim (true_or_false (commit.makes.gets node)) [
      | inr none ↦ none
      | inl gets ↦
          absurd (not_both ((ready.made.makes.moved.leaves node).0 loses).0 ((ready.made.makes.moved.enters node).0 gets).0)
    ]

    behind : AreInodesBehind run.inodes commit.makes (inodes_made commit.makes run.inodes)
    behind = record {
      got = λ node gets. ap (λ b. cond b true (cond (commit.makes.loses node) false (run.inodes node))) gets;
      lost = λ node loses.
          ap (λ b. cond b true (cond (commit.makes.loses node) false (run.inodes node))) (gets_none node loses)
          ∙ ap (λ b. cond b false (run.inodes node)) loses;
      same = λ node none keeps.
          ap (λ b. cond b true (cond (commit.makes.loses node) false (run.inodes node))) none ∙ ap (λ b. cond b false (run.inodes node)) keeps;
    }

    inodes_after : AreInodesAfter run.first run.history every_entry run.cut run.inodes flush raised (inodes_made commit.makes run.inodes)
    inodes_after = whole.moves raised commit.makes (inodes_made commit.makes run.inodes) raise ready.made.makes (ready.finds raised raise) behind

    -- a node that it holds, and one that it doesn't
    made_stamp : (node : ℕ) → Touches look node → cut_of raised node ≡ commit.makes.lifted node
    made_stamp node touched = elim (lifted_node node) [
      | inl one ↦
          one.1 ∙ ap (λ n. max n flush.stamp) (sym (ready.knows.enough.cuts node touched)) ∙ sym (ready.made.makes.lifts.members node one.0)
      | inr none ↦ elim (ready.made.makes.lifts.others node) [
        | inl own ↦ absurd (none.0 own)
        | inr same ↦ none.1 ∙ sym (ready.knows.enough.cuts node touched) ∙ sym same
      ]
    ]

    made_inode : (node : ℕ) → Touches look node → inodes_made commit.makes run.inodes node ≡ has_inode_behind commit node
    made_inode node touched =
        ap (λ b. cond (commit.makes.gets node) true (cond (commit.makes.loses node) false b)) (sym (ready.knows.enough.same_inodes node touched))

    module _ (any : Cut) (left_inodes : ℕ → Bool) (to : RaisesTo run commit any left_inodes) where
      same : AreTheSame any raised left_inodes (inodes_made commit.makes run.inodes)
      same = fsyncs_raise_one_cut run commit any raised left_inodes (inodes_made commit.makes run.inodes) to (record { raises = raise; inodes_after = inodes_after })

      rise : (node : ℕ) → cut_of run.cut node ≤ cut_of any node
      rise = cuts_rise run.first run.history every_entry run.cut run.inodes flush any to.raises

      -- a node that it gathers, and one that it doesn't
      lifted_to : (node : ℕ) → (Gathers look node × (cut_of any node ≡ max (cut_of run.cut node) flush.stamp))
          ⊎ ((Gathers look node → ⊥) × (cut_of any node ≡ cut_of run.cut node))
      lifted_to node = elim (lifted_node node) [
        | inl one ↦ inl (one.0, same.stamps node ∙ one.1)
        | inr none ↦ inr (none.0, same.stamps node ∙ none.1)
      ]

      gathered_to : (node : ℕ) → Gathers look node → cut_of any node ≡ max (cut_of run.cut node) flush.stamp
      gathered_to node own = elim (lifted_to node) [ inl one ↦ one.1 | inr none ↦ absurd (none.0 own) ]

      untouched : (node : ℕ) → commit.holds node ≡ false → Touches look node → ⊥
      untouched node free touched = not_both ((ready.made.holds node).1 touched) free

      same_stamp : (node : ℕ) → commit.holds node ≡ false → cut_of any node ≡ cut_of run.cut node
      same_stamp node free = elim (lifted_to node) [ inl one ↦ absurd (untouched node free (member node one.0)) | inr none ↦ none.1 ]

      same_inode : (node : ℕ) → commit.holds node ≡ false → left_inodes node ≡ run.inodes node
      same_inode node free = same.same_inodes node ∙ behind.same node
          (elim (true_or_false (commit.makes.gets node)) [
            | inr none ↦ none
            | inl gets ↦ absurd (untouched node free ((ready.made.makes.moved.enters node).0 gets).1)
          ])
          (elim (true_or_false (commit.makes.loses node)) [
            | inr none ↦ none
            | inl loses ↦ absurd (untouched node free ((ready.made.makes.moved.leaves node).0 loses).1)
          ])

      abbrev grown : List CoreCommit
      grown = run.done ++ commit ∷ []

      own : IsOneOf grown commit
      own = in_right run.done (commit ∷ []) commit (inl refl)

      -- each of the commits is one that was done, or this one
      new_or : (other : CoreCommit) → IsOneOf grown other → IsOneOf run.done other ⊎ (other ≡ commit)
      new_or other one = elim (in_either run.done (commit ∷ []) other one) [
        | inl before ↦ inl before
        | inr last ↦ elim last [ inl same ↦ inr (sym same) | inr never ↦ absurd never ]
      ]

      last_now : (node : ℕ) → commit.holds node ≡ true → IsLastOf grown node commit
      last_now node holds = record {
        among = own;
        held = holds;
        latest = λ other one also. elim (new_or other one) [
          | inl before ↦ let less = ready.later.greater other before (record { node = node; one = holds; two = also }) in omega arith
          | inr same ↦ let number = ap (λ (c : CoreCommit). c.number) same in omega arith
        ];
      }

      passed_now : (change : RowChange) → IsChange run.first run.history change → IsWithin any change
          → (other : CoreCommit) × IsOneOf grown other × HasPassed change other
      passed_now change is_change within = elim (below_or change.stamp (cut_of run.cut change.directory)) [
        | inl before ↦
            let found = stands.passed change is_change before in (found.0, in_left run.done (commit ∷ []) found.0 found.1, found.2)
        | inr open_one ↦ elim (lifted_to change.directory) [
          | inr none ↦ let same = none.1 in absurd (omega arith)
          | inl one ↦ (commit, own, by one.0 one.1 open_one)
        ]
      ]
        where
          by : Gathers look change.directory → cut_of any change.directory ≡ max (cut_of run.cut change.directory) flush.stamp
              → cut_of run.cut change.directory ≤ change.stamp → HasPassed change commit
          by gathered lifted open_one =
              let below : change.stamp < flush.stamp = omega arith in
              let stamp = ready.knows.stamp in
              let sight = sight_of run.first run.history commit.counts run.cut run.inodes look ready.knows.enough change gathered (record {
                is_change = is_change;
                counted = ready.knows.early change.stamp (omega arith);
                from = open_one;
                below = below;
              }) in
              let there = subst (λ (c : RowChange). Gathers look c.directory) (sym sight.2) gathered in
              record {
                member = (ready.made.members change.directory).1 gathered;
                child = (ready.made.holds change.child).1 (subst (λ (c : RowChange). Touches look c.child) sight.2 (named sight.0 there sight.1));
                stamp = below;
              }

      stands_now : Standing (with_done run commit any left_inodes)
      stands_now = record {
        flushed =
            subst (λ l. AreFlushed run.first run.history every_entry l any left_inodes) (sym (map-append commit_fsync run.done (commit ∷ [])))
            (one_more (map commit_fsync run.done) flush run.cut any run.inodes left_inodes stands.flushed to.raises to.inodes_after);
        left = λ node. elim (true_or_false (commit.holds node)) [
          | inl holds ↦
              let touched = (ready.made.holds node).0 holds in
              somebody commit (last_now node holds) (same.stamps node ∙ made_stamp node touched) (same.same_inodes node ∙ made_inode node touched)
          | inr free ↦
              left_more run.done commit node _ _ _ free (same_stamp node free) (same_inode node free) (stands.left node)
        ];
        passed = passed_now;
        members = λ other node one among. elim (new_or other one) [
          | inl before ↦ let low = stands.members other node before among in let up = rise node in omega arith
          | inr same ↦
              let gathered = (ready.made.members node).0 (subst (λ (c : CoreCommit). IsOneOf c.members node) same among) in
              let lifted = gathered_to node gathered in
              let stamp = ap (λ (c : CoreCommit). (commit_fsync c).stamp) same in omega arith
        ];
        numbered = λ one two first second number. elim (new_or one first) [
          | inl before ↦ elim (new_or two second) [
            | inl also ↦ stands.numbered one two before also number
            | inr same ↦ absurd (ready.later.other_number one before (number ∙ ap (λ (c : CoreCommit). c.number) same))
          ]
          | inr same ↦ elim (new_or two second) [
            | inl also ↦ absurd (ready.later.other_number two also (sym number ∙ ap (λ (c : CoreCommit). c.number) same))
            | inr again ↦ same ∙ sym again
          ]
        ];
      }

      others_know : (other : CoreCommit) → IsByItsLook other → (Share commit other → ⊥) → KnowsRun run other
          → KnowsRun (with_done run commit any left_inodes) other
      others_know other made apart knows =
          (of_the_whole other knows).stays any left_inodes rise (λ node touched.
          others_stay run.first run.history run.cut any run.inodes left_inodes flush node is legal to.raises to.inodes_after (λ concerned.
          apart (record {
            node = node;
            one = (ready.made.holds node).1 ((whole.fits.concerned node).1 concerned);
            two = (made.holds node).1 touched;
          })))

    pub raises_now : BecomesDurable run commit
    raises_now = record {
      raised = raised;
      after = inodes_made commit.makes run.inodes;
      raises = record { raises = raise; inodes_after = inodes_after };
      done = λ any left_inodes to. record { stands = stands_now any left_inodes to; others = others_know any left_inodes to };
    }

pub knowing_raise : KnowingRaise
knowing_raise run commit is legal stands ready = raises_now run is legal stands commit ready
