-- What an fsync knows of a history while other commits go on is enough of the whole of it.
use Rattle.std.proofs.Common.{◌≡◌, ◌⊎◌, ◌↔◌, ℕ, zero, suc, ◌+◌, ◌<◌, ◌≤◌, Bool, true, false, List, length, Some, IsSome, inl, inr, refl, sym, ap, subst, ◌∙◌, arith}
use Rattle.std.specs.FinMap.{FinMap, get}
use Rattle.tree_laws.specs.Order.{key_cmp}
use Rattle.tree_laws.specs.Tree.{TreeState, row_of, is_directory}
use Rattle.tree_laws.specs.Changes.{RowChange}
use Rattle.tree_laws.specs.History.{IsLegal, tree_after}
use Rattle.tree_laws.specs.Laws.{IsSoundTree}
use Rattle.tree_laws.proofs.RowFacts.{IsNamed}
use Rattle.sfs_base.proofs.BasicNumbers.{plus_zero, not_less}
use Rattle.sfs_base.proofs.BasicTruth.{not_both, true_or_false}
use Rattle.cut_laws.specs.Cut.{Cut, cut_of, rows_at_cut}
use Rattle.cut_laws.specs.Rules.{IsChange}
use Rattle.cut_laws.specs.Closure.{every_entry, InSpan, HasNaming, IsNamedIn, Closure, IsConcerned, IsRaised, IsReached, IsDead, AreInodesAfter}
use Rattle.cut_laws.specs.Closure as closure
use Rattle.cut_laws.specs.LawsInodes.{StaysAsItWas}
use Rattle.cut_laws.proofs.Basics.{below_or}
use Rattle.cut_laws.proofs.Own.{stamp_of}
use Rattle.cut_laws.proofs.Runs.{Run, Made, Seen}
use Rattle.cut_laws.proofs.Seen.{ahead, behind}
use Rattle.cut_laws.proofs.Along.{change_in, effect_at, made_at, run_of, tree_at}
use Rattle.cut_laws.proofs.Closed.{seen_of, seen_past}
use Rattle.cut_laws.proofs.Lives.{later}
use Rattle.cut_laws.proofs.Children.{IsOpen, naming_since, flushed_or_open, links_named}
use Rattle.cut_laws.proofs.Members.{concerned_then}
use Rattle.cut_laws.proofs.NamedRows.{row_went}
use Rattle.look_laws.specs.Look.{Look, Touches, member, SeesNaming}
use Rattle.look_laws.specs.Made.{SeesReached, SeesDead}
use Rattle.look_laws.specs.Fit.{FindsRight}
use Rattle.look_laws.specs.Laws.{FitsHistory}
use Rattle.look_laws.specs.Beside.{Observation, Knows, NamedHaveInodes, Lifting, IsLiftingOf, AreInodesBehind, IsLiftedBy, LooksKnow}
use Rattle.look_laws.proofs.Fitting.{fits}
use Rattle.look_laws.proofs.Making.{naming_raised, raised_seen}

-- A node of whose changes from a stamp on none is flushed.
abbrev IsUnflushedFrom : Run → (ℕ → ℕ) → ℕ → ℕ → Type 0
IsUnflushedFrom r cut k node = (t : ℕ) (x : RowChange) → Made r t x → k ≤ t → x.child ≡ node → cut x.directory ≤ t

-- a row at the cut that names such a node stays from the stamp on
row_kept : (r : Run) (cut : ℕ → ℕ) (s : Seen r cut) (k node : ℕ) → IsUnflushedFrom r cut k node → (d : ℕ) (n : List ℕ) → get (s.rows k) (d, n) ≡ Some node
    → (more : ℕ) → get (s.rows (k + more)) (d, n) ≡ Some node
row_kept r cut s k node none d n row zero = ap (λ t. get (s.rows t) (d, n)) (plus_zero k) ∙ row
row_kept r cut s k node none d n row (suc more) =
    let one_more : k + suc more ≡ suc (k + more) = omega arith in
    ap (λ t. get (s.rows t) (d, n)) one_more ∙ next (k + more) (omega arith) (row_kept r cut s k node none d n row more)
  where
    next : (t : ℕ) → k ≤ t → get (s.rows t) (d, n) ≡ Some node → get (s.rows (suc t)) (d, n) ≡ Some node
    next t since there = elim (below_or t (cut d)) [
      | inr le ↦ behind r cut s t d n le ∙ there
      | inl lt ↦
          elim (row_went (r.tree t) (r.core t) t (r.sound t) (r.effect t) (r.makes t) (r.fits t) d n node (sym (ahead r cut s t d n (omega arith)) ∙ there)) [
            | inl stays ↦ ahead r cut s (suc t) d n (omega arith) ∙ ap (λ (tree : TreeState). row_of tree d n) (r.next t) ∙ stays
            | inr went ↦ absurd (not_less lt (subst (λ (h : ℕ). cut h ≤ t) went.2 (none t went.0 went.1 since went.3)))
          ]
    ]

module _ (seen : Observation) (is : IsSoundTree seen.first) (legal : IsLegal seen.first seen.history)
    (early : (stamp : ℕ) → stamp < seen.late → seen.counts stamp ≡ true) where
  abbrev run : Run
  run = run_of seen.first seen.history is legal

  abbrev tree_late : TreeState
  tree_late = tree_at seen.first seen.history seen.late

  -- no change that names a node and has the late stamp or a greater one is flushed
  abbrev NoneFlushed : Cut → ℕ → Type 0
  NoneFlushed cut node = (change : RowChange) → IsChange seen.first seen.history change → seen.late ≤ change.stamp → change.child ≡ node
      → cut_of cut change.directory ≤ change.stamp

  none_made : (cut : Cut) (node : ℕ) → NoneFlushed cut node → IsUnflushedFrom run (cut_of cut) seen.late node
  none_made cut node none t x one since child =
      let same = stamp_of (tree_at seen.first seen.history t) t (effect_at seen.first seen.history t) x one in
      rw same at (none x (change_in seen.first seen.history t x legal one) (rw same since) child)

  -- a naming that is not flushed of a node that was there by then is one by an entry that counts, or a row at the cut names the node
  counted_naming : (cut : Cut) (node : ℕ) → NoneFlushed cut node → IsSome (get tree_late.nodes node)
      → HasNaming seen.first seen.history every_entry cut node
      → IsNamedIn (rows_at_cut seen.first seen.history cut) node ⊎ HasNaming seen.first seen.history seen.counts cut node
  counted_naming cut node none some naming = elim (below_or naming.change.stamp seen.late) [
    | inl lt ↦
        inr
        (record {
          change = naming.change;
          is_change = naming.is_change;
          counted = early naming.change.stamp lt;
          child = naming.child;
          unflushed = naming.unflushed;
        })
    | inr le ↦ by (named le).directory (named le).name (flushed_or_open run (cut_of cut) now seen.late (named le).directory (named le).name node (named le).row)
  ]
    where
      now : Seen run (cut_of cut)
      now = seen_of seen.first seen.history is legal cut

      named : seen.late ≤ naming.change.stamp → IsNamed tree_late.rows node
      named le = rw naming.child at (naming_since run (links_named seen.first seen.history is legal) seen.late naming.change.stamp naming.change le
          (made_at seen.first seen.history is legal naming.change naming.is_change) (rw naming.child some))

      by : (d : ℕ) (n : List ℕ) → (get (now.rows seen.late) (d, n) ≡ Some node) ⊎ IsOpen run (cut_of cut) seen.late node
          → IsNamedIn (rows_at_cut seen.first seen.history cut) node ⊎ HasNaming seen.first seen.history seen.counts cut node
      by d n (inl there) =
          inl (record {
            directory = d;
            name = n;
            row =
                ap (λ (rows : FinMap key_cmp ℕ). get rows (d, n)) (sym (seen_past seen.first seen.history is legal cut (seen.late + length seen.history) (omega arith)))
                ∙ row_kept run (cut_of cut) now seen.late node (none_made cut node none) d n there (length seen.history);
          })
      by d n (inr o) =
          let same = stamp_of (tree_at seen.first seen.history o.stamp) o.stamp (effect_at seen.first seen.history o.stamp) o.change o.made in
          inr (record {
            change = o.change;
            is_change = change_in seen.first seen.history o.stamp o.change legal o.made;
            counted = ap seen.counts same ∙ early o.stamp o.before;
            child = o.child;
            unflushed = rw same o.unflushed;
          })

  module _ (cut : Cut) (inodes : ℕ → Bool) (named : NamedHaveInodes seen cut inodes) (knows : Knows seen cut inodes) where
    abbrev look : Look
    look = seen.look

    here : FitsHistory seen.first seen.history seen.counts cut inodes look
    here = fits seen.first seen.history seen.counts cut inodes look knows.enough

    none_flushed : (node : ℕ) → Touches look node → NoneFlushed cut node
    none_flushed node touched change is_change since child = knows.unflushed change (subst (Touches look) (sym child) touched) is_change since

    -- a span of the whole history is one of the entries that count
    span_here : (change : RowChange) → InSpan seen.first seen.history every_entry cut look.flush.stamp change
        → InSpan seen.first seen.history seen.counts cut look.flush.stamp change
    span_here change span =
        let lt = span.below in
        let at_most = knows.stamp in
        record { is_change = span.is_change; counted = early change.stamp (omega arith); from = span.from; below = span.below }

    span_there : (change : RowChange) → InSpan seen.first seen.history seen.counts cut look.flush.stamp change
        → InSpan seen.first seen.history every_entry cut look.flush.stamp change
    span_there change span = record { is_change = span.is_change; counted = refl; from = span.from; below = span.below }

    -- a node that is concerned is there by the late stamp
    there_late : (node : ℕ) → IsConcerned seen.first seen.history seen.counts cut inodes look.flush node → IsSome (get tree_late.nodes node)
    there_late node concerned =
        later run look.flush.stamp seen.late node knows.stamp (concerned_then seen.first seen.history is legal seen.counts cut inodes look.flush knows.live node concerned)

    member_there : {node : ℕ} → Closure seen.first seen.history seen.counts cut inodes look.flush node
        → Closure seen.first seen.history every_entry cut inodes look.flush node
    member_there closure.itself = closure.itself
    member_there (closure.other_side change other own span two) = closure.other_side change other (member_there own) (span_there change span) two
    member_there (closure.ended change own span ends) = closure.ended change (member_there own) (span_there change span) ends
    member_there (closure.ancestor change above node own span move way among) =
        closure.ancestor change above node (member_there own) (span_there change span) move way among
    member_there (closure.birth_place birth own one lacks naming) =
        closure.birth_place birth (member_there own) one lacks
        (record { change = naming.change; is_change = naming.is_change; counted = refl; child = naming.child; unflushed = naming.unflushed })

    member_here : {node : ℕ} → Closure seen.first seen.history every_entry cut inodes look.flush node
        → Closure seen.first seen.history seen.counts cut inodes look.flush node
    member_here closure.itself = closure.itself
    member_here (closure.other_side change other own span two) = closure.other_side change other (member_here own) (span_here change span) two
    member_here (closure.ended change own span ends) = closure.ended change (member_here own) (span_here change span) ends
    member_here (closure.ancestor change above node own span move way among) =
        closure.ancestor change above node (member_here own) (span_here change span) move way among
    member_here (closure.birth_place birth own one lacks naming) =
        let back = member_here own in
        let touched = member birth.node ((here.members birth.node).1 back) in
        closure.birth_place birth back one lacks
        (elim (counted_naming cut birth.node (none_flushed birth.node touched) (there_late birth.node (closure.member birth.node back)) naming) [
          | inl row ↦ absurd (not_both (named birth.node touched row) lacks)
          | inr counted ↦ counted
        ])

    concerned_there : (node : ℕ) → IsConcerned seen.first seen.history seen.counts cut inodes look.flush node
        → IsConcerned seen.first seen.history every_entry cut inodes look.flush node
    concerned_there node (closure.member _ own) = closure.member node (member_there own)
    concerned_there _ (closure.named change own span) = closure.named change (member_there own) (span_there change span)

    concerned_here : (node : ℕ) → IsConcerned seen.first seen.history every_entry cut inodes look.flush node
        → IsConcerned seen.first seen.history seen.counts cut inodes look.flush node
    concerned_here node (closure.member _ own) = closure.member node (member_here own)
    concerned_here _ (closure.named change own span) = closure.named change (member_here own) (span_here change span)

    whole : FitsHistory seen.first seen.history every_entry cut inodes look
    whole = record {
      members = λ node. (λ own. member_there ((here.members node).0 own), λ own. (here.members node).1 (member_here own));
      concerned = λ node. (λ own. concerned_there node ((here.concerned node).0 own), λ own. (here.concerned node).1 (concerned_here node own));
    }

    raises : (raised : Cut) → IsLiftedBy look cut raised → IsRaised seen.first seen.history every_entry cut inodes look.flush raised
    raises raised lifted = record {
      member = λ node own. lifted.gathered node ((whole.members node).1 own);
      other = λ node. elim (lifted.others node) [ inl own ↦ inl ((whole.members node).0 own) | inr same ↦ inr same ];
    }

    -- the same for the entries that count
    raise_here : (raised : Cut) → IsRaised seen.first seen.history every_entry cut inodes look.flush raised
        → IsRaised seen.first seen.history seen.counts cut inodes look.flush raised
    raise_here raised raise = record {
      member = λ node own. raise.member node (member_there own);
      other = λ node. elim (raise.other node) [ inl own ↦ inl (member_here own) | inr same ↦ inr same ];
    }

    -- what is not flushed from the late stamp on is not by the raised cut either
    none_raised : (raised : Cut) → IsRaised seen.first seen.history every_entry cut inodes look.flush raised → (node : ℕ) → Touches look node
        → NoneFlushed raised node
    none_raised raised raise node touched change is_change since child =
        let low = none_flushed node touched change is_change since child in
        let stamp = knows.stamp in
        elim (raise.other change.directory) [
          | inl own ↦ let lifted = raise.member change.directory own in omega arith
          | inr same ↦ omega arith
        ]

    module _ (raised : Cut) (lifting : Lifting) (after : ℕ → Bool) (raise : IsRaised seen.first seen.history every_entry cut inodes look.flush raised)
        (made : IsLiftingOf look lifting) (right : FindsRight seen.first seen.history every_entry raised look lifting.found)
        (behind_it : AreInodesBehind inodes lifting after) where
      -- a naming that is seen at the new stamps is not flushed by the raised cut
      naming_there : (node : ℕ) → Touches look node → SeesNaming look lifting.lifted node → HasNaming seen.first seen.history seen.counts raised node
      naming_there = naming_raised seen.first seen.history seen.counts cut raised inodes look lifting.lifted knows.enough (raise_here raised raise) made.lifts

      -- and one that is not flushed is seen, or a row at the raised cut names the node
      naming_seen : (node : ℕ) → Touches look node → HasNaming seen.first seen.history every_entry raised node
          → IsNamedIn (rows_at_cut seen.first seen.history raised) node ⊎ SeesNaming look lifting.lifted node
      naming_seen node touched naming =
          let late = there_late node ((here.concerned node).0 touched) in
          elim (counted_naming raised node (none_raised raised raise node touched) late naming) [
            | inl row ↦ inl row
            | inr counted ↦
                inr (raised_seen seen.first seen.history seen.counts cut raised inodes look lifting.lifted knows.enough (raise_here raised raise) made.lifts node touched counted)
          ]

      reached_there : (node : ℕ) → Touches look node → SeesReached look lifting.lifted lifting.found node
          → IsReached seen.first seen.history every_entry look.flush raised node
      reached_there node touched (inl row) = inl ((right.named node touched).0 row)
      reached_there node touched (inr (own, file, sees)) =
          let naming = naming_there node touched sees in
          inr (
            own,
            ap (is_directory (tree_after seen.first seen.history)) own ∙ sym right.directory ∙ file,
            record { change = naming.change; is_change = naming.is_change; counted = refl; child = naming.child; unflushed = naming.unflushed },
          )

      reached_here : (node : ℕ) → Touches look node → IsReached seen.first seen.history every_entry look.flush raised node
          → SeesReached look lifting.lifted lifting.found node
      reached_here node touched (inl row) = inl ((right.named node touched).1 row)
      reached_here node touched (inr (own, file, naming)) = elim (naming_seen node touched naming) [
        | inl row ↦ inl ((right.named node touched).1 row)
        | inr sees ↦ inr (own, right.directory ∙ sym (ap (is_directory (tree_after seen.first seen.history)) own) ∙ file, sees)
      ]

      dead_there : (node : ℕ) → Touches look node → SeesDead look lifting.lifted lifting.found node → IsDead seen.first seen.history every_entry raised node
      dead_there node touched dead = record {
        no_root = dead.no_root;
        unnamed = unnamed;
        flushed = λ change is_change counted child. elim (below_or change.stamp (cut_of raised change.directory)) [
          | inl less ↦ less
          | inr open_one ↦
              absurd
              (elim (naming_seen node touched (record { change = change; is_change = is_change; counted = refl; child = child; unflushed = open_one })) [
                | inl row ↦ unnamed row
                | inr sees ↦ dead.flushed sees
              ])
        ];
      }
        where
          unnamed : IsNamedIn (rows_at_cut seen.first seen.history raised) node → ⊥
          unnamed row = not_both ((right.named node touched).1 row) dead.unnamed

      dead_here : (node : ℕ) → Touches look node → IsDead seen.first seen.history every_entry raised node → SeesDead look lifting.lifted lifting.found node
      dead_here node touched dead = record {
        no_root = dead.no_root;
        unnamed = elim (true_or_false (lifting.found.named node)) [
          | inl row ↦ absurd (dead.unnamed ((right.named node touched).0 row))
          | inr none ↦ none
        ];
        flushed = λ sees. let naming = naming_there node touched sees in
            not_less (dead.flushed naming.change naming.is_change refl naming.child) naming.unflushed;
      }

      concerns : (node : ℕ) → Touches look node ↔ IsConcerned seen.first seen.history every_entry cut inodes look.flush node
      concerns = whole.concerned

      -- a node without an inode loses none, and one with an inode gets none
      loses_none : (node : ℕ) → inodes node ≡ false → lifting.loses node ≡ false
      loses_none node lacks = elim (true_or_false (lifting.loses node)) [
        | inr none ↦ none
        | inl loses ↦
            let left = (made.moved.leaves node).0 loses in absurd (not_both (sym (knows.enough.same_inodes node left.1) ∙ left.0) lacks)
      ]

      gets_none : (node : ℕ) → inodes node ≡ true → lifting.gets node ≡ false
      gets_none node has = elim (true_or_false (lifting.gets node)) [
        | inr none ↦ none
        | inl gets ↦
            let entered = (made.moved.enters node).0 gets in absurd (not_both has (sym (knows.enough.same_inodes node entered.1) ∙ entered.0))
      ]

      entered : (node : ℕ) → inodes node ≡ false → after node ≡ true → lifting.gets node ≡ true
      entered node lacks has = elim (true_or_false (lifting.gets node)) [
        | inl gets ↦ gets
        | inr none ↦ absurd (not_both has (behind_it.same node none (loses_none node lacks) ∙ lacks))
      ]

      left : (node : ℕ) → inodes node ≡ true → after node ≡ false → lifting.loses node ≡ true
      left node has lacks = elim (true_or_false (lifting.loses node)) [
        | inl loses ↦ loses
        | inr none ↦ absurd (not_both (behind_it.same node (gets_none node has) none ∙ has) lacks)
      ]

      moves : AreInodesAfter seen.first seen.history every_entry cut inodes look.flush raised after
      moves = record {
        enters = λ node lacks. (
          λ has.
              let one = (made.moved.enters node).0 (entered node lacks has) in ((concerns node).0 one.1, reached_there node one.1 one.2),
          λ both.
              let touched = (concerns node).1 both.0 in
              behind_it.got node ((made.moved.enters node).1 (knows.enough.same_inodes node touched ∙ lacks, touched, reached_here node touched both.1)),
        );
        leaves = λ node has. (
          λ lacks.
              let one = (made.moved.leaves node).0 (left node has lacks) in ((concerns node).0 one.1, dead_there node one.1 one.2),
          λ both.
              let touched = (concerns node).1 both.0 in
              behind_it.lost node ((made.moved.leaves node).1 (knows.enough.same_inodes node touched ∙ has, touched, dead_here node touched both.1)),
        );
      }

    module _ (raised : Cut) (after : ℕ → Bool) (rise : (node : ℕ) → cut_of cut node ≤ cut_of raised node)
        (same : (node : ℕ) → Touches look node → StaysAsItWas seen.first seen.history cut raised inodes after node) where
      -- a naming of a touched node that was not flushed is not
      still_open : (change : RowChange) → Touches look change.child → IsChange seen.first seen.history change → cut_of cut change.directory ≤ change.stamp
          → cut_of raised change.directory ≤ change.stamp
      still_open change touched is_change low = elim (below_or change.stamp (cut_of raised change.directory)) [
        | inr le ↦ le
        | inl less ↦ absurd (not_less (((same change.child touched).flushed change is_change refl).0 less) low)
      ]

      stays : Knows seen raised after
      stays = record {
        enough = record {
          cuts = λ node touched. knows.enough.cuts node touched ∙ sym (same node touched).stamp;
          cuts_low = λ node. let low = knows.enough.cuts_low node in let le = rise node in omega arith;
          same_inodes = λ node touched. knows.enough.same_inodes node touched ∙ sym (same node touched).inode;
          born = knows.enough.born;
          truths = knows.enough.truths;
          spans = λ change own span. knows.enough.spans change own (record {
            is_change = span.is_change;
            counted = span.counted;
            from = subst (λ n. n ≤ change.stamp) (same change.directory (member change.directory own)).stamp span.from;
            below = span.below;
          });
          namings = λ change touched is_change counted low. knows.enough.namings change touched is_change counted
              (let le = rise change.directory in omega arith);
          unflushed = λ noted one touched low. still_open noted.change touched (knows.enough.truths noted one).is_change (knows.enough.unflushed noted one touched low);
        };
        early = knows.early;
        stamp = knows.stamp;
        unflushed = λ change touched is_change since. still_open change touched is_change (knows.unflushed change touched is_change since);
        live = knows.live;
      }

pub looks_know : LooksKnow
looks_know seen cut inodes is legal named knows = record {
  fits = whole seen is legal knows.early cut inodes named knows;
  raises = raises seen is legal knows.early cut inodes named knows;
  moves = moves seen is legal knows.early cut inodes named knows;
  stays = stays seen is legal knows.early cut inodes named knows;
}
