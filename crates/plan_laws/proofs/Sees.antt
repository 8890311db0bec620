-- What an fsync needs of what was gathered: it tells what the fsync makes, though entries that come late may be missing.
use Rattle.std.specs.Prelude.{◌↔◌}
use Rattle.std.proofs.Common.{◌≡◌, ◌∙◌, ℕ, Bool, true, List, map, refl, sym, subst, arith, cond, false, inl, inr, ap, max}
use Rattle.sfs_base.specs.declared.numbers.NodeId.{NodeId}
use Rattle.sfs_base.specs.declared.numbers.Stamp.{Stamp}
use Rattle.sfs_base.specs.Listed.{is_listed}
use Rattle.sfs_base.proofs.BasicTruth.{true_or_false, not_both}
use Rattle.tree_laws.specs.declared.history.Entry.{Entry}
use Rattle.tree_laws.specs.History.{IsLegal}
use Rattle.tree_laws.specs.Laws.{IsSoundTree}
use Rattle.tree_laws.specs.NameRow.{node_number}
use Rattle.tree_laws.specs.Tree.{TreeState}
use Rattle.cut_laws.specs.Closure.{every_entry, IsNamedIn, IsRaised, AreInodesAfter}
use Rattle.cut_laws.specs.Cut.{Cut, cut_of}
use Rattle.cut_laws.specs.Laws.{KeepsAll}
use Rattle.cut_laws.specs.Runs.{view_by}
use Rattle.cut_laws.proofs.Recount.{recounts, counted_rows-low}
use Rattle.cut_laws.proofs.RunFacts.{raised_low}
use Rattle.cut_laws.proofs.Views.{AreAlike}
use Rattle.look_laws.specs.Fit.{KnowsEnough, FindsRight}
use Rattle.look_laws.specs.Laws.{FitsHistory, MakesCommit}
use Rattle.look_laws.specs.Look.{Look, Gathers, Touches}
use Rattle.look_laws.specs.Made.{Lifts, Found, AreMoved}
use Rattle.look_laws.specs.Beside.{Observation, IsOfTheWhole, AreInodesBehind}
use Rattle.look_laws.proofs.Fitting.{looks_fit, late_entries_may_be_missing}
use Rattle.look_laws.proofs.Making.{looks_are_made}
use Rattle.look_laws.proofs.Knowing.{looks_know}
use Rattle.dep_closure.specs.declared.gathered.Gathered.{Gathered}
use Rattle.dep_closure.specs.Gathered.{look_of, cut_in, span_in, IsOrderly}
use Rattle.dep_closure.specs.History.{HasUnflushed}
use Rattle.dep_closure.proofs.Enough.{unflushed_is_enough}
use Rattle.plan_laws.specs.Plans.{planned_flush, HasEarly, GathersEnough, whole, early, HasBeside, beside}
use Rattle.plan_laws.proofs.GatheredSpans.{logged_span, spans_are_logged}

-- What was gathered tells what the fsync makes: of each touched node its stamp and whether it has an inode, which nodes are members and which
-- are touched, what is logged in the members' spans, and which of the touched nodes get and lose an inode.
pub record SeesCommit (first : TreeState) (history : List Entry) (cut : Cut) (inodes : ℕ → Bool) (start : NodeId) (below : Stamp)
    (gathered : Gathered) : Type 0 where
  pub cuts : (node : ℕ) → Touches (look_of start below gathered) node → cut_in gathered.cuts.items node ≡ cut_of cut node
  pub same_inodes : (node : ℕ) → Touches (look_of start below gathered) node → is_listed (map node_number gathered.inodes.items) node ≡ inodes node
  pub fits : FitsHistory first history every_entry cut inodes (look_of start below gathered)
  pub spans : (node : ℕ) → Gathers (look_of start below gathered) node → span_in gathered below node ≡ logged_span first history cut below node
  pub makes : (raised : Cut) (lifted : ℕ → ℕ) (found : Found) (gets loses : ℕ → Bool)
      → IsRaised first history every_entry cut inodes (planned_flush start below) raised → Lifts (look_of start below gathered) lifted
      → FindsRight first history every_entry raised (look_of start below gathered) found → AreMoved (look_of start below gathered) lifted found gets loses
      → MakesCommit first history every_entry inodes (look_of start below gathered) raised lifted gets loses

module _ (first : TreeState) (history : List Entry) (cut : Cut) (inodes : ℕ → Bool) (start : NodeId) (below : Stamp) (gathered : Gathered)
    (sound : IsSoundTree first) (legal : IsLegal first history) (orderly : IsOrderly gathered) where
  abbrev look : Look
  look = look_of start below gathered

  -- where all was gathered that is not flushed
  sees_whole : HasUnflushed first history every_entry cut inodes gathered → SeesCommit first history cut inodes start below gathered
  sees_whole has =
      let knows : KnowsEnough first history every_entry cut inodes look =
      unflushed_is_enough first history every_entry cut inodes gathered start below sound legal has in
      record {
        cuts = knows.cuts;
        same_inodes = knows.same_inodes;
        fits = looks_fit first history every_entry cut inodes look knows;
        spans = spans_are_logged first history every_entry cut inodes gathered start below sound legal orderly has.logs knows (λ stamp low. refl);
        makes =
            λ raised lifted found gets loses raise lifts right moved. looks_are_made first history every_entry cut raised inodes look lifted found gets loses
            knows raise lifts right moved;
      }

  -- and where enough was gathered of the entries below a stamp that no cut is above
  module _ (kept : KeepsAll first history cut inodes) (has : HasEarly first history cut inodes start below gathered) where
    alike : AreAlike first look.flush (view_by history has.counts cut inodes) (view_by history every_entry cut inodes)
    alike =
        recounts first history has.late has.counts every_entry look.flush cut inodes sound legal has.counted (λ t low. refl) has.cuts has.stamp has.live
        (record { kept = kept.kept; named = kept.named })

    made : (raised : Cut) (lifted : ℕ → ℕ) (found : Found) (gets loses : ℕ → Bool) → IsRaised first history every_entry cut inodes look.flush raised
        → Lifts look lifted
        → FindsRight first history every_entry raised look found → AreMoved look lifted found gets loses
        → MakesCommit first history every_entry inodes look raised lifted gets loses
    made raised lifted found gets loses raise lifts right moved =
        let own_raise = (alike.raises raised).1 raise in
        let rows =
        counted_rows-low first history has.late has.counts raised has.counted
        (raised_low first history every_entry cut inodes look.flush raised has.late raise has.cuts has.stamp) in
        let own_right : FindsRight first history has.counts raised look found =
        record {
          named = λ node touches. subst (λ r. (found.named node ≡ true) ↔ IsNamedIn r node) (sym rows) (right.named node touches);
          directory = right.directory;
        } in
        let own = looks_are_made first history has.counts cut raised inodes look lifted found gets loses has.knows own_raise lifts own_right moved in
        let concerned = (looks_fit first history has.counts cut inodes look has.knows).concerned in
        record {
          stamps = own.stamps;
          enters = λ node touches none.
              let reached = alike.reached raised own_raise node ((concerned node).0 touches) in
              ((λ one. reached.0 ((own.enters node touches none).0 one)), (λ there. (own.enters node touches none).1 (reached.1 there)));
          leaves = λ node touches some.
              let dead = alike.dead raised own_raise node ((concerned node).0 touches) in
              ((λ one. dead.0 ((own.leaves node touches some).0 one)), (λ there. (own.leaves node touches some).1 (dead.1 there)));
        }

    sees_early : SeesCommit first history cut inodes start below gathered
    sees_early = record {
      cuts = has.knows.cuts;
      same_inodes = has.knows.same_inodes;
      fits = late_entries_may_be_missing first history has.late has.counts cut inodes look sound legal kept has.live has.counted has.cuts has.stamp has.knows;
      spans =
          spans_are_logged first history has.counts cut inodes gathered start below sound legal orderly has.logs has.knows
          (λ stamp low. has.counted stamp (let most = has.stamp in omega arith));
      makes = made;
    }

  -- and where the look knows enough while other commits go on
  module _ (kept : KeepsAll first history cut inodes) (has : HasBeside first history cut inodes start below gathered) where
    abbrev seen : Observation
    seen = record { first = first; history = history; counts = has.counts; late = has.late; look = look }

    is_whole : IsOfTheWhole seen cut inodes
    is_whole = looks_know seen cut inodes sound legal (λ node touches named. kept.named node named) has.knows

    module _ (raised : Cut) (lifted : ℕ → ℕ) (found : Found) (gets loses : ℕ → Bool)
        (raise : IsRaised first history every_entry cut inodes look.flush raised) (lifts : Lifts look lifted)
        (right : FindsRight first history every_entry raised look found) (moved : AreMoved look lifted found gets loses) where
      -- which nodes have an inode behind it
      abbrev then : ℕ → Bool
      then node = cond (gets node) true (cond (loses node) false (inodes node))

      by_moves : (node : ℕ) (g l : Bool) → gets node ≡ g → loses node ≡ l → then node ≡ cond g true (cond l false (inodes node))
      by_moves node g l get lose = λ i. cond (get i) true (cond (lose i) false (inodes node))

      loses_alone : (node : ℕ) → loses node ≡ true → gets node ≡ false
      loses_alone node lose = elim (true_or_false (gets node)) [
        | inl get ↦ absurd (not_both (((moved.leaves node).0 lose).0) (((moved.enters node).0 get).0))
        | inr none ↦ none
      ]

      behind : AreInodesBehind inodes (record { lifted = lifted; found = found; gets = gets; loses = loses }) then
      behind = record {
        got = λ node get. ap (λ (b : Bool). cond b true (cond (loses node) false (inodes node))) get;
        lost = λ node lose. by_moves node false true (loses_alone node lose) lose;
        same = λ node get lose. by_moves node false false get lose;
      }

      inodes_then : AreInodesAfter first history every_entry cut inodes look.flush raised then
      inodes_then =
          is_whole.moves raised (record { lifted = lifted; found = found; gets = gets; loses = loses }) then raise
          (record { lifts = lifts; moved = moved }) right behind

      -- a node that has none enters where it then has one, and one that has one leaves where it then has none
      gets_then : (node : ℕ) → inodes node ≡ false → then node ≡ true → gets node ≡ true
      gets_then node none has = elim (true_or_false (gets node)) [
        | inl get ↦ get
        | inr stays ↦ elim (true_or_false (loses node)) [
          | inl lose ↦ absurd (not_both has (by_moves node false true stays lose))
          | inr keeps ↦ absurd (not_both has (by_moves node false false stays keeps ∙ none))
        ]
      ]

      loses_then : (node : ℕ) → inodes node ≡ true → then node ≡ false → loses node ≡ true
      loses_then node some gone = elim (true_or_false (loses node)) [
        | inl lose ↦ lose
        | inr keeps ↦ elim (true_or_false (gets node)) [
          | inl get ↦ absurd (not_both (behind.got node get) gone)
          | inr stays ↦ absurd (not_both (by_moves node false false stays keeps ∙ some) gone)
        ]
      ]

      stamps_then : (node : ℕ) → Touches look node → lifted node ≡ cut_of raised node
      stamps_then node touches = elim (lifts.others node) [
        | inl own ↦
            lifts.members node own ∙ ap (λ (n : ℕ). max n look.flush.stamp) (has.knows.enough.cuts node touches)
            ∙ sym (raise.member node ((is_whole.fits.members node).0 own))
        | inr same ↦ elim (raise.other node) [
          | inl own ↦
              lifts.members node ((is_whole.fits.members node).1 own)
              ∙ ap (λ (n : ℕ). max n look.flush.stamp) (has.knows.enough.cuts node touches) ∙ sym (raise.member node own)
          | inr stays ↦ same ∙ has.knows.enough.cuts node touches ∙ sym stays
        ]
      ]

      made_beside : MakesCommit first history every_entry inodes look raised lifted gets loses
      made_beside = record {
        stamps = stamps_then;
        enters = λ node touches none. (
          (λ get. ((inodes_then.enters node none).0 (behind.got node get)).1),
          (λ reached. gets_then node none ((inodes_then.enters node none).1 ((is_whole.fits.concerned node).0 touches, reached))),
        );
        leaves = λ node touches some. (
          (λ lose. ((inodes_then.leaves node some).0 (behind.lost node lose)).1),
          (λ dead. loses_then node some ((inodes_then.leaves node some).1 ((is_whole.fits.concerned node).0 touches, dead))),
        );
      }

    sees_beside : SeesCommit first history cut inodes start below gathered
    sees_beside = record {
      cuts = has.knows.enough.cuts;
      same_inodes = has.knows.enough.same_inodes;
      fits = is_whole.fits;
      spans =
          spans_are_logged first history has.counts cut inodes gathered start below sound legal orderly has.logs has.knows.enough
          (λ stamp low. has.knows.early stamp (let most = has.knows.stamp in omega (arith, low, most)));
      makes = made_beside;
    }

pub sees_enough : (first : TreeState) (history : List Entry) (cut : Cut) (inodes : ℕ → Bool) (start : NodeId) (below : Stamp) (gathered : Gathered)
    → IsSoundTree first → IsLegal first history → IsOrderly gathered
    → KeepsAll first history cut inodes → GathersEnough first history cut inodes start below gathered → SeesCommit first history cut inodes start below gathered
sees_enough first history cut inodes start below gathered sound legal orderly kept (whole has) =
    sees_whole first history cut inodes start below gathered sound legal orderly has
sees_enough first history cut inodes start below gathered sound legal orderly kept (early has) =
    sees_early first history cut inodes start below gathered sound legal orderly kept has
sees_enough first history cut inodes start below gathered sound legal orderly kept (beside has) =
    sees_beside first history cut inodes start below gathered sound legal orderly kept has
