-- Where commits with what they bring stand beside a volume, it is the midst of a record.
use Rattle.std.proofs.Common.{◌≡◌, ◌≢◌, ◌⊎◌, ◌∷◌, ◌++◌, ◌∙◌, ℕ, ◌≤◌, List, [], length, map, inl, inr, refl, sym, ap, subst}
use Rattle.std.proofs.lemmas.List.{map-append}
use Rattle.sfs_base.proofs.BasicTruth.{false_not_true}
use Rattle.cut_laws.specs.Closure.{Flush}
use Rattle.cut_laws.specs.Rules.{IsOneOf}
use Rattle.cut_laws.proofs.Basics.{in_left, in_right, in_either}
use Rattle.cut_laws.proofs.Listed.{from_map, to_map}
use Rattle.beside_laws.specs.Commits.{CoreCommit, commit_fsync, Share}
use Rattle.beside_laws.specs.Laws.{HaveOtherNumbers, AreReady}
use Rattle.beside_laws.specs.Steps.{RecordPlace, commits_of, open_at, IsMidst, IsLegalRun}
use Rattle.flush_laws.specs.Volume.{Volume}
use Rattle.volume_laws.specs.Volume.{IsVolumeStanding}
use Rattle.merge_laws.specs.Phases.{Phase, flies_in}
use Rattle.merge_laws.specs.Plays.{Aloft, PlayState}
use Rattle.merge_laws.proofs.Playing.{KeysDiffer, FitsPhases, fits_flies}
use Rattle.book_laws.specs.Pairs.{Pair, commit_under, run_with, PairsBeside, PairReserves, ArePairsApart, IsOpenBeside}
use Rattle.book_laws.specs.Walk.{open_stamps, flown_by}

-- two lists without a stamp in common, in each of which none stands twice, have none twice together
pub differ_both : {X : Type 0} (key : X → ℕ) (stamps : List ℕ) (xs : List X) → KeysDiffer (λ stamp. stamp) stamps → KeysDiffer key xs
    → ((stamp : ℕ) (x : X) → IsOneOf stamps stamp → IsOneOf xs x → key x ≢ stamp) → KeysDiffer (λ stamp. stamp) (stamps ++ map key xs)
differ_both key [] [] once differ apart = tt
differ_both key [] (x ∷ xs) once differ apart = (
  λ other one same. let from = from_map key xs other one in differ.0 from.0 from.1 (from.2 ∙ same),
  differ_both key [] xs tt differ.1 (λ stamp y none. absurd none),
)
differ_both key (first ∷ stamps) xs once differ apart = (
  λ other one same. elim (in_either stamps (map key xs) other one) [
    | inl there ↦ once.0 other there same
    | inr flies ↦ let from = from_map key xs other flies in apart first from.0 (inl refl) from.1 (from.2 ∙ same)
  ],
  differ_both key stamps xs once.1 differ (λ stamp x one flies. apart stamp x (inr one) flies),
)

-- no fsync is open twice
pub open_once : (phase : ℕ → Phase) (at : PlayState) → FitsPhases phase at.waiting at.aloft → KeysDiffer (λ stamp. stamp) (open_stamps at)
open_once phase at fits =
    differ_both (λ (flight : Aloft). flight.stamp) at.waiting at.aloft fits.waits_once fits.flies_once
    (λ stamp flight waits flies same.
    let reserved = fits.waits stamp waits in
    false_not_true
    (sym (ap flies_in reserved) ∙ ap (λ (n : ℕ). flies_in (phase n)) (sym same) ∙ fits_flies flight.opened (phase flight.stamp) (fits.flies flight flies)))

-- those that are open are those that wait and those that fly
pub commits_aloft : (pairs : ℕ → Pair) (aloft : List Aloft)
    → commits_of (map (flown_by pairs) aloft) ≡ map (commit_under pairs) (map (λ flight. flight.stamp) aloft)
commits_aloft pairs [] = refl
commits_aloft pairs (flight ∷ aloft) = ap (λ (l : List CoreCommit). commit_under pairs flight.stamp ∷ l) (commits_aloft pairs aloft)

-- the place of the record of commits
abbrev pub place_by : (ℕ → Pair) → Volume → PlayState → List ℕ → RecordPlace
place_by pairs volume at used = record {
  run = run_with volume (map (commit_under pairs) at.done);
  waiting = map (commit_under pairs) at.waiting;
  flying = map (flown_by pairs) at.aloft;
  used = used;
}

pub open_are : (pairs : ℕ → Pair) (volume : Volume) (at : PlayState) (used : List ℕ)
    → open_at (place_by pairs volume at used) ≡ map (commit_under pairs) (open_stamps at)
open_are pairs volume at used =
    ap (λ (l : List CoreCommit). map (commit_under pairs) at.waiting ++ l) (commits_aloft pairs at.aloft)
    ∙ sym (map-append (commit_under pairs) at.waiting (map (λ (flight : Aloft). flight.stamp) at.aloft))

-- Each number that was used is that of a commit that is done or aloft.
abbrev pub UsedBy : (ℕ → Pair) → PlayState → List ℕ → Type 0
UsedBy pairs at used = (number : ℕ) → IsOneOf used number
    → (stamp : ℕ) × IsOneOf (at.done ++ map (λ flight. flight.stamp) at.aloft) stamp × ((pairs stamp).commit.number ≡ number)

-- a standing volume's run is legal
pub legal_run : (volume : Volume) (done : List CoreCommit) → IsVolumeStanding volume → IsLegalRun (run_with volume done)
legal_run volume done stands = record { sound = stands.between.history_is.sound; legal = stands.between.history_is.legal }

module _ (pairs : ℕ → Pair) (volume : Volume) (done : List ℕ) where
  numbers_once : (stamps : List ℕ) → KeysDiffer (λ stamp. stamp) stamps
      → ((stamp other : ℕ) → IsOneOf stamps stamp → IsOneOf stamps other → stamp ≢ other → ArePairsApart (pairs stamp) (pairs other))
      → HaveOtherNumbers (map (commit_under pairs) stamps)
  numbers_once [] once apart = tt
  numbers_once (stamp ∷ stamps) once apart = (
    λ other one same.
        let from = from_map (commit_under pairs) stamps other one in
        (apart stamp from.0 (inl refl) (inr from.1) (λ e. once.0 from.0 from.1 (sym e))).numbers (ap (λ (c : CoreCommit). c.number) from.2 ∙ same),
    numbers_once stamps once.1 (λ one other there here. apart one other (inr there) (inr here)),
  )

  -- the open ones are ready beside one another
  pub open_ready : (stamps : List ℕ) → KeysDiffer (λ stamp. stamp) stamps → PairsBeside pairs done stamps volume
      → AreReady (run_with volume (map (commit_under pairs) done)) (map (commit_under pairs) stamps)
  open_ready stamps once beside = record {
    made = λ commit one. let from = from_map (commit_under pairs) stamps commit one in
        subst Rattle.beside_laws.specs.Commits.IsByItsLook from.2 (beside.opens from.0 from.1).made;
    knows = λ commit one. let from = from_map (commit_under pairs) stamps commit one in
        subst (Rattle.beside_laws.specs.Laws.KnowsRun (run_with volume (map (commit_under pairs) done))) from.2 (beside.opens from.0 from.1).knows;
    finds = λ commit one. let from = from_map (commit_under pairs) stamps commit one in
        subst (Rattle.beside_laws.specs.Laws.FindsAlways volume.first volume.history) from.2 (beside.opens from.0 from.1).finds;
    later = λ commit one. let from = from_map (commit_under pairs) stamps commit one in
        subst (Rattle.beside_laws.specs.Progress.IsLater (map (commit_under pairs) done)) from.2 (beside.opens from.0 from.1).later;
    apart = λ commit other one two differ share.
        let mine = from_map (commit_under pairs) stamps commit one in
        let theirs = from_map (commit_under pairs) stamps other two in
        (beside.apart mine.0 theirs.0 mine.1 theirs.1
        (λ e. differ (ap (λ (c : CoreCommit). c.number) (sym mine.2 ∙ ap (commit_under pairs) e ∙ theirs.2)))).nodes
        (subst (λ (c : CoreCommit). Share c (commit_under pairs theirs.0)) (sym mine.2) (subst (Share commit) (sym theirs.2) share));
    once = numbers_once stamps once beside.apart;
  }

  -- fewer are open beside it too
  pub fewer_beside : (stamps fewer : List ℕ) → ((stamp : ℕ) → IsOneOf fewer stamp → IsOneOf stamps stamp) → PairsBeside pairs done stamps volume
      → PairsBeside pairs done fewer volume
  fewer_beside stamps fewer within beside = record {
    standing = beside.standing;
    opens = λ stamp one. beside.opens stamp (within stamp one);
    apart = λ stamp other one two. beside.apart stamp other (within stamp one) (within other two);
  }

  -- and so is one more that reserves
  pub more_beside : (stamps more : List ℕ) (own : ℕ) → ((stamp : ℕ) → IsOneOf more stamp → (stamp ≡ own) ⊎ IsOneOf stamps stamp)
      → PairReserves pairs volume done stamps own → PairsBeside pairs done stamps volume → PairsBeside pairs done more volume
  more_beside stamps more own within reserves beside = record {
    standing = beside.standing;
    opens = λ stamp one. elim (within stamp one) [
      | inl e ↦ subst (λ (n : ℕ). IsOpenBeside volume (map (commit_under pairs) done) (pairs n)) (sym e) reserves.opens
      | inr there ↦ beside.opens stamp there
    ];
    apart = λ stamp other one two differ. elim (within stamp one) [
      | inl e ↦ elim (within other two) [
        | inl f ↦ absurd (differ (e ∙ sym f))
        | inr there ↦ subst (λ (n : ℕ). ArePairsApart (pairs n) (pairs other)) (sym e) (reserves.apart other there)
      ]
      | inr here ↦ elim (within other two) [
        | inl f ↦ subst (λ (n : ℕ). ArePairsApart (pairs stamp) (pairs n)) (sym f) (turned_pair (pairs own) (pairs stamp) (reserves.apart stamp here))
        | inr there ↦ beside.apart stamp other here there differ
      ]
    ];
  }
    where
      turned_pair : (mine theirs : Pair) → ArePairsApart mine theirs → ArePairsApart theirs mine
      turned_pair mine theirs apart = record {
        numbers = λ e. apart.numbers (sym e);
        nodes = λ share. apart.nodes (record { node = share.node; one = share.two; two = share.one });
        inodes = λ i theirs_has mine_has. apart.inodes i mine_has theirs_has;
        blocks = λ block theirs_has mine_has. apart.blocks block mine_has theirs_has;
      }

-- It is the midst of the record of commits.
pub amid : (pairs : ℕ → Pair) (volume : Volume) (at : PlayState) (used : List ℕ) → KeysDiffer (λ stamp. stamp) (open_stamps at)
    → PairsBeside pairs at.done (open_stamps at) volume → UsedBy pairs at used → IsMidst (place_by pairs volume at used)
amid pairs volume at used once beside used_by = record {
  standing = beside.standing;
  ready =
      subst (AreReady (run_with volume (map (commit_under pairs) at.done))) (sym (open_are pairs volume at used))
      (open_ready pairs volume at.done (open_stamps at) once beside);
  low = λ commit one.
      let from = from_map (commit_under pairs) (open_stamps at) commit
      (subst (λ (l : List CoreCommit). IsOneOf l commit) (open_are pairs volume at used) one) in
      let its = beside.opens from.0 from.1 in
      subst (λ (c : CoreCommit). (commit_fsync c).stamp ≤ length volume.history) from.2
      (subst (λ (f : Flush). f.stamp ≤ length volume.history) (sym its.flush) its.brings.comes.low);
  used_by = λ number one.
      let found = used_by number one in (
        commit_under pairs found.0,
        elim (in_either at.done (map (λ (flight : Aloft). flight.stamp) at.aloft) found.0 found.1) [
          | inl done ↦
              in_left (map (commit_under pairs) at.done) (commits_of (map (flown_by pairs) at.aloft)) (commit_under pairs found.0)
              (to_map (commit_under pairs) at.done found.0 done)
          | inr flies ↦
              in_right (map (commit_under pairs) at.done) (commits_of (map (flown_by pairs) at.aloft)) (commit_under pairs found.0)
              (subst (λ (l : List CoreCommit). IsOneOf l (commit_under pairs found.0)) (sym (commits_aloft pairs at.aloft))
              (to_map (commit_under pairs) (map (λ (flight : Aloft). flight.stamp) at.aloft) found.0 flies))
        ],
        found.2,
      );
}
