-- What the commit of each fsync brings, without the parts: by its stamp, what its core made of it.
use Rattle.std.proofs.Common.{◌≡◌, ◌∙◌, ◌⊎◌, ◌≢◌, ℕ, false, List, [], Some, refl, Option, None, sym, subst, slice_get, inl, inr}
use Rattle.sfs_base.proofs.BasicOptions.{none_some, some_same}
use Rattle.sfs_image.specs.ImageOf.{InodePart}
use Rattle.space_map.specs.Space.{GrantedNumbers}
use Rattle.disk_change.specs.AllBuilt.{entry_keyed}
use Rattle.cut_laws.specs.Closure.{Flush}
use Rattle.cut_laws.specs.Rules.{IsOneOf}
use Rattle.flush_laws.specs.Volume.{Volume}
use Rattle.book_laws.specs.Brings.{Bringing}
use Rattle.book_laws.specs.Pairs.{Pair}
use Rattle.reserve_laws.specs.Plans.{bringing_made}
use Rattle.reserve_laws.specs.OwnFile.{bringing_own}
use Rattle.note_laws.specs.Run.{TableRun}
use Rattle.made_laws.specs.Made.{CoreMade, sources_of, CoreMaking, OwnMade, own_flush, making_flush, of_notes, of_file, MadeEitherWay}
use Rattle.made_laws.specs.Tells.{commit_made}
use Rattle.made_laws.specs.Own.{commit_of_own}
use Rattle.slot_laws.specs.Nodes.{no_numbers}
use Rattle.flush_agrees.specs.Made.{FlushMade}
use Rattle.flush_agrees.specs.Agreement.{FlushTold}
use Rattle.end_laws.specs.Mount.{MountEnd, run_at, MountEnds, IsFsyncAt}
use Rattle.end_laws.specs.Cuts.{lift_of}
use Rattle.end_laws.proofs.Fsyncs.{HasStamp, in_lists, same_fsync}

-- the same without parts, and with others
abbrev pub without_parts : Bringing → Bringing
without_parts one = record one { parts = [] }

abbrev pub with_parts : List InodePart → Bringing → Bringing
with_parts parts one = record one { parts = parts }

-- a pair of an fsync that made nothing
abbrev blank_pair : Flush → Pair
blank_pair flush = record {
  commit = record {
    number = 0;
    look = record { flush = flush; cut = λ _. 0; inodes = λ _. false; born = []; noted = [] };
    counts = λ _. false;
    late = 0;
    mark = λ _ _. 0;
    members = [];
    holds = λ _. false;
    last = λ _. 0;
    makes = record { lifted = λ _. 0; found = record { named = λ _. false; directory = false }; gets = λ _. false; loses = λ _. false };
  };
  one = record {
    flush = flush;
    nodes = [];
    plan = record { old = []; nets = []; files = []; enter = []; leave = [] };
    grant = no_numbers;
    parts = [];
  };
}

-- what the commit of a file brings, without the parts
abbrev pub plain_own : {run : TableRun} {making : CoreMaking} → Volume → OwnMade run making → GrantedNumbers → Bringing
plain_own volume one grant =
    without_parts (bringing_own volume (own_flush one.own) (entry_keyed (one.own.node, one.own.kept)) one.own.files grant)

-- How a pair is made, but for the parts, by the stamps that directories have: by what was noted whatever these are, or by its own file.
pub data IsPlainBy (at : MountEnd) (made : FlushMade) (pair : (ℕ → ℕ) → Pair) : Type 0 where
  by_look : (core : CoreMade (run_at at) made.making) → ((cuts : ℕ → ℕ) → (pair cuts).commit ≡ commit_made (run_at at) made.making core.plans made.number)
      → ((cuts : ℕ → ℕ) → (pair cuts).one ≡ without_parts (bringing_made at.start (sources_of made.making []) core.plans made.grant))
      → IsPlainBy at made pair
  by_own : (one : OwnMade (run_at at) made.making)
      → ((cuts : ℕ → ℕ) → (pair cuts).commit ≡ commit_of_own at.start.first at.start.history cuts one.own made.number)
      → ((cuts : ℕ → ℕ) → (pair cuts).one ≡ plain_own at.start one made.grant) → IsPlainBy at made pair

-- It is of an fsync: where something was made for that it is of this, and the stamps change nothing but the look.
pub record IsPlainFor (at : MountEnd) (one : FlushTold) (pair : (ℕ → ℕ) → Pair) : Type 0 where
  pub flush : (cuts : ℕ → ℕ) → (pair cuts).one.flush ≡ one.flush
  pub same_one : (cuts other : ℕ → ℕ) → (pair cuts).one ≡ (pair other).one
  pub same_lift : (cuts other : ℕ → ℕ) → lift_of (pair cuts).commit ≡ lift_of (pair other).commit
  pub made : (made : FlushMade) → one.made ≡ Some made → IsPlainBy at made pair

module _ (D : Type 0) (at : MountEnd) (ends : MountEnds D at) where
  -- what was made for one by its notes
  abbrev look_pair : (made : FlushMade) → CoreMade (run_at at) made.making → (ℕ → ℕ) → Pair
  look_pair made core cuts = record {
    commit = commit_made (run_at at) made.making core.plans made.number;
    one = without_parts (bringing_made at.start (sources_of made.making []) core.plans made.grant);
  }

  -- and by its own file
  abbrev own_pair : (made : FlushMade) → OwnMade (run_at at) made.making → (ℕ → ℕ) → Pair
  own_pair made own cuts = record {
    commit = commit_of_own at.start.first at.start.history cuts own.own made.number;
    one = plain_own at.start own made.grant;
  }

  made_pair : (one : FlushTold) (made : FlushMade) → one.made ≡ Some made → making_flush made.making ≡ one.flush → MadeEitherWay (run_at at) made.making
      → (pair : (ℕ → ℕ) → Pair) × IsPlainFor at one pair
  made_pair one made is flush (of_notes core) = (
    look_pair made core,
    record {
      flush = λ cuts. flush;
      same_one = λ cuts other. refl;
      same_lift = λ cuts other. refl;
      made = λ other also. subst (λ m. IsPlainBy at m (look_pair made core)) (some_same (sym is ∙ also)) (IsPlainBy.by_look core (λ cuts. refl) (λ cuts. refl));
    },
  )
  made_pair one made is flush (of_file own) = (
    own_pair made own,
    record {
      flush = λ cuts. sym own.flush_is ∙ flush;
      same_one = λ cuts other. refl;
      same_lift = λ cuts other. refl;
      made = λ other also. subst (λ m. IsPlainBy at m (own_pair made own)) (some_same (sym is ∙ also)) (IsPlainBy.by_own own (λ cuts. refl) (λ cuts. refl));
    },
  )

  -- each fsync has one
  has_plain : (one : FlushTold) → IsFsyncAt at one → (pair : (ℕ → ℕ) → Pair) × IsPlainFor at one pair
  has_plain one there = by one.made refl
    where
      by : (o : Option FlushMade) → one.made ≡ o → (pair : (ℕ → ℕ) → Pair) × IsPlainFor at one pair
      by None is = (
        λ cuts. blank_pair one.flush,
        record {
          flush = λ cuts. refl;
          same_one = λ cuts other. refl;
          same_lift = λ cuts other. refl;
          made = λ made some. absurd (none_some (sym is ∙ some));
        },
      )
      by (Some made) is =
          let from = (ends.each there.core there.fsyncs there.there).agree.made one made there.among is in
          made_pair one made is from.flush_is from.made_in

  abbrev plain_by : (stamp : ℕ) → HasStamp at.fsyncs stamp
      ⊎ ((core : ℕ) (fsyncs : List FlushTold) (one : FlushTold) → slice_get at.fsyncs core ≡ Some fsyncs → IsOneOf fsyncs one → one.flush.stamp ≢ stamp)
      → (ℕ → ℕ) → Pair
  plain_by stamp (inl has) = (has_plain has.one (record { core = has.core; fsyncs = has.fsyncs; there = has.there; among = has.among })).0
  plain_by stamp (inr nobody) = λ cuts. blank_pair (record { node = 0; stamp = stamp })

  -- the pair of the fsync with a stamp, by the stamps that directories have
  pub plain_pair : ℕ → (ℕ → ℕ) → Pair
  plain_pair stamp = plain_by stamp (in_lists at.fsyncs stamp)

  -- these change nothing but the look
  pub plain_same_one : (stamp : ℕ) (cuts other : ℕ → ℕ) → (plain_pair stamp cuts).one ≡ (plain_pair stamp other).one
  unfolding plain_pair
  plain_same_one stamp cuts other = by (in_lists at.fsyncs stamp)
    where
      by : (found : HasStamp at.fsyncs stamp
          ⊎ ((core : ℕ) (fsyncs : List FlushTold) (one : FlushTold) → slice_get at.fsyncs core ≡ Some fsyncs → IsOneOf fsyncs one → one.flush.stamp ≢ stamp))
          → (plain_by stamp found cuts).one ≡ (plain_by stamp found other).one
      by (inl has) = (has_plain has.one (record { core = has.core; fsyncs = has.fsyncs; there = has.there; among = has.among })).1.same_one cuts other
      by (inr nobody) = refl

  pub plain_same_lift : (stamp : ℕ) (cuts other : ℕ → ℕ) → lift_of (plain_pair stamp cuts).commit ≡ lift_of (plain_pair stamp other).commit
  unfolding plain_pair
  plain_same_lift stamp cuts other = by (in_lists at.fsyncs stamp)
    where
      by : (found : HasStamp at.fsyncs stamp
          ⊎ ((core : ℕ) (fsyncs : List FlushTold) (one : FlushTold) → slice_get at.fsyncs core ≡ Some fsyncs → IsOneOf fsyncs one → one.flush.stamp ≢ stamp))
          → lift_of (plain_by stamp found cuts).commit ≡ lift_of (plain_by stamp found other).commit
      by (inl has) = (has_plain has.one (record { core = has.core; fsyncs = has.fsyncs; there = has.there; among = has.among })).1.same_lift cuts other
      by (inr nobody) = refl

  -- it is of that
  pub plain_is : (one : FlushTold) → IsFsyncAt at one → IsPlainFor at one (plain_pair one.flush.stamp)
  unfolding plain_pair
  plain_is one there = by (in_lists at.fsyncs one.flush.stamp)
    where
      by : (found : HasStamp at.fsyncs one.flush.stamp
          ⊎ ((core : ℕ) (fsyncs : List FlushTold) (other : FlushTold) → slice_get at.fsyncs core ≡ Some fsyncs → IsOneOf fsyncs other
          → other.flush.stamp ≢ one.flush.stamp))
          → IsPlainFor at one (plain_by one.flush.stamp found)
      by (inl has) =
          let place : IsFsyncAt at has.one = record { core = has.core; fsyncs = has.fsyncs; there = has.there; among = has.among } in
          subst (λ o. IsPlainFor at o (has_plain has.one place).0) (same_fsync D at ends has.one one place there has.is) (has_plain has.one place).1
      by (inr nobody) = absurd (nobody there.core there.fsyncs one there.there there.among refl)
