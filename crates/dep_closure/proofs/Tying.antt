-- What a look has of a directory, of a node's birth and of its namings, is what was gathered of them.
use Rattle.std.proofs.Common.{◌≡◌, ℕ, ◌<◌, ◌≤◌, Bool, true, false, cond, List, [], map, filter, Option, Some, None, ◌↔◌, refl, sym, ap, ◌∙◌, subst, arith, nat_eq, nat_lt, nat_le}
use Rattle.std.specs.Prelude.{All, ◌&&◌, ◌||◌, not, option_map}
use Rattle.std.specs.List.{find}
use Rattle.std.specs.Option.{option_map_or}
use Rattle.std.specs.Ordering.{nat_cmp}
use Rattle.std.specs.BTreeSet.{BTreeSet, contains}
use borrow.Author.Tests.{eqb-true, ltb-true, leb-true}
use Rattle.std.proofs.lemmas.Bool.Decides.{nat_tests}
use Rattle.std.proofs.lemmas.List.Elements.{All-filter}
use Rattle.sfs_base.specs.declared.numbers.NodeId.{NodeId}
use Rattle.sfs_base.specs.declared.numbers.Stamp.{Stamp}
use Rattle.sfs_base.specs.Listed.{is_listed}
use Rattle.sfs_base.proofs.BasicTruth.{and_first, and_second, and_false}
use Rattle.sfs_base.proofs.BasicOptions.{some_same, none_some}
use Rattle.tree_laws.specs.declared.changes.Change.{Change}
use Rattle.tree_laws.specs.Logged.{erased}
use Rattle.tree_laws.specs.NameRow.{node_number, number_of}
use Rattle.cut_laws.specs.Rules.{IsOneOf}
use Rattle.cut_laws.specs.Elements.{OfSome}
use Rattle.cut_laws.proofs.Listed.{from_map, to_map}
use Rattle.look_laws.specs.Look.{Noted, Born, Look, InSight, SeesNaming}
use Rattle.cut_laws.proofs.RunFacts.{found_in, in_filter}
use Rattle.dep_closure.specs.declared.gathered.DirectoryChanges.{DirectoryChanges}
use Rattle.mem_cells.specs.Log.{is_from}
use Rattle.dep_closure.specs.declared.gathered.NodeCut.{NodeCut}
use Rattle.dep_closure.specs.declared.gathered.NodeBirth.{NodeBirth}
use Rattle.dep_closure.specs.declared.gathered.Gathered.{Gathered}
use Rattle.dep_closure.specs.Brought.{ChangeBrings, SpanBrings, BirthBrings, AreOfOneDirectory, birthplace_due}
use Rattle.dep_closure.specs.Gathered.{look_of, noted_as, noted_in, born_as, cut_in, log_directory, birth_node, span_in, IsOwnLog, IsOrderly, IsNamedByLog}
use Rattle.dep_closure.specs.Spans.{is_in_span, is_of_stamp}
use Rattle.cut_laws.proofs.Listed.{to_filter}
use Rattle.dep_closure.proofs.Looked.{from_flat, to_flat, one_of_all, only_one}
use Rattle.dep_closure.proofs.Parts.{pass_both}

-- a change of a span is noted as it is by the whole log
pub noted_alike : (changes : List Change) (from below : ℕ) (change : Change) → is_in_span from below change ≡ true
    → noted_as (filter (is_in_span from below) changes) change ≡ noted_as changes change
noted_alike changes from below change between =
    let same : filter (is_of_stamp change.stamp.0) (filter (is_in_span from below) changes) ≡ filter (is_of_stamp change.stamp.0) changes =
    pass_both (is_in_span from below) (is_of_stamp change.stamp.0) (is_of_stamp change.stamp.0) asks changes in
    ap (λ l. record { change = erased l change; above = change.above }) same
  where
    asks : (x : Change) → is_of_stamp change.stamp.0 x ≡ (is_in_span from below x && is_of_stamp change.stamp.0 x)
    asks x = elim (nat_eq x.stamp.0 change.stamp.0) as (λ b. nat_eq x.stamp.0 change.stamp.0 ≡ b → b ≡ (is_in_span from below x && b)) [
      | true ↦ λ same. sym (ap (λ b. b && true) (subst (λ s. (nat_le from s && nat_lt s below) ≡ true) (sym (eqb-true x.stamp.0 change.stamp.0 same)) between))
      | false ↦ λ other. sym (and_false (is_in_span from below x))
    ] refl

-- the changes of a span are of one directory
pub span_own : (changes : List Change) (directory : ℕ) (test : Change → Bool) → All (λ change. change.dir.0 ≡ directory) changes
    → AreOfOneDirectory (filter test changes)
span_own changes directory test own =
    let all : All (λ change. change.dir.0 ≡ directory) (filter test changes) = All-filter test (λ change. change.dir.0 ≡ directory) changes own in
    λ k d inside j e within. all j e within ∙ sym (all k d inside)

both_true : (f s b : ℕ) → f ≤ s → s < b → (nat_le f s && nat_lt s b) ≡ true
both_true f s b from under = grind (arith, nat_tests)

-- A gathered change in a directory's span names a node.
pub record IsSightOf (look : Look) (directory node : ℕ) : Type 0 where
  pub noted : Noted
  pub in_sight : InSight look noted
  pub own : noted.change.directory ≡ directory
  pub child : noted.change.child ≡ node

module _ (gathered : Gathered) (orderly : IsOrderly gathered) (start : NodeId) (below : Stamp) where
  abbrev look : Look
  look = look_of start below gathered

  -- a change of a gathered log is noted
  noted_one : (log : DirectoryChanges) (change : Change) → IsOneOf gathered.logs.items log → IsOneOf log.changes.items change
      → IsOneOf look.noted (noted_as log.changes.items change)
  noted_one log change one own =
      to_flat noted_in gathered.logs.items log (noted_as log.changes.items change) one (to_map (noted_as log.changes.items) log.changes.items change own)

  own_directory : (log : DirectoryChanges) (change : Change) → IsOneOf gathered.logs.items log → IsOneOf log.changes.items change → change.dir.0 ≡ log.dir.0
  own_directory log change one own =
      one_of_all (λ other. other.dir.0 ≡ log.dir.0) log.changes.items change (one_of_all IsOwnLog gathered.logs.items log orderly.own_logs one).own own

  -- what a log names is seen
  pub seen_named : (cut : ℕ → ℕ) (node : ℕ) → OfSome gathered.logs.items (IsNamedByLog cut) node → SeesNaming look cut node
  seen_named cut node (log, one, names) = record {
    noted = noted_as log.changes.items names.change;
    is_noted = noted_one log names.change one names.is_logged;
    child = names.child;
    unflushed = subst (λ d. cut d ≤ names.change.stamp.0) (sym (own_directory log names.change one names.is_logged)) names.unflushed;
  }

  pub named_seen : (cut : ℕ → ℕ) (node : ℕ) → SeesNaming look cut node → OfSome gathered.logs.items (IsNamedByLog cut) node
  named_seen cut node sees =
      let in_log = from_flat noted_in gathered.logs.items sees.noted sees.is_noted in
      let logged = from_map (noted_as in_log.0.changes.items) in_log.0.changes.items sees.noted in_log.2 in
      let is : noted_as in_log.0.changes.items logged.0 ≡ sees.noted = logged.2 in (
        in_log.0,
        in_log.1,
        record {
          change = logged.0;
          is_logged = logged.1;
          child = ap (λ (noted : Noted). noted.change.child) is ∙ sees.child;
          unflushed =
              subst (λ d. cut d ≤ logged.0.stamp.0) (own_directory in_log.0 logged.0 in_log.1 logged.1)
              (subst (λ (noted : Noted). cut noted.change.directory ≤ noted.change.stamp) (sym is) sees.unflushed);
        },
      )

  module _ (node : ℕ) where
    -- what a span's change brings in, the member brings in
    pub span_there : (log : DirectoryChanges) (other : ℕ) → find (λ one. nat_eq (log_directory one) node) gathered.logs.items ≡ Some log
        → OfSome (filter (is_in_span (cut_in gathered.cuts.items node) below.0) log.changes.items)
        (λ change. ChangeBrings (noted_as (filter (is_in_span (cut_in gathered.cuts.items node) below.0) log.changes.items) change)) other
        → SpanBrings look node other
    span_there log other found (change, among, brings) =
        let there = found_in (λ one. nat_eq (log_directory one) node) gathered.logs.items log found in
        let logged = in_filter (is_in_span (cut_in gathered.cuts.items node) below.0) log.changes.items change among in
        let own : change.dir.0 ≡ node = own_directory log change there.0 logged.0 ∙ eqb-true (log_directory log) node there.1 in
        record {
          noted = noted_as log.changes.items change;
          in_sight = record {
            is_noted = noted_one log change there.0 logged.0;
            from =
                subst (λ d. cut_in gathered.cuts.items d ≤ change.stamp.0) (sym own)
                (leb-true _ _ (and_first (nat_le (cut_in gathered.cuts.items node) change.stamp.0) (nat_lt change.stamp.0 below.0) logged.1));
            below = ltb-true _ _ (and_second (nat_le (cut_in gathered.cuts.items node) change.stamp.0) (nat_lt change.stamp.0 below.0) logged.1);
          };
          own = own;
          brings = subst (λ noted. ChangeBrings noted other) (noted_alike log.changes.items (cut_in gathered.cuts.items node) below.0 change logged.1) brings;
        }

    -- and the log with a change in sight is that of its directory
    log_of_sight : (noted : Noted) → InSight look noted → noted.change.directory ≡ node
        → (log : DirectoryChanges) × (find (λ one. nat_eq (log_directory one) node) gathered.logs.items ≡ Some log)
        × ((change : Change) × IsOneOf log.changes.items change × (noted_as log.changes.items change ≡ noted))
    log_of_sight noted in_sight is_own =
        let in_log = from_flat noted_in gathered.logs.items noted in_sight.is_noted in
        let logged = from_map (noted_as in_log.0.changes.items) in_log.0.changes.items noted in_log.2 in
        let own : log_directory in_log.0 ≡ node =
        sym (own_directory in_log.0 logged.0 in_log.1 logged.1) ∙ ap (λ (one : Noted). one.change.directory) logged.2 ∙ is_own in (
          in_log.0,
          only_one log_directory gathered.logs.items orderly.logs node in_log.0 in_log.1 own,
          logged,
        )

    pub span_back : (log : DirectoryChanges) (other : ℕ) → find (λ one. nat_eq (log_directory one) node) gathered.logs.items ≡ Some log
        → SpanBrings look node other
        → OfSome (filter (is_in_span (cut_in gathered.cuts.items node) below.0) log.changes.items)
        (λ change. ChangeBrings (noted_as (filter (is_in_span (cut_in gathered.cuts.items node) below.0) log.changes.items) change)) other
    span_back log other found brings =
        let sight = log_of_sight brings.noted brings.in_sight brings.own in
        let same : sight.0 ≡ log = some_same (sym sight.1 ∙ found) in
        let logged =
        subst (λ (l : DirectoryChanges). (change : Change) × IsOneOf l.changes.items change × (noted_as l.changes.items change ≡ brings.noted)) same
        sight.2 in
        let change = logged.0 in
        let is : noted_as log.changes.items change ≡ brings.noted = logged.2 in
        let from : cut_in gathered.cuts.items node ≤ change.stamp.0 =
        subst (λ n. n ≤ change.stamp.0) (ap (cut_in gathered.cuts.items) (ap (λ (noted : Noted). noted.change.directory) is ∙ brings.own))
        (subst (λ (noted : Noted). cut_in gathered.cuts.items noted.change.directory ≤ noted.change.stamp) (sym is) brings.in_sight.from) in
        let under : change.stamp.0 < below.0 = subst (λ (noted : Noted). noted.change.stamp < below.0) (sym is) brings.in_sight.below in
        let between : is_in_span (cut_in gathered.cuts.items node) below.0 change ≡ true =
        both_true (cut_in gathered.cuts.items node) change.stamp.0 below.0 from under in (
          change,
          to_filter (is_in_span (cut_in gathered.cuts.items node) below.0) log.changes.items change logged.1 between,
          subst (λ noted. ChangeBrings noted other)
              (sym is ∙ sym (noted_alike log.changes.items (cut_in gathered.cuts.items node) below.0 change between)) brings.brings,
        )

    -- a change of a span is in sight, and one in sight is a change of its directory's span
    pub sight_there : (change : Change) → IsOneOf (span_in gathered below node) change → IsSightOf look node change.child.0
    sight_there change among = by (find (λ one. nat_eq (log_directory one) node) gathered.logs.items) refl among
      where
        by : (o : Option DirectoryChanges) → find (λ one. nat_eq (log_directory one) node) gathered.logs.items ≡ o
            → IsOneOf (filter (is_in_span (cut_in gathered.cuts.items node) below.0) (option_map_or (λ log. log.changes.items) o [])) change
            → IsSightOf look node change.child.0
        by None is one = absurd one
        by (Some log) found one =
            let there = found_in (λ one. nat_eq (log_directory one) node) gathered.logs.items log found in
            let logged = in_filter (is_in_span (cut_in gathered.cuts.items node) below.0) log.changes.items change one in
            let own : change.dir.0 ≡ node = own_directory log change there.0 logged.0 ∙ eqb-true (log_directory log) node there.1 in
            record {
              noted = noted_as log.changes.items change;
              in_sight = record {
                is_noted = noted_one log change there.0 logged.0;
                from =
                    subst (λ d. cut_in gathered.cuts.items d ≤ change.stamp.0) (sym own)
                    (leb-true _ _ (and_first (nat_le (cut_in gathered.cuts.items node) change.stamp.0) (nat_lt change.stamp.0 below.0) logged.1));
                below = ltb-true _ _ (and_second (nat_le (cut_in gathered.cuts.items node) change.stamp.0) (nat_lt change.stamp.0 below.0) logged.1);
              };
              own = own;
              child = refl;
            }

    pub sight_back : (child : ℕ) → IsSightOf look node child → (change : Change) × IsOneOf (span_in gathered below node) change × (change.child.0 ≡ child)
    sight_back child sight =
        let in_log = log_of_sight sight.noted sight.in_sight sight.own in
        let log = in_log.0 in
        let change = in_log.2.0 in
        let is : noted_as log.changes.items change ≡ sight.noted = in_log.2.2 in
        let from : cut_in gathered.cuts.items node ≤ change.stamp.0 =
        subst (λ n. n ≤ change.stamp.0) (ap (cut_in gathered.cuts.items) (ap (λ (noted : Noted). noted.change.directory) is ∙ sight.own))
        (subst (λ (noted : Noted). cut_in gathered.cuts.items noted.change.directory ≤ noted.change.stamp) (sym is) sight.in_sight.from) in
        let under : change.stamp.0 < below.0 = subst (λ (noted : Noted). noted.change.stamp < below.0) (sym is) sight.in_sight.below in
        let between : is_in_span (cut_in gathered.cuts.items node) below.0 change ≡ true =
        both_true (cut_in gathered.cuts.items node) change.stamp.0 below.0 from under in (
          change,
          subst (λ (o : Option DirectoryChanges). IsOneOf
              (filter (is_in_span (cut_in gathered.cuts.items node) below.0) (option_map_or (λ log. log.changes.items) o [])) change)
              (sym in_log.1) (to_filter (is_in_span (cut_in gathered.cuts.items node) below.0) log.changes.items change in_log.2.1 between),
          ap (λ (noted : Noted). noted.change.child) is ∙ sight.child,
        )

    pub span_none : (other : ℕ) → find (λ one. nat_eq (log_directory one) node) gathered.logs.items ≡ None → SpanBrings look node other → ⊥
    span_none other none brings = let sight = log_of_sight brings.noted brings.in_sight brings.own in none_some (sym none ∙ sight.1)

  -- where a node was made is what it brings in by its birth
  module _ (named : BTreeSet ℕ) (node : ℕ) (seen : (contains nat_cmp named node ≡ true) ↔ SeesNaming look look.cut node) where
    pub birth_there : (other : ℕ) → number_of (birthplace_due gathered named node) ≡ Some other → BirthBrings look node other
    birth_there other due =
        by (is_listed (map node_number gathered.inodes.items) node) (contains nat_cmp named node)
        (find (λ one. nat_eq (birth_node one) node) gathered.births.items) refl refl refl due
      where
        by : (listed has : Bool) (birth : Option NodeBirth) → is_listed (map node_number gathered.inodes.items) node ≡ listed
            → contains nat_cmp named node ≡ has → find (λ one. nat_eq (birth_node one) node) gathered.births.items ≡ birth
            → number_of (cond (listed || not has) None (option_map (λ b. b.dir) birth)) ≡ Some other → BirthBrings look node other
        by true has birth listed_is has_is birth_is e = absurd (none_some e)
        by false false birth listed_is has_is birth_is e = absurd (none_some e)
        by false true None listed_is has_is birth_is e = absurd (none_some e)
        by false true (Some birth) listed_is has_is birth_is e =
            let there = found_in (λ one. nat_eq (birth_node one) node) gathered.births.items birth birth_is in
            let own : birth.node.0 ≡ node = eqb-true (birth_node birth) node there.1 in
            let place : birth.dir.0 ≡ other = some_same e in
            record {
              born = subst (IsOneOf look.born) (λ i. record { node = own i; directory = place i }) (to_map born_as gathered.births.items birth there.0);
              no_inode = listed_is;
              naming = seen.0 has_is;
            }

    pub birth_back : (other : ℕ) → BirthBrings look node other → number_of (birthplace_due gathered named node) ≡ Some other
    birth_back other brings =
        let birth = from_map born_as gathered.births.items (record { node = node; directory = other }) brings.born in
        let own : birth_node birth.0 ≡ node = ap (λ (born : Born). born.node) birth.2 in
        let found = only_one birth_node gathered.births.items orderly.births node birth.0 birth.1 own in
        ap (λ b. number_of
        (cond (b || not (contains nat_cmp named node)) None
        (option_map (λ one. one.dir) (find (λ one. nat_eq (birth_node one) node) gathered.births.items))))
        brings.no_inode
        ∙ ap (λ b. number_of (cond (not b) None (option_map (λ one. one.dir) (find (λ one. nat_eq (birth_node one) node) gathered.births.items))))
        (seen.1 brings.naming)
        ∙ ap (λ one. number_of (option_map (λ (b : NodeBirth). b.dir) one)) found
        ∙ ap (λ (born : Born). Some born.directory) birth.2

-- what a log names from its directory's cut on
pub named_from : (cut : ℕ → ℕ) (log : DirectoryChanges) (from : ℕ) → from ≡ cut log.dir.0 → (node : ℕ)
    → OfSome (filter (is_from from) log.changes.items) (λ change other. change.child.0 ≡ other) node → IsNamedByLog cut log node
named_from cut log from is node (change, among, child) =
    let own = in_filter (is_from from) log.changes.items change among in
    record { change = change; is_logged = own.0; child = child; unflushed = subst (λ n. n ≤ change.stamp.0) is (leb-true _ _ own.1) }

pub from_named : (cut : ℕ → ℕ) (log : DirectoryChanges) (from : ℕ) → from ≡ cut log.dir.0 → (node : ℕ) → IsNamedByLog cut log node
    → OfSome (filter (is_from from) log.changes.items) (λ change other. change.child.0 ≡ other) node
from_named cut log from is node names = (
  names.change,
  to_filter (is_from from) log.changes.items names.change names.is_logged
      (let high = subst (λ n. n ≤ names.change.stamp.0) (sym is) names.unflushed in grind (arith, nat_tests)),
  names.child,
)
