-- How the last commits of nodes go on to fit.
use Rattle.std.specs.Prelude.{is_some, map}
use Rattle.std.proofs.Common.{◌≡◌, ◌≢◌, ◌⊎◌, ◌+◌, ◌≤◌, ◌∷◌, ◌++◌, ◌∙◌, ℕ, Bool, true, false, cond, List, [], Option, Some, None, inl, inr, refl, sym, ap, subst, arith, nat_eq}
use Rattle.sfs_base.proofs.BasicNumbers.{same_number, not_same}
use Rattle.sfs_base.proofs.BasicTruth.{not_both, true_or_false, true_not_false}
use Rattle.space_map.specs.Space.{GrantedNumbers}
use Rattle.cut_laws.specs.Rules.{IsOneOf}
use Rattle.cut_laws.proofs.Basics.{in_left, in_right, in_either}
use Rattle.cut_laws.proofs.Listed.{from_map, to_map}
use Rattle.merge_laws.proofs.Blocks.{same_or_not}
use Rattle.slot_laws.specs.declared.label.Seen.{Seen}
use Rattle.slot_laws.specs.Nodes.{LastCommit, last_ended, ReservedCommit, no_numbers, last_seen, concerns, reserved_lasts, ended_lasts, returned_last}
use Rattle.slot_laws.specs.Lasts.{NamesLast, held_by_none, held_last_by, IsOpenNode, LastsFit, AreNumberedOnce}
use Rattle.slot_laws.proofs.Numbered.{put_in, at_seam, last_or_before, SplitAt, once_more}

-- what was seen of a node that a commit concerns
pub seen_some : (o : Option ℕ) → is_some o ≡ true → (n : ℕ) × (o ≡ Some n)
seen_some None e = cc
seen_some (Some n) e = (n, refl)

some_seen : (o : Option ℕ) (n : ℕ) → o ≡ Some n → is_some o ≡ true
some_seen o n e = ap (λ (p : Option ℕ). is_some p) e

-- a number names the last commit of a node also once a commit has ended that does not concern it
names_more : (done : List ReservedCommit) (one : ReservedCommit) (node number : ℕ) → concerns one node ≡ false → NamesLast done node number
    → NamesLast (done ++ one ∷ []) node number
names_more done one node number away (held_by_none none nothing) =
    held_by_none
    (λ other among. elim (last_or_before done one other among) [
      | inl before ↦ none other before
      | inr same ↦ subst (λ (c : ReservedCommit). concerns c node ≡ false) same away
    ])
    nothing
names_more done one node number away (held_last_by commit is named) =
    held_last_by commit
    (record {
      among = in_left done (one ∷ []) commit is.among;
      held = is.held;
      latest = λ other among held. elim (last_or_before done one other among) [
        | inl before ↦ is.latest other before held
        | inr same ↦ absurd (not_both held (subst (λ (c : ReservedCommit). concerns c node ≡ false) same away))
      ];
    })
    named

-- commits that are told anew, each with its number, have numbers of their own
changed_once : (change : ReservedCommit → ReservedCommit) → ((one : ReservedCommit) → (change one).number ≡ one.number) → (commits : List ReservedCommit)
    → AreNumberedOnce commits → AreNumberedOnce (map change commits)
changed_once change stays [] once = tt
changed_once change stays (one ∷ rest) once = (
  (λ other among e.
      let was = from_map change rest other among in
      once.0 was.0 was.1 (sym (stays was.0) ∙ ap (λ (c : ReservedCommit). c.number) was.2 ∙ e ∙ stays one)),
  changed_once change stays rest once.1,
)

module _ (lasts : ℕ → LastCommit) (opens done : List ReservedCommit) (commits : ℕ) (fits : LastsFit lasts opens done commits) where
  -- two open commits with other numbers concern no node both
  pub apart_by_number : (one other : ReservedCommit) (node : ℕ) → IsOneOf opens one → IsOneOf opens other → one.number ≢ other.number
      → concerns one node ≡ true → concerns other node ≡ false
  apart_by_number one other node among there apart held = elim (true_or_false (concerns other node)) [
    | inr away ↦ away
    | inl too ↦
        absurd
        (apart (ap (λ (l : LastCommit). l.number) (sym (fits.counts one node among held) ∙ fits.counts other node there too)))
  ]

  -- a node of an open commit has no last commit that has ended
  counts_not_ended : (one : ReservedCommit) (node : ℕ) → IsOneOf opens one → concerns one node ≡ true → (lasts node).ended ≡ false
  counts_not_ended one node among held = ap (λ (l : LastCommit). l.ended) (fits.counts one node among held)

  not_of_ended : (one : ReservedCommit) (node : ℕ) → IsOneOf opens one → (lasts node).ended ≡ true → concerns one node ≡ false
  not_of_ended one node among over = elim (true_or_false (concerns one node)) [
    | inr away ↦ away
    | inl held ↦ absurd (not_both over (counts_not_ended one node among held))
  ]

  -- a commit reserves
  module _ (number : ℕ) (seen : List Seen) (grant : GrantedNumbers) (next : number ≡ commits + 1)
      (unmoved : (node last : ℕ) → last_seen seen node ≡ Some last → lasts node ≡ last_ended last) where
    abbrev pub commit_new : ReservedCommit
    commit_new = record { number = number; seen = seen; grant = grant; gives_up = no_numbers }

    at_own : (node : ℕ) → is_some (last_seen seen node) ≡ true → reserved_lasts number seen lasts node ≡ record { number = number; ended = false }
    at_own node held = ap (λ (b : Bool). cond b (record { number = number; ended = false }) (lasts node)) held

    at_away : (node : ℕ) → is_some (last_seen seen node) ≡ false → reserved_lasts number seen lasts node ≡ lasts node
    at_away node away = ap (λ (b : Bool). cond b (record { number = number; ended = false }) (lasts node)) away

    -- no open commit concerns a node that was seen
    pub none_of_seen : (other : ReservedCommit) (node : ℕ) → IsOneOf opens other → is_some (last_seen seen node) ≡ true → concerns other node ≡ false
    none_of_seen other node among held =
        let last = seen_some (last_seen seen node) held in
        not_of_ended other node among (ap (λ (l : LastCommit). l.ended) (unmoved node last.0 last.1))

    away_from_open : (other : ReservedCommit) (node : ℕ) → IsOneOf opens other → concerns other node ≡ true → is_some (last_seen seen node) ≡ false
    away_from_open other node among held = elim (true_or_false (is_some (last_seen seen node))) [
      | inr away ↦ away
      | inl too ↦ absurd (not_both held (none_of_seen other node among too))
    ]

    pub names_seen : (node last : ℕ) → last_seen seen node ≡ Some last → NamesLast done node last
    names_seen node last is =
        let e = unmoved node last is in
        subst (NamesLast done node) (ap (λ (l : LastCommit). l.number) e) (fits.named node (ap (λ (l : LastCommit). l.ended) e))

    pub reserve_fits : LastsFit (reserved_lasts number seen lasts) (opens ++ commit_new ∷ []) done number
    reserve_fits = record {
      once = once_more opens commit_new fits.once (λ other among e. let low = fits.given other among in omega (arith, low, next, e));
      given = λ one among. elim (last_or_before opens commit_new one among) [
        | inl before ↦ let low = fits.given one before in omega (arith, low, next)
        | inr same ↦ let e = ap (λ (c : ReservedCommit). c.number) same in omega (arith, e)
      ];
      ended = λ one among. let low = fits.ended one among in omega (arith, low, next);
      counts = λ one node among held. elim (last_or_before opens commit_new one among) [
        | inl before ↦ at_away node (away_from_open one node before held) ∙ fits.counts one node before held
        | inr same ↦
            at_own node (subst (λ (c : ReservedCommit). concerns c node ≡ true) (sym same) held)
            ∙ ap (λ (c : ReservedCommit). record { number = c.number; ended = false }) same
      ];
      counted = λ node open_still. elim (true_or_false (is_some (last_seen seen node))) [
        | inl own ↦ record {
          commit = commit_new;
          among = at_seam opens [] commit_new;
          number_is = sym (ap (λ (l : LastCommit). l.number) (at_own node own));
          held = own;
        }
        | inr away ↦
            let was = fits.counted node (sym (ap (λ (l : LastCommit). l.ended) (at_away node away)) ∙ open_still) in
            record {
              commit = was.commit;
              among = in_left opens (commit_new ∷ []) was.commit was.among;
              number_is = was.number_is ∙ sym (ap (λ (l : LastCommit). l.number) (at_away node away));
              held = was.held;
            }
      ];
      knew = λ one node last among is. elim (last_or_before opens commit_new one among) [
        | inl before ↦ fits.knew one node last before is
        | inr same ↦ names_seen node last (subst (λ (c : ReservedCommit). last_seen c.seen node ≡ Some last) (sym same) is)
      ];
      named = λ node over. elim (true_or_false (is_some (last_seen seen node))) [
        | inl own ↦ absurd (not_both over (ap (λ (l : LastCommit). l.ended) (at_own node own)))
        | inr away ↦
            subst (λ (l : LastCommit). NamesLast done node l.number) (sym (at_away node away))
            (fits.named node (sym (ap (λ (l : LastCommit). l.ended) (at_away node away)) ∙ over))
      ];
      earlier = λ one other node among there held too. elim (last_or_before opens commit_new one among) [
        | inl before ↦ fits.earlier one other node before there held too
        | inr same ↦
            let e = ap (λ (c : ReservedCommit). c.number) same in
            let low = fits.ended other there in
            omega (arith, low, next, e)
      ];
    }

  -- the commits are told anew, each with its number and its nodes
  module _ (change : ReservedCommit → ReservedCommit) (number_stays : (one : ReservedCommit) → (change one).number ≡ one.number)
      (seen_stays : (one : ReservedCommit) → (change one).seen ≡ one.seen) where
    number_was : (was one : ReservedCommit) → change was ≡ one → one.number ≡ was.number
    number_was was one e = ap (λ (c : ReservedCommit). c.number) (sym e) ∙ number_stays was

    seen_was : (was one : ReservedCommit) → change was ≡ one → one.seen ≡ was.seen
    seen_was was one e = ap (λ (c : ReservedCommit). c.seen) (sym e) ∙ seen_stays was

    held_was : (was one : ReservedCommit) (node : ℕ) → change was ≡ one → concerns one node ≡ true → concerns was node ≡ true
    held_was was one node e held = subst (λ (seen : List Seen). is_some (last_seen seen node) ≡ true) (seen_was was one e) held

    pub changed_fits : LastsFit lasts (map change opens) done commits
    changed_fits = record {
      once = changed_once change number_stays opens fits.once;
      given = λ one among.
          let was = from_map change opens one among in
          let low = fits.given was.0 was.1 in
          omega (arith, low, number_was was.0 one was.2);
      ended = fits.ended;
      counts = λ one node among held.
          let was = from_map change opens one among in
          fits.counts was.0 node was.1 (held_was was.0 one node was.2 held)
          ∙ ap (λ (n : ℕ). record { number = n; ended = false }) (sym (number_was was.0 one was.2));
      counted = λ node still.
          let it = fits.counted node still in
          record {
            commit = change it.commit;
            among = to_map change opens it.commit it.among;
            number_is = number_stays it.commit ∙ it.number_is;
            held = subst (λ (seen : List Seen). is_some (last_seen seen node) ≡ true) (sym (seen_stays it.commit)) it.held;
          };
      knew = λ one node last among is.
          let was = from_map change opens one among in
          fits.knew was.0 node last was.1 (subst (λ (seen : List Seen). last_seen seen node ≡ Some last) (seen_was was.0 one was.2) is);
      named = fits.named;
      earlier = λ one other node among there held too.
          let was = from_map change opens one among in
          let low = fits.earlier was.0 other node was.1 there (held_was was.0 one node was.2 held) too in
          omega (arith, low, number_was was.0 one was.2);
    }

  -- one of the open commits is taken out
  module _ (number : ℕ) (split : SplitAt number opens) where
    was_open : (other : ReservedCommit) → IsOneOf (split.before ++ split.behind) other → IsOneOf opens other
    was_open other among =
        subst (λ (l : List ReservedCommit). IsOneOf l other) (sym split.whole) (put_in split.before split.behind split.one other among)

    own_open : IsOneOf opens split.one
    own_open = subst (λ (l : List ReservedCommit). IsOneOf l split.one) (sym split.whole) (at_seam split.before split.behind split.one)

    rest_or_own : (other : ReservedCommit) → IsOneOf opens other → IsOneOf (split.before ++ split.behind) other ⊎ (split.one ≡ other)
    rest_or_own other among =
        elim (in_either split.before (split.one ∷ split.behind) other (subst (λ (l : List ReservedCommit). IsOneOf l other) split.whole among)) [
          | inl left ↦ inl (in_left split.before split.behind other left)
          | inr right ↦ elim right [ inl same ↦ inr same | inr after ↦ inl (in_right split.before split.behind other after) ]
        ]

    -- it concerns no node of another
    away_from_rest : (other : ReservedCommit) (node : ℕ) → IsOneOf (split.before ++ split.behind) other → concerns other node ≡ true
        → concerns split.one node ≡ false
    away_from_rest other node among held =
        apart_by_number other split.one node (was_open other among) own_open (λ e. split.others other among (e ∙ split.number_is)) held

    at_end_own : (node : ℕ) → (lasts node).number ≡ number → ended_lasts number lasts node ≡ last_ended number
    at_end_own node same =
        ap (λ (b : Bool). cond b (last_ended number) (lasts node))
        (subst (λ (n : ℕ). nat_eq (lasts node).number n ≡ true) same (same_number (lasts node).number))

    at_end_away : (node : ℕ) → (lasts node).number ≢ number → ended_lasts number lasts node ≡ lasts node
    at_end_away node apart = ap (λ (b : Bool). cond b (last_ended number) (lasts node)) (not_same (lasts node).number number apart)

    -- a node whose last commit it is, and has not ended, is one of its nodes
    own_node : (node : ℕ) → (lasts node).number ≡ number → (lasts node).ended ≡ false → concerns split.one node ≡ true
    own_node node same still =
        let it = fits.counted node still in
        elim (rest_or_own it.commit it.among) [
          | inl other ↦ absurd (split.others it.commit other (it.number_is ∙ same))
          | inr own ↦ subst (λ (c : ReservedCommit). concerns c node ≡ true) (sym own) it.held
        ]

    names_end : (node : ℕ) → concerns split.one node ≡ true → NamesLast (done ++ split.one ∷ []) node number
    names_end node held =
        held_last_by split.one
        (record {
          among = at_seam done [] split.one;
          held = held;
          latest = λ other among too. elim (last_or_before done split.one other among) [
            | inl before ↦ let low = fits.earlier split.one other node own_open before held too in omega (arith, low)
            | inr same ↦ let e = ap (λ (c : ReservedCommit). c.number) same in omega (arith, e)
          ];
        })
        (sym split.number_is)

    end_counts : (other : ReservedCommit) (node : ℕ) → IsOneOf (split.before ++ split.behind) other → concerns other node ≡ true
        → ended_lasts number lasts node ≡ record { number = other.number; ended = false }
    end_counts other node among held =
        let is = fits.counts other node (was_open other among) held in
        at_end_away node (λ e. split.others other among (sym (ap (λ (l : LastCommit). l.number) is) ∙ e)) ∙ is

    end_named : (node : ℕ) → (ended_lasts number lasts node).ended ≡ true
        → NamesLast (done ++ split.one ∷ []) node (ended_lasts number lasts node).number
    end_named node over = elim (same_or_not (lasts node).number number) [
      | inl same ↦
          subst (λ (l : LastCommit). NamesLast (done ++ split.one ∷ []) node l.number) (sym (at_end_own node same))
          (elim (true_or_false (lasts node).ended) [
            | inr still ↦ names_end node (own_node node same still)
            | inl ended ↦
                names_more done split.one node number (not_of_ended split.one node own_open ended) (subst (NamesLast done node) same (fits.named node ended))
          ])
      | inr apart ↦
          let e = at_end_away node apart in
          let ended = sym (ap (λ (l : LastCommit). l.ended) e) ∙ over in
          subst (λ (l : LastCommit). NamesLast (done ++ split.one ∷ []) node l.number) (sym e)
          (names_more done split.one node (lasts node).number (not_of_ended split.one node own_open ended) (fits.named node ended))
    ]

    end_counted : (node : ℕ) → (ended_lasts number lasts node).ended ≡ false
        → IsOpenNode (split.before ++ split.behind) node (ended_lasts number lasts node).number
    end_counted node still = elim (same_or_not (lasts node).number number) [
      | inl same ↦ absurd (true_not_false (sym (ap (λ (l : LastCommit). l.ended) (at_end_own node same)) ∙ still))
      | inr apart ↦
          let e = at_end_away node apart in
          let it = fits.counted node (sym (ap (λ (l : LastCommit). l.ended) e) ∙ still) in
          record {
            commit = it.commit;
            among = elim (rest_or_own it.commit it.among) [
              | inl other ↦ other
              | inr own ↦ absurd (apart (sym it.number_is ∙ ap (λ (c : ReservedCommit). c.number) (sym own) ∙ split.number_is))
            ];
            number_is = it.number_is ∙ sym (ap (λ (l : LastCommit). l.number) e);
            held = it.held;
          }
    ]

    pub end_fits : LastsFit (ended_lasts number lasts) (split.before ++ split.behind) (done ++ split.one ∷ []) commits
    end_fits = record {
      once = split.still;
      given = λ other among. fits.given other (was_open other among);
      ended = λ other among. elim (last_or_before done split.one other among) [
        | inl before ↦ fits.ended other before
        | inr same ↦ subst (λ (c : ReservedCommit). c.number ≤ commits) same (fits.given split.one own_open)
      ];
      counts = end_counts;
      counted = end_counted;
      knew = λ other node last among is.
          names_more done split.one node last (away_from_rest other node among (some_seen (last_seen other.seen node) last is))
          (fits.knew other node last (was_open other among) is);
      named = end_named;
      earlier = λ one other node among there held too. elim (last_or_before done split.one other there) [
        | inl before ↦ fits.earlier one other node (was_open one among) before held too
        | inr same ↦ absurd (not_both (subst (λ (c : ReservedCommit). concerns c node ≡ true) (sym same) too) (away_from_rest one node among held))
      ];
    }

    -- it gives back
    abbrev pub lasts_back : ℕ → LastCommit
    lasts_back node = returned_last (last_seen split.one.seen node) (lasts node)

    at_back_away : (node : ℕ) → concerns split.one node ≡ false → lasts_back node ≡ lasts node
    at_back_away node away = by (last_seen split.one.seen node) refl
      where
        by : (o : Option ℕ) → last_seen split.one.seen node ≡ o → lasts_back node ≡ lasts node
        by None is = ap (λ (p : Option ℕ). returned_last p (lasts node)) is
        by (Some n) is = absurd (not_both (some_seen (last_seen split.one.seen node) n is) away)

    pub at_back_own : (node last : ℕ) → last_seen split.one.seen node ≡ Some last → lasts_back node ≡ last_ended last
    at_back_own node last is = ap (λ (p : Option ℕ). returned_last p (lasts node)) is

    pub back_fits : LastsFit lasts_back (split.before ++ split.behind) done commits
    back_fits = record {
      once = split.still;
      given = λ other among. fits.given other (was_open other among);
      ended = fits.ended;
      counts = λ other node among held.
          at_back_away node (away_from_rest other node among held) ∙ fits.counts other node (was_open other among) held;
      counted = λ node still. elim (true_or_false (concerns split.one node)) [
        | inl own ↦
            let last = seen_some (last_seen split.one.seen node) own in
            absurd (true_not_false (sym (ap (λ (l : LastCommit). l.ended) (at_back_own node last.0 last.1)) ∙ still))
        | inr away ↦
            let e = at_back_away node away in
            let it = fits.counted node (sym (ap (λ (l : LastCommit). l.ended) e) ∙ still) in
            record {
              commit = it.commit;
              among = elim (rest_or_own it.commit it.among) [
                | inl other ↦ other
                | inr own ↦ absurd (not_both (subst (λ (c : ReservedCommit). concerns c node ≡ true) (sym own) it.held) away)
              ];
              number_is = it.number_is ∙ sym (ap (λ (l : LastCommit). l.number) e);
              held = it.held;
            }
      ];
      knew = λ other node last among is. fits.knew other node last (was_open other among) is;
      named = λ node over. elim (true_or_false (concerns split.one node)) [
        | inl own ↦
            let last = seen_some (last_seen split.one.seen node) own in
            subst (λ (l : LastCommit). NamesLast done node l.number) (sym (at_back_own node last.0 last.1))
            (fits.knew split.one node last.0 own_open last.1)
        | inr away ↦
            let e = at_back_away node away in
            subst (λ (l : LastCommit). NamesLast done node l.number) (sym e) (fits.named node (sym (ap (λ (l : LastCommit). l.ended) e) ∙ over))
      ];
      earlier = λ one other node among there held too. fits.earlier one other node (was_open one among) there held too;
    }
