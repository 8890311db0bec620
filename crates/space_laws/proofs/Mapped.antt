-- Maps of free space stay right.
use Rattle.std.proofs.Common.{◌≡◌, ℕ, ◌<◌, ◌≤◌, Bool, true, false, cond, List, map, Option, Some, None, option_map, refl, sym, ap, ◌∙◌, leb, ltb, ◌&&◌, Contains, arith}
use Rattle.std.specs.Prelude.{◌↔◌, ◌≢◌}
use Rattle.std.proofs.lemmas.List.Elements.{All-contains}
use Rattle.std.proofs.lemmas.Bool.Decides.{nat_tests}
use Rattle.sfs_base.proofs.BasicOptions.{none_some, some_same}
use Rattle.sfs_base.specs.Listed.{is_listed}
use Rattle.sfs_image.specs.Super.{data_start}
use Rattle.space_map.specs.Pool.{Pool, status_of, first_status, BecomeAll}
use Rattle.space_map.specs.declared.status.Status.{Status}
use Rattle.space_map.specs.declared.status.Status.TheVariants.{Free, Taken, Granted}
use Rattle.disk_change.specs.GivenUp.{IsLeftByGone, entry_number}
use Rattle.commit_laws.proofs.SeatsOfPlan.{in_is_among, among_is_in}
use Rattle.space_map.proofs.Others.{free_now}
use Rattle.space_map.specs.Space.{AllGranted}
use Rattle.space_laws.specs.Laws.{FirstMapsAreRight, GrantsKeepMaps, ReturnsKeepMaps}
use Rattle.space_laws.specs.Map.{IsRowOf}

-- a row that begins with some numbers taken
begins_right : (first end : ℕ) (taken : List ℕ) (held : ℕ → Type 0) (pool : Pool) → ((number : ℕ) → status_of pool number ≡ first_status first end taken number)
    → ((number : ℕ) → Contains taken number ↔ held number) → IsRowOf first end held pool
begins_right first end taken held pool is listed = record {
  all = λ number low high.
      let test : (leb first number && ltb number end) ≡ true = grind (arith, nat_tests) in
      (cond (is_listed taken number) Taken Free, is number ∙ ap (λ b. cond b (Some (cond (is_listed taken number) Taken Free)) None) test);
  within = λ number status has. inside number status (leb first number && ltb number end) refl (sym (is number) ∙ has);
  held_is_taken =
      λ number status has holds. some_same (sym has ∙ is number ∙ by number holds status (leb first number && ltb number end) (sym (is number) ∙ has));
  taken_is_held = λ number has. (listed number).0 (found number (leb first number && ltb number end) (is_listed taken number) refl (sym (is number) ∙ has));
}
  where
    inside : (number : ℕ) (status : Status) (b : Bool) → (leb first number && ltb number end) ≡ b
        → cond b (Some (cond (is_listed taken number) Taken Free)) None ≡ Some status → (first ≤ number) × (number < end)
    inside number status true test has = grind (arith, nat_tests)
    inside number status false test has = absurd (none_some has)

    by : (number : ℕ) → held number → (status : Status) (b : Bool) → cond b (Some (cond (is_listed taken number) Taken Free)) None ≡ Some status
        → cond b (Some (cond (is_listed taken number) Taken Free)) None ≡ Some Taken
    by number holds status true has = ap (λ c. Some (cond c Taken Free)) (in_is_among taken number ((listed number).1 holds))
    by number holds status false has = absurd (none_some has)

    found : (number : ℕ) (b c : Bool) → is_listed taken number ≡ c → cond b (Some (cond c Taken Free)) None ≡ Some Taken → Contains taken number
    found number true true t has = among_is_in taken number t
    found number true false t has = absurd (let never : Free ≡ Taken = some_same has in cc)
    found number false c t has = absurd (none_some has)

pub first_maps_are_right : FirstMapsAreRight
first_maps_are_right layout entries held space held_is blocks inodes = record {
  blocks = begins_right (data_start layout) layout.blocks held (IsLeftByGone entries) space.blocks blocks held_is;
  inodes =
      begins_right 0 layout.inodes (map entry_number entries) (Contains (map entry_number entries)) space.inodes inodes (λ number. ((λ is. is), (λ is. is)));
}

-- a row in which numbers that are not taken get another status, which is not Taken
module _ (first end : ℕ) (held : ℕ → Type 0) (old new : Pool) (numbers : List ℕ) (was to : Status) (row : IsRowOf first end held old)
    (none_taken : was ≢ Taken) (none_becomes : to ≢ Taken) (from : (number : ℕ) → is_listed numbers number ≡ true → status_of old number ≡ Some was)
    (become : BecomeAll to numbers old new) where
  kept : (number : ℕ) (status : Status) → status_of new number ≡ Some status → (before : Status) × (status_of old number ≡ Some before)
  kept number status has = by (is_listed numbers number) (status_of old number) refl (sym (become number) ∙ has)
    where
      by : (b : Bool) (o : Option Status) → status_of old number ≡ o → cond b (option_map (λ _. to) o) o ≡ Some status
          → (before : Status) × (status_of old number ≡ Some before)
      by b (Some before) e is = (before, e)
      by true None e is = absurd (none_some is)
      by false None e is = absurd (none_some is)

  stays_right : IsRowOf first end held new
  stays_right = record {
    all = λ number low high. let there = row.all number low high in (
      cond (is_listed numbers number) to there.0,
      become number ∙ ap (λ o. cond (is_listed numbers number) (option_map (λ _. to) o) o) there.1
          ∙ by (is_listed numbers number) there.0,
    );
    within = λ number status has. let before = kept number status has in row.within number before.0 before.1;
    held_is_taken = λ number status has holds. taken number status holds (is_listed numbers number) refl (sym (become number) ∙ has);
    taken_is_held = λ number has. row.taken_is_held number (left number (is_listed numbers number) refl (sym (become number) ∙ has));
  }
    where
      by : (b : Bool) (status : Status) → cond b (option_map (λ _. to) (Some status)) (Some status) ≡ Some (cond b to status)
      by true status = refl
      by false status = refl

      taken : (number : ℕ) (status : Status) → held number → (b : Bool) → is_listed numbers number ≡ b
          → cond b (option_map (λ _. to) (status_of old number)) (status_of old number) ≡ Some status → status ≡ Taken
      taken number status holds true t is = absurd (none_taken (row.held_is_taken number was (from number t) holds))
      taken number status holds false t is = row.held_is_taken number status is holds

      left : (number : ℕ) (b : Bool) → is_listed numbers number ≡ b → cond b (option_map (λ _. to) (status_of old number)) (status_of old number) ≡ Some Taken
          → status_of old number ≡ Some Taken
      left number true t is =
          let there : option_map (λ (_ : Status). to) (status_of old number) ≡ Some to = ap (option_map (λ _. to)) (from number t) in
          absurd (none_becomes (some_same (sym there ∙ is)))
      left number false t is = is

free_not_taken : Free ≢ Taken
free_not_taken e = cc

granted_not_taken : Granted ≢ Taken
granted_not_taken e = cc

pub grants_keep_maps : GrantsKeepMaps
grants_keep_maps layout entries plan old new grant mapped granted = record {
  blocks =
      stays_right (data_start layout) layout.blocks
      (IsLeftByGone entries) old.blocks new.blocks grant.blocks Free Granted mapped.blocks free_not_taken granted_not_taken
      (λ number t. free_now old.blocks _ grant.blocks new.blocks number granted.blocks t) granted.blocks.granted;
  inodes =
      stays_right 0 layout.inodes
      (Contains (map entry_number entries)) old.inodes new.inodes grant.inodes Free Granted mapped.inodes free_not_taken granted_not_taken
      (λ number t. free_now old.inodes _ grant.inodes new.inodes number granted.inodes t) granted.inodes.granted;
}

-- each listed number of a list that is granted is
granted_now : (pool : Pool) (numbers : List ℕ) (number : ℕ) → AllGranted pool numbers → is_listed numbers number ≡ true → status_of pool number ≡ Some Granted
granted_now pool numbers number all t = All-contains (λ n. status_of pool n ≡ Some Granted) numbers number all (among_is_in numbers number t)

pub returns_keep_maps : ReturnsKeepMaps
returns_keep_maps layout entries old new grant mapped returned = record {
  blocks =
      stays_right (data_start layout) layout.blocks
      (IsLeftByGone entries) old.blocks new.blocks grant.blocks Granted Free mapped.blocks granted_not_taken free_not_taken
      (λ number t. granted_now old.blocks grant.blocks number returned.granted_blocks t) returned.blocks;
  inodes =
      stays_right 0 layout.inodes
      (Contains (map entry_number entries)) old.inodes new.inodes grant.inodes Granted Free mapped.inodes granted_not_taken free_not_taken
      (λ number t. granted_now old.inodes grant.inodes number returned.granted_inodes t) returned.inodes;
}
