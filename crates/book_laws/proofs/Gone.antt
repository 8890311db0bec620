-- Grants go out of a map, and come back or end.
use Rattle.std.proofs.Common.{◌≡◌, ◌≢◌, ℕ, Bool, true, false, cond, List, [], ◌∷◌, ◌++◌, Option, Some, None, option_map, sym, ap, subst, ◌∙◌}
use Rattle.std.specs.Prelude.{◌↔◌}
use Rattle.std.proofs.lemmas.Grind.{flat_map-append}
use Rattle.std.proofs.lemmas.List.{append-nil}
use Rattle.sfs_base.proofs.BasicOptions.{none_some, some_same}
use Rattle.sfs_base.specs.Listed.{is_listed}
use Rattle.space_map.specs.Pool.{Pool, status_of, released, BecomeAll, Ends}
use Rattle.space_map.specs.Space.{Space}
use Rattle.space_map.specs.declared.status.Status.{Status}
use Rattle.space_map.specs.declared.status.Status.TheVariants.{Free, Taken, Granted}
use Rattle.space_laws.proofs.Mapped.{grants_keep_maps, returns_keep_maps}
use Rattle.book_laws.specs.MapLaws.{GrantsGoOut, GrantsComeBack, GrantsEnd}
use Rattle.book_laws.specs.Out.{GrantOut, inodes_out, blocks_out, ListsGranted, AreOut}
use Rattle.book_laws.proofs.Lists.{granted_listed, LeaveGranted, left_listed}

-- what is out beside one more
pub inodes_more : (outs : List GrantOut) (out : GrantOut) → inodes_out (outs ++ out ∷ []) ≡ inodes_out outs ++ out.numbers.inodes
inodes_more outs out =
    flat_map-append (λ (one : GrantOut). one.numbers.inodes) outs (out ∷ []) ∙ ap (λ rest. inodes_out outs ++ rest) (append-nil out.numbers.inodes)

pub blocks_more : (outs : List GrantOut) (out : GrantOut) → blocks_out (outs ++ out ∷ []) ≡ blocks_out outs ++ out.numbers.blocks
blocks_more outs out =
    flat_map-append (λ (one : GrantOut). one.numbers.blocks) outs (out ∷ []) ∙ ap (λ rest. blocks_out outs ++ rest) (append-nil out.numbers.blocks)

pub grants_go_out : GrantsGoOut
grants_go_out beside old new plan out is granted = record {
  stands = is.stands;
  keeps = is.keeps;
  right = grants_keep_maps beside.volume.layout beside.entries plan old new out.numbers is.right granted;
  are_out = record {
    inodes =
        subst (ListsGranted new.inodes) (sym (inodes_more beside.outs out))
        (granted_listed old.inodes new.inodes _ out.numbers.inodes (inodes_out beside.outs) granted.inodes is.are_out.inodes);
    blocks =
        subst (ListsGranted new.blocks) (sym (blocks_more beside.outs out))
        (granted_listed old.blocks new.blocks _ out.numbers.blocks (blocks_out beside.outs) granted.blocks is.are_out.blocks);
  };
}

-- a status that each listed number gets is none of a granted one
becomes : (o : Option Status) (status : Status) → status ≢ Granted → option_map (λ _. status) o ≢ Some Granted
becomes None status other is = none_some is
becomes (Some was) status other is = other (some_same is)

free_not_granted : Free ≢ Granted
free_not_granted e = cc

taken_not_granted : Taken ≢ Granted
taken_not_granted e = cc

leave_returned : (old new : Pool) (numbers : List ℕ) → BecomeAll Free numbers old new → LeaveGranted old new numbers
leave_returned old new numbers become = record {
  gone = λ n t has. becomes (status_of old n) Free free_not_granted (sym (now n true t) ∙ has);
  others = λ n f. ((λ has. sym (now n false f) ∙ has), (λ has. now n false f ∙ has));
}
  where
    now : (n : ℕ) (c : Bool) → is_listed numbers n ≡ c → status_of new n ≡ cond c (option_map (λ _. Free) (status_of old n)) (status_of old n)
    now n c listed = become n ∙ ap (λ b. cond b (option_map (λ _. Free) (status_of old n)) (status_of old n)) listed

-- what is released was granted exactly where it still is
release_keeps : (b : Bool) (o : Option Status) → (cond b (option_map released o) o ≡ Some Granted) ↔ (o ≡ Some Granted)
release_keeps true (Some Free) = ((λ is. is), (λ is. is))
release_keeps true (Some Granted) = ((λ is. is), (λ is. is))
release_keeps true (Some Taken) = (
  (λ is. absurd (free_not_granted (some_same is))),
  (λ is. absurd (taken_not_granted (some_same is))),
)
release_keeps true None = ((λ is. is), (λ is. is))
release_keeps false o = ((λ is. is), (λ is. is))

leave_ended : (old new : Pool) (numbers freed : List ℕ) → Ends numbers freed old new → LeaveGranted old new numbers
leave_ended old new numbers freed ends = record {
  gone = λ n t has. becomes (status_of old n) Taken taken_not_granted (sym (now n true t) ∙ has);
  others = λ n f. (
    (λ has. (release_keeps (is_listed freed n) (status_of old n)).0 (sym (now n false f) ∙ has)),
    (λ has. now n false f ∙ (release_keeps (is_listed freed n) (status_of old n)).1 has),
  );
}
  where
    now : (n : ℕ) (c : Bool) → is_listed numbers n ≡ c
        → status_of new n ≡ cond c (option_map (λ _. Taken) (status_of old n)) (cond (is_listed freed n) (option_map released (status_of old n)) (status_of old n))
    now n c listed =
        ends n
        ∙ ap (λ b. cond b (option_map (λ _. Taken) (status_of old n)) (cond (is_listed freed n) (option_map released (status_of old n)) (status_of old n))) listed

-- a grant in the midst of those that are out, which is out no more
module _ (old new : Space) (front back : List GrantOut) (out : GrantOut) (are : AreOut old (front ++ out ∷ back)) where
  gone_out : LeaveGranted old.inodes new.inodes out.numbers.inodes → LeaveGranted old.blocks new.blocks out.numbers.blocks → AreOut new (front ++ back)
  gone_out inodes blocks = record {
    inodes =
        subst (ListsGranted new.inodes) (sym (flat_map-append (λ (one : GrantOut). one.numbers.inodes) front back))
        (left_listed old.inodes new.inodes (inodes_out front) out.numbers.inodes (inodes_out back) inodes
        (subst (ListsGranted old.inodes) (flat_map-append (λ (one : GrantOut). one.numbers.inodes) front (out ∷ back)) are.inodes));
    blocks =
        subst (ListsGranted new.blocks) (sym (flat_map-append (λ (one : GrantOut). one.numbers.blocks) front back))
        (left_listed old.blocks new.blocks (blocks_out front) out.numbers.blocks (blocks_out back) blocks
        (subst (ListsGranted old.blocks) (flat_map-append (λ (one : GrantOut). one.numbers.blocks) front (out ∷ back)) are.blocks));
  }

pub grants_come_back : GrantsComeBack
grants_come_back beside old new front back out is returned = record {
  stands = is.stands;
  keeps = is.keeps;
  right = returns_keep_maps beside.volume.layout beside.entries old new out.numbers is.right returned;
  are_out =
      gone_out old new front back out is.are_out (leave_returned old.inodes new.inodes out.numbers.inodes returned.inodes)
      (leave_returned old.blocks new.blocks out.numbers.blocks returned.blocks);
}

pub grants_end : GrantsEnd
grants_end old new front back out are ended =
    gone_out old new front back out are (leave_ended old.inodes new.inodes out.numbers.inodes _ ended.used.inodes)
    (leave_ended old.blocks new.blocks out.numbers.blocks _ ended.used.blocks)
