-- Trees that stay sound from the root alone on.
use Rattle.std.proofs.Common.{◌≡◌, ℕ, ◌+◌, ◌<◌, false, List, [], Some, inl, inr, refl, sym, ap, subst, ◌∙◌, arith}
use Rattle.std.specs.Option.{option_map_or}
use Rattle.std.specs.Ordering.{nat_cmp}
use Rattle.std.proofs.lemmas.List.{get_or-replicate, length-replicate}
use Rattle.std.specs.FinMap.{get, empty, get-empty}
use Rattle.sfs_base.specs.declared.numbers.Kind.TheVariants.{Directory}
use Rattle.tree_laws.specs.Order.{key_cmp}
use Rattle.tree_laws.specs.Tree.{Node, is_directory_kind}
use Rattle.tree_laws.specs.Verdict.{verdict}
use Rattle.tree_laws.specs.Laws.{RootIsSound, CallsKeepSound, CallsFit, DrawnIsNew, DrawnApart}
use Rattle.sfs_base.proofs.BasicOptions.{none_some}
use Rattle.tree_laws.proofs.KeepsNodes.{node_cases}
use Rattle.tree_laws.proofs.Kept.{IsSound-kept, IsNumbered-kept}
use Rattle.tree_laws.proofs.Fitting.{verdict_fits}
use Rattle.tree_laws.proofs.Numbers.{fresh_number, same_drawn}
use Rattle.sfs_base.proofs.BasicOptions.{none_not_some}

pub calls_fit : CallsFit
calls_fit tree core c is lt = verdict_fits tree core is.sound is.numbered lt c

pub calls_keep_sound : CallsKeepSound
calls_keep_sound tree core c is lt =
    let fits = calls_fit tree core c is lt in
    record {
      sound = IsSound-kept tree core (verdict tree core c).effect (verdict tree core c).makes is.sound fits;
      numbered = IsNumbered-kept tree core (verdict tree core c).effect (verdict tree core c).makes is.numbered lt fits;
    }

pub drawn_number_is_new : DrawnIsNew
drawn_number_is_new tree core is lt room = fresh_number tree core is.numbered lt room

pub drawn_numbers_are_apart : DrawnApart
drawn_numbers_are_apart tree core other before other_before lt less same = same_drawn tree.first tree.share core other before other_before lt less same

no_row : {X : Type 0} (directory : ℕ) (name : List ℕ) (child : ℕ) → get (empty {X = ℕ} {R = key_cmp}) (directory, name) ≡ Some child → X
no_row directory name child row = absurd (none_some (sym (get-empty key_cmp (directory, name)) ∙ row))

pub root_alone_is_sound : RootIsSound
root_alone_is_sound first share cores low = record {
  sound = record {
    root = elim (node_cases empty 0 (record { kind = Directory; bytes = [] }) 0) [
      | inl here ↦ ap (λ o. option_map_or (λ (n : Node). is_directory_kind n.kind) o false) here.1
      | inr other ↦ absurd (other.0 refl)
    ];
    unnamed = λ d n row. no_row d n 0 row;
    node = λ d n c row. no_row d n c row;
    once = λ d o n m c row other kind. no_row d n c row;
    holds = λ d n c row. no_row d n c row;
    climbs = λ d n c row kind. no_row d n c row;
  };
  numbered = record {
    known = λ x some. inl (elim (node_cases empty 0 (record { kind = Directory; bytes = [] }) x) [
      | inl here ↦ subst (λ y. y < first) (sym here.0) low
      | inr other ↦ absurd (none_not_some _ (other.1 ∙ get-empty nat_cmp x) some)
    ]);
    within = λ core lt. let less : core < cores = subst (λ n. core < n) (length-replicate cores 0) lt in no_more _ share (get_or-replicate cores core 0 0 less);
  };
}
  where
    no_more : (n m : ℕ) → n ≡ 0 → n < m + 1
    no_more n m e = omega arith
