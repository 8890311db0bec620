-- What is known behind turns where none has failed, where one has, and before the first one.
use Rattle.std.specs.Option.{unwrap_or}
use Rattle.std.specs.FinMap.{empty, get-empty}
use Rattle.std.proofs.Common.{◌≡◌, ◌⊎◌, ◌<◌, ◌∙◌, ℕ, Bool, List, [], map, Option, Some, None, arith, inl, inr, refl, sym, ap, subst, nat_cmp}
use Rattle.sfs_base.proofs.BasicOptions.{none_some}
use Rattle.tree_laws.specs.declared.turns.Turn.{Turn}
use Rattle.cut_laws.specs.Closure.{every_entry, AreFlushed, none}
use Rattle.cut_laws.specs.Cut.{Cut, cut_of}
use Rattle.beside_laws.specs.Progress.{Standing, nobody}
use Rattle.flush_laws.specs.Volume.{Volume}
use Rattle.turn_laws.specs.Books.{Books, AreTurns, no_turns}
use Rattle.merge_laws.specs.Plays.{PlayState, nothing_played}
use Rattle.book_laws.specs.Imagined.{none_brought}
use Rattle.book_laws.specs.Midway.{books_beside}
use Rattle.book_laws.specs.Pairs.{run_with}
use Rattle.book_laws.specs.Walk.{Bookkeeping, BeginsWalk, books_begun, waits_at, IsBooked}
use Rattle.book_laws.proofs.Calm.{CalmSo, midway_of}

-- It is calm behind these turns, with these books.
pub record WalkedCalm (kept : Bookkeeping) (before most : ℕ) (front : List Turn) (at : PlayState) : Type 0 where
  pub quiet : at.failed ≡ None
  pub calm : CalmSo kept front at
  pub are : AreTurns before most (books_begun kept.start) front (books_beside (midway_of kept front at calm))

-- One of these turns has failed.
pub record WalkedFailed (kept : Bookkeeping) (before most : ℕ) (front : List Turn) (at : PlayState) : Type 0 where
  pub faults : ℕ
  pub stopped : at.failed ≡ Some faults
  pub books : Books
  pub are : AreTurns before most (books_begun kept.start) front books
  pub waiting : books.waiting ≡ map (waits_at kept.cores) at.waiting
  pub failed : books.failed ≡ Some faults

abbrev pub Walked : Bookkeeping → ℕ → ℕ → List Turn → PlayState → Type 0
Walked kept before most front at = WalkedCalm kept before most front at ⊎ WalkedFailed kept before most front at

-- So the books are kept.
pub booked : (kept : Bookkeeping) (before most : ℕ) (front : List Turn) (at : PlayState) → Walked kept before most front at
    → IsBooked kept before most front at
booked kept before most front at (inl walked) = record {
  books = books_beside (midway_of kept front at walked.calm);
  are = walked.are;
  waiting = refl;
  failed = sym walked.quiet;
  calm = λ e. record { volume = walked.calm.volume; imagined = walked.calm.imagined; used = walked.calm.used; books_are = refl };
}
booked kept before most front at (inr walked) = record {
  books = walked.books;
  are = walked.are;
  waiting = walked.waiting;
  failed = walked.failed ∙ sym walked.stopped;
  calm = λ e. absurd (none_some (sym e ∙ walked.stopped));
}

module _ (kept : Bookkeeping) (before most : ℕ) (begins : BeginsWalk kept.start) where
  -- before the first turn
  abbrev start : Volume
  start = kept.start

  pub standing_first : Standing (run_with start [])
  standing_first = record {
    flushed =
        subst (λ (c : Cut). AreFlushed start.first start.history every_entry [] c start.inodes) (sym begins.cut)
        (subst (AreFlushed start.first start.history every_entry [] empty) (sym begins.inodes) none);
    left = λ node. nobody (λ other one. absurd one) (cut_first node) (ap (λ (f : ℕ → Bool). f node) begins.inodes);
    passed = λ change one within. absurd (none_within change.stamp (subst (λ (n : ℕ). change.stamp < n) (cut_first change.directory) within));
    members = λ commit node one. absurd one;
    numbered = λ one two here. absurd here;
  }
    where
      cut_first : (node : ℕ) → cut_of start.cut node ≡ 0
      cut_first node = ap (λ (c : Cut). cut_of c node) begins.cut ∙ ap (λ (o : Option ℕ). unwrap_or o 0) (get-empty nat_cmp node)

      none_within : (stamp : ℕ) → stamp < 0 → ⊥
      none_within stamp low = omega (arith, low)

  calm_first : CalmSo kept [] nothing_played
  calm_first = record {
    volume = start;
    imagined = record {
      stands = begins.stands;
      imagines = none_brought;
      beside = record { standing = standing_first; opens = λ stamp one. absurd one; apart = λ stamp other one. absurd one };
    };
    used = [];
    used_by = λ number one. absurd one;
    grants = record { own = λ stamp one. absurd one; none = λ stamp e. refl };
  }

  pub walked_first : Walked kept before most [] nothing_played
  unfolding calm_first
  walked_first = inl (record {
    quiet = refl;
    calm = calm_first;
    are =
        subst (AreTurns before most (books_begun start) []) (λ i. record (books_begun start) {
          machine = record (books_begun start).machine { cut = (sym begins.cut) i; inodes = (sym begins.inodes) i };
        }) no_turns;
  })
