-- Why a file can't have a further row, by the values that are held.
use Rattle.std.proofs.Common.{◌≡◌, ◌<◌, ◌≤◌, ℕ, Bool, true, false, not, List, Option, Some, None, refl, sym, ap, ◌∙◌, arith}
use Rattle.std.specs.Prelude.{is_some, nat_le, nat_lt, if◌then◌else◌}
use Rattle.std.specs.Option.{option_or, option_map_or}
use Rattle.std.specs.FinMap.{get, len}
use Rattle.std.proofs.lemmas.Bool.Decides.{nat_tests}
use Rattle.sfs_base.specs.Name.{bucket}
use Rattle.sfs_base.specs.declared.numbers.NodeId.{NodeId}
use Rattle.tree_laws.specs.declared.call.Call.TheVariants as call
use Rattle.tree_laws.specs.declared.reply.Code.{Code}
use Rattle.tree_laws.specs.declared.reply.Code.TheVariants.{NoEntry, IsDir, Exists, NotPermitted, TooManyLinks, DirFull}
use Rattle.tree_laws.specs.Tree.{TreeState, row_of, is_alive, is_directory, count_of}
use Rattle.tree_laws.specs.Effect.{Adds}
use Rattle.tree_laws.specs.Verdict.{MOST_LINKS, verdict, refused, done, or_else, directory_fault, file_fault, link_fault, is_full}
use Rattle.mem_values.specs.declared.cell.FileCell.{FileCell}
use Rattle.mem_values.specs.declared.bucket.Bucket.{Bucket}
use Rattle.mem_values.specs.Stands.{ShowsBucket, file_links}
use Rattle.mem_calls.specs.Held.{is_linked}
use Rattle.mem_calls.specs.Changes.{link_code}
use Rattle.mem_calls.proofs.NamedRows.{row_in}

pub is_below : (a b : ℕ) → nat_lt a b ≡ true → a < b
is_below a b is = grind (arith, nat_tests)

pub linked_of : (o : Option FileCell) (f : FileCell) → o ≡ Some f → option_map_or is_linked o false ≡ true → 0 < f.links
linked_of o f is linked = is_below 0 f.links (sym (ap (λ x. option_map_or is_linked x false) is) ∙ linked)

pub at_most : (a n : ℕ) → a ≤ n → nat_le a n ≡ true
at_most a n le = grind (arith, nat_tests)

pub above : (a n : ℕ) → n < a → nat_le a n ≡ false
above a n lt = grind (arith, nat_tests)

module _ (tree : TreeState) (core : ℕ) (file dir : NodeId) (name : List ℕ) where
  abbrev rest : Option Code
  rest = option_or (directory_fault tree dir.0)
      (if is_some (row_of tree dir.0 name) then Some Exists else if nat_le MOST_LINKS
      (count_of tree.rows file.0) then Some TooManyLinks else if is_full tree dir.0 name then Some DirFull else None)

  pub link_by : (fault : Option Code) → link_fault tree file.0 dir.0 name ≡ fault
      → verdict tree core (call.Link file dir name) ≡ or_else fault (done (Adds dir.0 name file.0))
  link_by fault is = ap (λ f. or_else f (done (Adds dir.0 name file.0))) is

  pub link_refused : (code : Code) → file_fault tree file.0 ≡ Some code → verdict tree core (call.Link file dir name) ≡ refused (link_code code)
  link_refused code fault = link_by (Some (link_code code)) (by (is_alive tree file.0) (is_directory tree file.0) fault)
    where
      by : (a d : Bool) → (if not a then Some NoEntry else if d then Some IsDir else None) ≡ Some code
          → (if not a then Some NoEntry else if d then Some NotPermitted else rest) ≡ Some (link_code code)
      by false d is = let same : NoEntry ≡ code = cc (is) in ap (λ c. Some (link_code c)) same
      by true true is = let same : IsDir ≡ code = cc (is) in ap (λ c. Some (link_code c)) same
      by true false is = absurd (cc (is))

  pub no_directory : file_fault tree file.0 ≡ None → is_directory tree file.0 ≡ false
  no_directory fault = by (is_alive tree file.0) (is_directory tree file.0) fault
    where
      by : (a d : Bool) → ◌≡◌ {A = Option Code} (if not a then Some NoEntry else if d then Some IsDir else None) None → d ≡ false
      by false d is = absurd (cc (is))
      by true true is = absurd (cc (is))
      by true false is = refl

  module _ (fault : file_fault tree file.0 ≡ None) (place : directory_fault tree dir.0 ≡ None) (b : Bucket)
      (shows : ShowsBucket tree dir.0 (bucket name) b) where
    to_rest : link_fault tree file.0 dir.0 name ≡ rest
    to_rest = by (is_alive tree file.0) (is_directory tree file.0) fault
      where
        by : (a d : Bool) → ◌≡◌ {A = Option Code} (if not a then Some NoEntry else if d then Some IsDir else None) None
            → (if not a then Some NoEntry else if d then Some NotPermitted else rest) ≡ rest
        by false d is = absurd (cc (is))
        by true true is = absurd (cc (is))
        by true false is = refl

    chain : (row full most : Bool) → is_some (get b.rows name) ≡ row → nat_le MOST_LINKS (count_of tree.rows file.0) ≡ most → nat_le 4096 (len b.rows) ≡ full
        → link_fault tree file.0 dir.0 name ≡ (if row then Some Exists else if most then Some TooManyLinks else if full then Some DirFull else None)
    chain row full most row_is most_is full_is =
        to_rest ∙ (ap (λ f. option_or f
        (if is_some (row_of tree dir.0 name) then Some Exists else if nat_le MOST_LINKS
        (count_of tree.rows file.0) then Some TooManyLinks else if is_full tree dir.0 name then Some DirFull else None)) place
        ∙ (λ i. if (ap is_some (row_in tree dir.0 name b shows) ∙ row_is) i then Some Exists else if most_is i then Some TooManyLinks else if
        (ap (λ m. nat_le 4096 (len m)) (sym shows.rows) ∙ full_is) i then Some DirFull else None))

    counted : (links : ℕ) → links ≡ file_links tree file.0 → links ≡ count_of tree.rows file.0
    counted links is = is ∙ ap (λ d. if d then 0 else count_of tree.rows file.0) (no_directory fault)

    pub link_exists : is_some (get b.rows name) ≡ true → verdict tree core (call.Link file dir name) ≡ refused Exists
    link_exists row = link_by (Some Exists) (chain true (nat_le 4096 (len b.rows)) (nat_le MOST_LINKS (count_of tree.rows file.0)) row refl refl)

    pub link_most : (links : ℕ) → links ≡ file_links tree file.0 → is_some (get b.rows name) ≡ false → 65535 ≤ links
        → verdict tree core (call.Link file dir name) ≡ refused TooManyLinks
    link_most links is row le = link_by (Some TooManyLinks)
        (chain false (nat_le 4096 (len b.rows)) true row (ap (nat_le MOST_LINKS) (sym (counted links is)) ∙ at_most MOST_LINKS links le) refl)

    pub link_full : (links : ℕ) → links ≡ file_links tree file.0 → is_some (get b.rows name) ≡ false → links < 65535 → 4096 ≤ len b.rows
        → verdict tree core (call.Link file dir name) ≡ refused DirFull
    link_full links is row lt full = link_by (Some DirFull)
        (chain false true false row (ap (nat_le MOST_LINKS) (sym (counted links is)) ∙ above MOST_LINKS links lt) (at_most 4096 (len b.rows) full))

    pub link_done : (links : ℕ) → links ≡ file_links tree file.0 → is_some (get b.rows name) ≡ false → links < 65535 → len b.rows < 4096
        → verdict tree core (call.Link file dir name) ≡ done (Adds dir.0 name file.0)
    link_done links is row lt free = link_by None
        (chain false false false row (ap (nat_le MOST_LINKS) (sym (counted links is)) ∙ above MOST_LINKS links lt) (above 4096 (len b.rows) free))
