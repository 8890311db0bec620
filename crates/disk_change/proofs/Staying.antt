-- What becomes of the nodes of a commit, beside what the disk has of them.
use Rattle.std.proofs.Common.{◌≡◌, ℕ, ◌+◌, ◌<◌, Bool, true, false, cond, List, [], ◌∷◌, ◌++◌, length, get_or, take, map, filter, not, Option, refl, sym, ap, subst, ◌∙◌}
use Rattle.std.specs.Option.{option_map_or}
use Rattle.std.proofs.lemmas.List.{map-append, append-nil}
use Rattle.std.proofs.lemmas.List.Elements.{All-push, filter_more}
use Rattle.sfs_base.specs.declared.numbers.Kind.{Kind}
use Rattle.sfs_base.specs.declared.numbers.Kind.TheVariants.{File, Directory}
use Rattle.sfs_image.specs.Slot.{Row}
use Rattle.keyed_list.specs.Ascending.{AscendBy, item_with}
use Rattle.keyed_list.proofs.Searched.{item_at}
use Rattle.disk_nodes.specs.Nodes.{entry_node}
use Rattle.disk_nodes.specs.declared.old.OldEntry.{OldEntry}
use Rattle.disk_change.specs.declared.directory_net.DirectoryNet.{DirectoryNet}
use Rattle.disk_change.specs.Parts.{SeatParts, HavePatches, seat_in, seat_with, slots_begun}
use Rattle.disk_change.specs.Patched.{IsPatchFor}
use Rattle.disk_change.specs.Planned.{seated_old, has_listed_node}
use Rattle.disk_change.specs.Seated.{CommitChanges, Begun, Seated, begun_old, net_of_node, seated, seated_as}

-- a node is seated as itself, with its number
node_seated : (changes : CommitChanges) (begun : Begun) → (seated changes begun).node ≡ begun.node
node_seated changes begun = by begun.kind
  where
    by : (kind : Kind) → (seated_as kind changes begun).node ≡ begun.node
    by File = refl
    by Directory = refl

number_seated : (changes : CommitChanges) (begun : Begun) → (seated changes begun).number ≡ begun.number
number_seated changes begun = by begun.kind
  where
    by : (kind : Kind) → (seated_as kind changes begun).number ≡ begun.number
    by File = refl
    by Directory = refl

module _ (changes : CommitChanges) (old : List OldEntry) (seat : SeatParts) (slots : List (List (Option Row))) (begun : Begun)
    (is : seat_with slots seat ≡ seated changes begun) where
  pub node_is : seat.node ≡ begun.node
  node_is = ap (λ (s : Seated). s.node) is ∙ node_seated changes begun

  pub number_is : seat.number ≡ begun.number
  number_is = ap (λ (s : Seated). s.number) is ∙ number_seated changes begun

  -- a node whose slots are those that it begins with
  pub seated_in : slots_begun old begun.number begun.node ≡ slots → seat_in old seat ≡ seated changes begun
  seated_in own = ap (λ l. seat_with l seat) ((λ i. slots_begun old (number_is i) (node_is i)) ∙ own) ∙ is

  pub patch_in : (nets : List DirectoryNet) → slots_begun old begun.number begun.node ≡ slots
      → IsPatchFor (net_of_node nets seat.node) seat.end slots seat.patch
      → IsPatchFor (net_of_node nets seat.node) seat.end (slots_begun old seat.number seat.node) seat.patch
  patch_in nets own =
      subst (λ l. IsPatchFor (net_of_node nets seat.node) seat.end l seat.patch) (sym ((λ i. slots_begun old (number_is i) (node_is i)) ∙ own))

-- a node that has an inode begins with the slots of its entry
pub old_begins : (old : List OldEntry) → AscendBy entry_node old → (i : ℕ) (entry : OldEntry) → i < length old → entry ≡ get_or old i entry
    → slots_begun old (begun_old entry).number (begun_old entry).node ≡ entry.old.kept.slots
old_begins old up i entry within is =
    ap (λ (e : OldEntry). option_map_or (λ (one : OldEntry). one.old.kept.slots) (item_with entry_node (entry_node e) old) []) is
    ∙ ap (λ (o : Option OldEntry). option_map_or (λ (one : OldEntry). one.old.kept.slots) o []) (item_at entry_node old up i entry within)
    ∙ ap (λ (e : OldEntry). e.old.kept.slots) (sym is)

-- one node more that stays, and one that leaves
module _ (changes : CommitChanges) (old : List OldEntry) (leaving : List ℕ) (i : ℕ) (entry : OldEntry) (within : i < length old) (is : entry ≡ get_or old i entry)
    (seats : List SeatParts)
    (was : map (seat_in old) seats ≡ map (seated_old changes) (filter (λ e. not (has_listed_node leaving e)) (take i old))) where
  more : (b : Bool) → has_listed_node leaving entry ≡ b
      → filter (λ e. not (has_listed_node leaving e)) (take (i + 1) old)
      ≡ filter (λ e. not (has_listed_node leaving e)) (take i old) ++ cond (not b) (entry ∷ []) []
  more b listed =
      filter_more (λ e. not (has_listed_node leaving e)) old i entry within
      ∙ (λ j. filter (λ e. not (has_listed_node leaving e)) (take i old) ++ cond (not (has_listed_node leaving (sym is j))) (sym is j ∷ []) [])
      ∙ ap (λ l. filter (λ e. not (has_listed_node leaving e)) (take i old) ++ cond (not l) (entry ∷ []) []) listed

  pub stays_more : has_listed_node leaving entry ≡ false → (seat : SeatParts) → seat_in old seat ≡ seated_old changes entry
      → map (seat_in old) (seats ++ seat ∷ []) ≡ map (seated_old changes) (filter (λ e. not (has_listed_node leaving e)) (take (i + 1) old))
  stays_more listed seat own =
      map-append (seat_in old) seats (seat ∷ []) ∙ (λ j. was j ++ own j ∷ [])
      ∙ sym (map-append (seated_old changes) (filter (λ e. not (has_listed_node leaving e)) (take i old)) (entry ∷ []))
      ∙ sym (ap (map (seated_old changes)) (more false listed))

  pub leaves_more : has_listed_node leaving entry ≡ true
      → map (seat_in old) seats ≡ map (seated_old changes) (filter (λ e. not (has_listed_node leaving e)) (take (i + 1) old))
  leaves_more listed =
      was ∙ sym (ap (map (seated_old changes)) (more true listed ∙ append-nil (filter (λ e. not (has_listed_node leaving e)) (take i old))))

pub patches_more : (old : List OldEntry) (nets : List DirectoryNet) (seats : List SeatParts) (seat : SeatParts) → HavePatches old nets seats
    → IsPatchFor (net_of_node nets seat.node) seat.end (slots_begun old seat.number seat.node) seat.patch → HavePatches old nets (seats ++ seat ∷ [])
patches_more old nets seats seat each own =
    All-push (λ (parts : SeatParts). IsPatchFor (net_of_node nets parts.node) parts.end (slots_begun old parts.number parts.node) parts.patch) seats seat each own
