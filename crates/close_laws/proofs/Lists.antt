-- Parts given once, stamps that differ, and turns behind a moment.
use Rattle.std.proofs.Common.{◌++◌, ◌≡◌, ◌∷◌, if◌then◌else◌, ◌∙◌, ◌≢◌, ◌<◌, List, ℕ, [], refl, Bool, map, filter, true, false, sym, inr, ap, inl, All, nat_le, arith, suc}
use Rattle.std.proofs.lemmas.Bool.Decides.{nat_tests}
use Rattle.sfs_image.specs.Part.{Part}
use Rattle.tree_laws.specs.declared.turns.Turn.{Turn}
use Rattle.cut_laws.specs.Closure.{Flush}
use Rattle.cut_laws.specs.Rules.{IsOneOf}
use Rattle.cut_laws.proofs.Basics.{in_either}
use Rattle.cut_laws.proofs.Listed.{from_map}
use Rattle.crash_laws.specs.Listed.{StampsDiffer}
use Rattle.book_laws.specs.Brings.{Bringing}
use Rattle.slot_image_laws.specs.Commits.{parts_over}
use Rattle.slot_image_laws.specs.Images.{parts_kept}
use Rattle.imagined_laws.specs.Parts.{parts_once}
use Rattle.close_laws.specs.Maps.{Numbered, bringing_of}
use Rattle.close_laws.specs.Fronts.{DifferBy}

-- parts once some more were given
pub once_both : (brought more : List Bringing) (base : ℕ → Part) → parts_once (brought ++ more) base ≡ parts_once more (parts_once brought base)
once_both [] more base = refl
once_both (one ∷ brought) more base = once_both brought more (parts_over one.parts base)

pub kept_once : (named : Numbered) (kept : ℕ → Bool) (numbers : List ℕ) (base : ℕ → Part)
    → parts_kept (λ number. (bringing_of named number).parts) kept numbers base ≡ parts_once (map (bringing_of named) (filter kept numbers)) base
kept_once named kept [] base = refl
kept_once named kept (number ∷ numbers) base =
    by (kept number) (kept_once named kept numbers base) (kept_once named kept numbers (parts_over (bringing_of named number).parts base))
  where
    by : (b : Bool) → parts_kept (λ n. (bringing_of named n).parts) kept numbers base ≡ parts_once (map (bringing_of named) (filter kept numbers)) base
        → parts_kept (λ n. (bringing_of named n).parts) kept numbers (parts_over (bringing_of named number).parts base)
        ≡ parts_once (map (bringing_of named) (filter kept numbers)) (parts_over (bringing_of named number).parts base)
        → parts_kept (λ n. (bringing_of named n).parts) kept numbers (if b then parts_over (bringing_of named number).parts base else base)
        ≡ parts_once (map (bringing_of named) (if b then number ∷ filter kept numbers else filter kept numbers)) base
    by true without more = more
    by false without more = without

-- stamps that differ are those of fsyncs that differ
pub stamps_apart : (flush_at_stamp : ℕ → Flush) (stamps : List ℕ) → DifferBy (λ stamp. stamp) stamps
    → ((stamp : ℕ) → IsOneOf stamps stamp → (flush_at_stamp stamp).stamp ≡ stamp) → StampsDiffer (map flush_at_stamp stamps)
stamps_apart flush_at_stamp [] differ own = tt
stamps_apart flush_at_stamp (stamp ∷ stamps) differ own = (
  (λ other one same.
      let from = from_map flush_at_stamp stamps other one in
      differ.0 from.0 from.1 (sym (own from.0 (inr from.1)) ∙ (ap (λ (f : Flush). f.stamp) from.2 ∙ (same ∙ own stamp (inl refl))))),
  stamps_apart flush_at_stamp stamps differ.1 (λ other one. own other (inr one)),
)

pub differ_both : (xs ys : List ℕ) → DifferBy (λ stamp. stamp) xs → DifferBy (λ stamp. stamp) ys
    → ((x y : ℕ) → IsOneOf xs x → IsOneOf ys y → y ≢ x) → DifferBy (λ stamp. stamp) (xs ++ ys)
differ_both [] ys one two apart = two
differ_both (x ∷ xs) ys one two apart = (
  (λ other among. elim (in_either xs ys other among) [
    | inl first ↦ one.0 other first
    | inr second ↦ apart x other (inl refl) second
  ]),
  differ_both xs ys one.1 two (λ z y among there. apart z y (inr among) there),
)

pub mapped_differ : (key : ℕ → ℕ) (numbers : List ℕ) → DifferBy key numbers → DifferBy (λ stamp. stamp) (map key numbers)
mapped_differ key [] differ = tt
mapped_differ key (number ∷ numbers) differ = (
  (λ other among. let from = from_map key numbers other among in λ same. differ.0 from.0 from.1 (from.2 ∙ same)),
  mapped_differ key numbers differ.1,
)

-- none of a list passes
pub none_until : (moment : ℕ) (back : List Turn) → All (λ (turn : Turn). moment < turn.now) back → filter (λ (turn : Turn). nat_le turn.now moment) back ≡ []
none_until moment [] all = refl
none_until moment (turn ∷ back) all =
    ap (λ b. if b then turn ∷ filter (λ (t : Turn). nat_le t.now moment) back else filter (λ (t : Turn). nat_le t.now moment) back)
    (late turn.now (all 0 turn (omega arith)))
    ∙ none_until moment back (λ i d less. all (suc i) d (omega (arith, less)))
  where
    late : (now : ℕ) → moment < now → nat_le now moment ≡ false
    late now less = grind (arith, nat_tests, less)
